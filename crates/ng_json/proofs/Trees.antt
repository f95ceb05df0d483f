-- The twin of a value that was read, part by part.
use Rattle.std.proofs.Common.{◌≡◌, ℕ, ◌+◌, ◌<◌, ◌≤◌, Bool, true, false, cond, List, [], ◌∷◌, ◌++◌, drop, length, get_or, map, nat_le, Option, Some, None, option_map, option_and_then, Result, Ok, Err, IfOk, IfErr, IfSome, ℤ, suc, max, refl, sym, ap, ◌∙◌, subst, arith, le-leb, leb-true}
use Rattle.std.proofs.lemmas.Option.{IfSome_then}
use Rattle.std.proofs.lemmas.List.{drop_more, drop_all, map-append}
use Rattle.std.specs.Cmp.Lexicographic.{slice_cmp}
use Rattle.std.specs.Ordering.{nat_cmp, match_ordering}
use Rattle.std.specs.declared.cmp.Ordering.{Ordering}
use Rattle.std.specs.declared.cmp.Ordering.TheVariants.{Less, Equal, Greater}
use Rattle.serde_json.specs.Data as json
use Rattle.serde_json.specs.Find.{as_i64}
use Rattle.serde_json.specs.View.{view, items_view}
use Rattle.serde_json.specs.declared.value.Value.{Value as Json}
use Rattle.ng_bencode.specs.Tree.{Tree, Int, Items, Dict, Trees, no_items, item, Entries, no_entries, entry, depth, items_depth, entries_depth, items_of, tree_of, trees_of}
use Rattle.ng_bencode.specs.declared.value.Value.{Value}
use Rattle.ng_json.specs.Strings.{bytes_of_string}
use Rattle.ng_json.specs.Twins.{tree_in, trees_in, pairs_in, with_pair_in_order, twin, IsJson, SaysInJson, HasNoTwin}
use Rattle.ng_json.specs.declared.errors.JsonFault.{JsonFault}
use Rattle.ng_json.specs.declared.errors.JsonFault.TheVariants.{NoTwin}

-- ---- the values of a list that grows

-- the trees of a list, before these
abbrev pub before_trees : List Tree → Trees → Trees
before_trees [] more = more
before_trees (tree ∷ trees) more = item tree (before_trees trees more)

push-before_trees : (trees : List Tree) (tree : Tree) (more : Trees) → before_trees trees (item tree more) ≡ before_trees (trees ++ tree ∷ []) more
push-before_trees [] tree more = refl
push-before_trees (first ∷ trees) tree more = ap (item first) (push-before_trees trees tree more)

before_none : (trees : List Tree) → before_trees trees no_items ≡ items_of trees
before_none [] = refl
before_none (tree ∷ trees) = ap (item tree) (before_none trees)

one_more : (trees : List Tree) (tree : Tree) (r : Option Trees) → option_map (before_trees trees) (option_map (item tree) r) ≡ option_map (before_trees (trees ++ tree ∷ [])) r
one_more trees tree None = refl
one_more trees tree (Some more) = ap Some (push-before_trees trees tree more)

pub next_item : (xs : List Json) (i : ℕ) (x : Json) → i < length xs → x ≡ get_or xs i x → items_view (drop i xs) ≡ json.item (view x) (items_view (drop (i + 1) xs))
next_item xs i x low is = ap items_view (drop_more xs i x low ∙ ap (λ y. y ∷ drop (i + 1) xs) (sym is))

pub items_more : (all rest : json.Items) (d : json.Data) (ds : json.Items) (found reserved new : List Value) (value : Value) → rest ≡ json.item d ds → tree_in d ≡ Some (tree_of value)
    → reserved ≡ found → new ≡ reserved ++ value ∷ []
    → trees_in all ≡ option_map (before_trees (map tree_of found)) (trees_in rest) → trees_in all ≡ option_map (before_trees (map tree_of new)) (trees_in ds)
items_more all rest d ds found reserved new value is twin_is kept pushed read =
    let grown : map tree_of found ++ tree_of value ∷ [] ≡ map tree_of new = sym (ap (map tree_of) (pushed ∙ ap (λ l. l ++ value ∷ []) kept) ∙ map-append tree_of found (value ∷ [])) in
    read ∙ ap (λ r. option_map (before_trees (map tree_of found)) (trees_in r)) is ∙ rw twin_is (one_more (map tree_of found) (tree_of value) (trees_in ds))
    ∙ ap (λ trees. option_map (before_trees trees) (trees_in ds)) grown

pub items_end : (all : json.Items) (xs : List Json) (i : ℕ) (found : List Value) → length xs ≤ i
    → trees_in all ≡ option_map (before_trees (map tree_of found)) (trees_in (items_view (drop i xs))) → trees_in all ≡ Some (trees_of found)
items_end all xs i found end read =
    read ∙ ap (λ r. option_map (before_trees (map tree_of found)) (trees_in (items_view r))) (drop_all i xs end) ∙ ap Some (before_none (map tree_of found))

-- ---- a key that is there

stuck_at : (key : List ℕ) (ms : json.Members) (found : Entries) (r : Option Tree) → ((tree : Tree) → with_pair_in_order key tree found ≡ None)
    → option_and_then (λ tree. option_and_then (λ more. pairs_in ms more) (with_pair_in_order key tree found)) r ≡ None
stuck_at key ms found None there = refl
stuck_at key ms found (Some tree) there = rw (there tree) refl

pub stuck_pair : (text : List ℕ) (d : json.Data) (ms : json.Members) (found : Entries) → ((tree : Tree) → with_pair_in_order (bytes_of_string text) tree found ≡ None) → pairs_in (json.member text d ms) found ≡ None
stuck_pair text d ms found there = stuck_at (bytes_of_string text) ms found (tree_in d) there

-- ---- the whole

pub twin_some : (d : json.Data) (tree : Tree) → json.depth d ≤ 16 → tree_in d ≡ Some tree → twin d ≡ Some tree
unfolding twin
twin_some d tree deep is = rw (le-leb (json.depth d) 16 deep) is

unless_deep : (b : Bool) (d : json.Data) → nat_le (json.depth d) 16 ≡ b → (json.depth d ≤ 16 → tree_in d ≡ None) → cond b (tree_in d) None ≡ None
unless_deep true d e none = none (leb-true (json.depth d) 16 e)
unless_deep false d e none = refl

pub twin_none : (d : json.Data) → (json.depth d ≤ 16 → tree_in d ≡ None) → twin d ≡ None
unfolding twin
twin_none d none = unless_deep (nat_le (json.depth d) 16) d refl none

pub says_so : (body : List ℕ) (d : json.Data) (r : Result Value JsonFault) → IsJson body d → IfOk r (λ value. json.depth d ≤ 16) → IfOk r (λ value. tree_in d ≡ Some (tree_of value))
    → IfOk r (λ value. SaysInJson body (tree_of value))
says_so body d (Ok value) is deep has = record { value = d; is_json = is; is_twin = twin_some d (tree_of value) deep has }
says_so body d (Err fault) is deep has = tt

pub says_none : (body : List ℕ) (d : json.Data) (r : Result Value JsonFault) → IsJson body d → IfErr r (λ fault. fault ≡ NoTwin → json.depth d ≤ 16 → tree_in d ≡ None)
    → IfErr r (λ fault. fault ≡ NoTwin → HasNoTwin body)
says_none body d (Ok value) is none = tt
says_none body d (Err fault) is none = λ e. record { value = d; is_json = is; is_none = twin_none d (none e) }

-- ---- how deep it is

with_shallow : (key : List ℕ) (t : Tree) (es : Entries) → IfSome (with_pair_in_order key t es) (λ more. entries_depth more ≡ max (depth t) (entries_depth es))
with_shallow key t no_entries = refl
with_shallow key t (entry other u rest) = by (with_pair_in_order key t rest) (with_shallow key t rest) (slice_cmp nat_cmp key other)
  where
    by : (r : Option Entries) → IfSome r (λ more. entries_depth more ≡ max (depth t) (entries_depth rest)) → (at : Ordering)
        → IfSome (match_ordering at (Some (entry key t (entry other u rest))) None (option_map (entry other u) r)) (λ more. entries_depth more ≡ max (depth t) (entries_depth (entry other u rest)))
    by r h Less = refl
    by r h Equal = tt
    by None h Greater = tt
    by (Some more) h Greater = omega (arith, h)

ints_shallow : (r : Option ℤ) → IfSome (option_map Int r) (λ t. depth t ≤ 0)
ints_shallow None = tt
ints_shallow (Some z) = omega arith

lists_shallow : (r : Option Trees) (n : ℕ) → IfSome r (λ ts. items_depth ts ≤ n) → IfSome (option_map Items r) (λ t. depth t ≤ suc n)
lists_shallow None n h = tt
lists_shallow (Some ts) n h = omega (arith, h)

dicts_shallow : (r : Option Entries) (n : ℕ) → IfSome r (λ es. entries_depth es ≤ max n 0) → IfSome (option_map Dict r) (λ t. depth t ≤ suc n)
dicts_shallow None n h = tt
dicts_shallow (Some es) n h = omega (arith, h)

next_shallow : (r : Option Tree) (rs : Option Trees) (m n : ℕ) → IfSome r (λ t. depth t ≤ m) → IfSome rs (λ ts. items_depth ts ≤ n)
    → IfSome (option_and_then (λ t. option_map (item t) rs) r) (λ ts. items_depth ts ≤ max m n)
next_shallow None rs m n h k = tt
next_shallow (Some t) None m n h k = tt
next_shallow (Some t) (Some ts) m n h k = omega (arith, h, k)

put_shallow : (ms : json.Members) (found : Entries) (t : Tree) (m : ℕ) → depth t ≤ m → (p : Option Entries) → IfSome p (λ more. entries_depth more ≡ max (depth t) (entries_depth found))
    → ((more : Entries) → IfSome (pairs_in ms more) (λ es. entries_depth es ≤ max (json.members_depth ms) (entries_depth more)))
    → IfSome (option_and_then (λ more. pairs_in ms more) p) (λ es. entries_depth es ≤ max (max m (json.members_depth ms)) (entries_depth found))
put_shallow ms found t m h None k all = tt
put_shallow ms found t m h (Some more) k all = IfSome_then (pairs_in ms more) (all more) (λ es e. omega (arith, e, k, h))

pair_shallow : (r : Option Tree) (text : List ℕ) (ms : json.Members) (found : Entries) (m : ℕ) → IfSome r (λ t. depth t ≤ m)
    → ((more : Entries) → IfSome (pairs_in ms more) (λ es. entries_depth es ≤ max (json.members_depth ms) (entries_depth more)))
    → IfSome (option_and_then (λ t. option_and_then (λ more. pairs_in ms more) (with_pair_in_order (bytes_of_string text) t found)) r) (λ es. entries_depth es ≤ max (max m (json.members_depth ms)) (entries_depth found))
pair_shallow None text ms found m h all = tt
pair_shallow (Some t) text ms found m h all = put_shallow ms found t m h (with_pair_in_order (bytes_of_string text) t found) (with_shallow (bytes_of_string text) t found) all

mutual
  twin_shallow : (d : json.Data) → IfSome (tree_in d) (λ t. depth t ≤ json.depth d)
  twin_shallow json.null = tt
  twin_shallow (json.boolean b) = tt
  twin_shallow (json.number n) = ints_shallow (as_i64 n)
  twin_shallow (json.string text) = omega arith
  twin_shallow (json.array ds) = lists_shallow (trees_in ds) (json.items_depth ds) (items_shallow ds)
  twin_shallow (json.object ms) = dicts_shallow (pairs_in ms no_entries) (json.members_depth ms) (members_shallow ms no_entries)

  items_shallow : (ds : json.Items) → IfSome (trees_in ds) (λ ts. items_depth ts ≤ json.items_depth ds)
  items_shallow json.no_items = omega arith
  items_shallow (json.item d rest) = next_shallow (tree_in d) (trees_in rest) (json.depth d) (json.items_depth rest) (twin_shallow d) (items_shallow rest)

  members_shallow : (ms : json.Members) (found : Entries) → IfSome (pairs_in ms found) (λ es. entries_depth es ≤ max (json.members_depth ms) (entries_depth found))
  members_shallow json.no_members found = omega arith
  members_shallow (json.member text d rest) found = pair_shallow (tree_in d) text rest found (json.depth d) (twin_shallow d) (members_shallow rest)

pub depths_so : (d : json.Data) (r : Result Value JsonFault) → IfOk r (λ value. json.depth d ≤ 16) → IfOk r (λ value. tree_in d ≡ Some (tree_of value)) → IfOk r (λ value. depth (tree_of value) ≤ 16)
depths_so d (Ok value) deep is = let h : depth (tree_of value) ≤ json.depth d = subst (λ r. IfSome r (λ t. depth t ≤ json.depth d)) is (twin_shallow d) in omega (arith, h, deep)
depths_so d (Err fault) deep is = tt
