-- Where a member and a pair stand in their order.
use Rattle.std.proofs.Common.{◌≡◌, ℕ, zero, suc, ◌+◌, ◌<◌, ◌≤◌, List, [], ◌∷◌, ◌++◌, take, drop, length, get_or, insert, Option, Some, None, option_map, refl, sym, ap, ◌∙◌, arith, add-one}
use Rattle.std.proofs.Math.Seq.{take-suc}
use Rattle.std.proofs.lemmas.List.{drop_more, drop_all}
use Rattle.std.specs.Borrow.{Bor}
use Rattle.std.specs.Cmp.Lexicographic.{slice_cmp}
use Rattle.std.specs.Ordering.{nat_cmp, match_ordering}
use Rattle.std.specs.declared.cmp.Ordering.{Ordering}
use Rattle.std.specs.declared.cmp.Ordering.TheVariants.{Less, Equal, Greater}
use Rattle.serde_json.specs.Data as json
use Rattle.ng_bencode.specs.Room.{Room}
use Rattle.ng_bencode.specs.Tree.{Tree, Entries, entry, tree_of, trees_of, pairs_of}
use Rattle.ng_bencode.specs.declared.value.Value.{Value}
use Rattle.ng_json.specs.Members.{members_in}
use Rattle.ng_json.specs.Strings.{string_of_bytes}
use Rattle.ng_json.specs.Twins.{with_pair_in_order}
use Rattle.ng_json.specs.JsonText.{data_of, items_data, members_data, with_member}

abbrev pub Member : Type 0
Member = Room ℕ × Bor Value

abbrev pub Pair : Type 0
Pair = Room ℕ × Value

-- ---- members

-- the members of a list, before these
abbrev pub before_members : List Member → json.Members → json.Members
before_members [] ms = ms
before_members (m ∷ front) ms = json.member m.0.list (data_of (tree_of m.1.now)) (before_members front ms)

before_members-append : (front : List Member) (m : Member) (ms : json.Members) → before_members (front ++ m ∷ []) ms ≡ before_members front (json.member m.0.list (data_of (tree_of m.1.now)) ms)
before_members-append [] m ms = refl
before_members-append (x ∷ front) m ms = ap (json.member x.0.list (data_of (tree_of x.1.now))) (before_members-append front m ms)

members_in-append : (front back : List Member) → members_in (front ++ back) ≡ before_members front (members_in back)
members_in-append [] back = refl
members_in-append (x ∷ front) back = ap (json.member x.0.list (data_of (tree_of x.1.now))) (members_in-append front back)

-- the member goes after the first i
abbrev pub GoesPast : List ℕ → List Member → ℕ → Type 0
GoesPast key all i = (d : json.Data) → with_member key d (members_in all) ≡ before_members (take i all) (with_member key d (members_in (drop i all)))

not_less : (o : Ordering) → (o ≡ Less → ⊥) → (a b : json.Members) → match_ordering o a b b ≡ b
not_less Less other a b = absurd (other refl)
not_less Equal other a b = refl
not_less Greater other a b = refl

pub goes_on : (key : List ℕ) (all : List Member) (i : ℕ) (m : Member) → i < length all → m ≡ get_or all i m → (slice_cmp nat_cmp key m.0.list ≡ Less → ⊥) → GoesPast key all i → GoesPast key all (i + 1)
goes_on key all i m low is other past d =
    let value = data_of (tree_of m.1.now) in
    let here : drop i all ≡ m ∷ drop (i + 1) all = drop_more all i m low ∙ ap (λ x. x ∷ drop (i + 1) all) (sym is) in
    let front : take (i + 1) all ≡ take i all ++ m ∷ [] = rw add-one (take-suc all i m low) ∙ ap (λ x. take i all ++ x ∷ []) (sym is) in
    past d ∙ ap (λ back. before_members (take i all) (with_member key d (members_in back))) here
    ∙ ap (before_members (take i all)) (not_less (slice_cmp nat_cmp key m.0.list) other (json.member key d (json.member m.0.list value (members_in (drop (i + 1) all)))) (json.member m.0.list value (with_member key d (members_in (drop (i + 1) all)))))
    ∙ sym (ap (λ f. before_members f (with_member key d (members_in (drop (i + 1) all)))) front ∙ before_members-append (take i all) m _)

pub goes_before : (key : List ℕ) (all : List Member) (i : ℕ) (m : Member) → i < length all → m ≡ get_or all i m → slice_cmp nat_cmp key m.0.list ≡ Less → GoesPast key all i
    → (name : Room ℕ) (value : Bor Value) → name.list ≡ key → members_in (insert all i (name, value)) ≡ with_member key (data_of (tree_of value.now)) (members_in all)
goes_before key all i m low is less past name value named =
    let d = data_of (tree_of value.now) in
    let here : drop i all ≡ m ∷ drop (i + 1) all = drop_more all i m low ∙ ap (λ x. x ∷ drop (i + 1) all) (sym is) in
    members_in-append (take i all) ((name, value) ∷ drop i all)
    ∙ ap (λ k. before_members (take i all) (json.member k d (members_in (drop i all)))) named
    ∙ ap (λ back. before_members (take i all) (json.member key d (members_in back))) here
    ∙ sym (past d ∙ ap (λ back. before_members (take i all) (with_member key d (members_in back))) here ∙ rw less refl)

pub goes_last : (key : List ℕ) (all : List Member) (i : ℕ) → length all ≡ i → GoesPast key all i
    → (name : Room ℕ) (value : Bor Value) → name.list ≡ key → members_in (insert all i (name, value)) ≡ with_member key (data_of (tree_of value.now)) (members_in all)
goes_last key all i end past name value named =
    let d = data_of (tree_of value.now) in
    let none : drop i all ≡ [] = drop_all i all (omega arith) in
    members_in-append (take i all) ((name, value) ∷ drop i all)
    ∙ ap (λ k. before_members (take i all) (json.member k d (members_in (drop i all)))) named
    ∙ ap (λ back. before_members (take i all) (json.member key d (members_in back))) none
    ∙ sym (past d ∙ ap (λ back. before_members (take i all) (with_member key d (members_in back))) none)

-- one more pair of a dictionary goes to its place
pub sorted_step : (all : List Pair) (i : ℕ) (p : Pair) (old same new : List Member) (key : Room ℕ) (text bytes : List ℕ) (value : Bor Value) (at : ℕ)
    → i < length all → p ≡ get_or all i p → same ≡ old → text ≡ key.list → key.list ≡ string_of_bytes bytes → bytes ≡ p.0.list → value.now ≡ p.1
    → members_in (insert same at (key, value)) ≡ with_member text (data_of (tree_of value.now)) (members_in same) → new ≡ insert old at (key, value)
    → members_data (pairs_of (drop i all)) (members_in old) ≡ members_data (pairs_of all) json.no_members
    → members_data (pairs_of (drop (i + 1) all)) (members_in new) ≡ members_data (pairs_of all) json.no_members
sorted_step all i p old same new key text bytes value at low is o t k b v placed n before =
    let named : text ≡ string_of_bytes p.0.list = t ∙ k ∙ ap string_of_bytes b in
    let made : members_in new ≡ with_member (string_of_bytes p.0.list) (data_of (tree_of p.1)) (members_in old) =
    ap members_in n ∙ ap (λ front. members_in (insert front at (key, value))) (sym o) ∙ placed ∙ rw (named, o, v) refl in
    let here : drop i all ≡ p ∷ drop (i + 1) all = drop_more all i p low ∙ ap (λ x. x ∷ drop (i + 1) all) (sym is) in
    ap (members_data (pairs_of (drop (i + 1) all))) made ∙ ap (λ back. members_data (pairs_of back) (members_in old)) (sym here) ∙ before

-- the depth of a value of a list, and of a member
pub item_depth : (values : List Value) (i : ℕ) (v : Value) → i < length values → v ≡ get_or values i v → json.depth (data_of (tree_of v)) ≤ json.items_depth (items_data (trees_of values))
item_depth [] i v low is = absurd (omega arith)
item_depth (x ∷ values) zero v low is = omega (arith, ap (λ y. json.depth (data_of (tree_of y))) is)
item_depth (x ∷ values) (suc i) v low is = omega (arith, item_depth values i v (omega arith) is)

pub member_depth : (members : List Member) (i : ℕ) (m : Member) → i < length members → m ≡ get_or members i m → json.depth (data_of (tree_of m.1.now)) ≤ json.members_depth (members_in members)
member_depth [] i m low is = absurd (omega arith)
member_depth (x ∷ members) zero m low is = omega (arith, ap (λ (y : Member). json.depth (data_of (tree_of y.1.now))) is)
member_depth (x ∷ members) (suc i) m low is = omega (arith, member_depth members i m (omega arith) is)

-- ---- pairs

-- the pairs of a list, before these
abbrev pub before_pairs : List Pair → Entries → Entries
before_pairs [] es = es
before_pairs (p ∷ front) es = entry p.0.list (tree_of p.1) (before_pairs front es)

before_pairs-append : (front : List Pair) (p : Pair) (es : Entries) → before_pairs (front ++ p ∷ []) es ≡ before_pairs front (entry p.0.list (tree_of p.1) es)
before_pairs-append [] p es = refl
before_pairs-append (x ∷ front) p es = ap (entry x.0.list (tree_of x.1)) (before_pairs-append front p es)

pairs_of-append : (front back : List Pair) → pairs_of (front ++ back) ≡ before_pairs front (pairs_of back)
pairs_of-append [] back = refl
pairs_of-append (x ∷ front) back = ap (entry x.0.list (tree_of x.1)) (pairs_of-append front back)

twice : (front : List Pair) (p : Pair) (r : Option Entries) → option_map (before_pairs front) (option_map (entry p.0.list (tree_of p.1)) r) ≡ option_map (before_pairs (front ++ p ∷ [])) r
twice front p None = refl
twice front p (Some es) = ap Some (sym (before_pairs-append front p es))

-- the pair goes after the first i
abbrev pub PairGoesPast : List ℕ → List Pair → ℕ → Type 0
PairGoesPast key all i = (tree : Tree) → with_pair_in_order key tree (pairs_of all) ≡ option_map (before_pairs (take i all)) (with_pair_in_order key tree (pairs_of (drop i all)))

module _ (key : List ℕ) (all : List Pair) (i : ℕ) (p : Pair) (low : i < length all) (is : p ≡ get_or all i p) (past : PairGoesPast key all i) where
  here : drop i all ≡ p ∷ drop (i + 1) all
  here = drop_more all i p low ∙ ap (λ x. x ∷ drop (i + 1) all) (sym is)

  there : (tree : Tree) → with_pair_in_order key tree (pairs_of all) ≡ option_map (before_pairs (take i all)) (with_pair_in_order key tree (pairs_of (p ∷ drop (i + 1) all)))
  there tree = past tree ∙ ap (λ back. option_map (before_pairs (take i all)) (with_pair_in_order key tree (pairs_of back))) here

  pub pair_goes_on : slice_cmp nat_cmp key p.0.list ≡ Greater → PairGoesPast key all (i + 1)
  pair_goes_on greater tree =
      let front : take (i + 1) all ≡ take i all ++ p ∷ [] = rw add-one (take-suc all i p low) ∙ ap (λ x. take i all ++ x ∷ []) (sym is) in
      there tree ∙ rw greater (twice (take i all) p (with_pair_in_order key tree (pairs_of (drop (i + 1) all))) ∙ ap (λ f. option_map (before_pairs f) (with_pair_in_order key tree (pairs_of (drop (i + 1) all)))) (sym front))

  pub pair_is_there : slice_cmp nat_cmp key p.0.list ≡ Equal → (tree : Tree) → with_pair_in_order key tree (pairs_of all) ≡ None
  pair_is_there equal tree = there tree ∙ rw equal refl

  pub pair_goes_before : slice_cmp nat_cmp key p.0.list ≡ Less
      → (name : Room ℕ) (value : Value) → name.list ≡ key → with_pair_in_order key (tree_of value) (pairs_of all) ≡ Some (pairs_of (insert all i (name, value)))
  pair_goes_before less name value named =
      there (tree_of value) ∙ rw less (ap Some (sym (
      pairs_of-append (take i all) ((name, value) ∷ drop i all)
      ∙ ap (λ k. before_pairs (take i all) (entry k (tree_of value) (pairs_of (drop i all)))) named
      ∙ ap (λ back. before_pairs (take i all) (entry key (tree_of value) (pairs_of back))) here)))

pub pair_goes_last : (key : List ℕ) (all : List Pair) (i : ℕ) → length all ≡ i → PairGoesPast key all i
    → (name : Room ℕ) (value : Value) → name.list ≡ key → with_pair_in_order key (tree_of value) (pairs_of all) ≡ Some (pairs_of (insert all i (name, value)))
pair_goes_last key all i end past name value named =
    let none : drop i all ≡ [] = drop_all i all (omega arith) in
    past (tree_of value) ∙ ap (λ back. option_map (before_pairs (take i all)) (with_pair_in_order key (tree_of value) (pairs_of back))) none
    ∙ ap Some (sym (
    pairs_of-append (take i all) ((name, value) ∷ drop i all)
    ∙ ap (λ k. before_pairs (take i all) (entry k (tree_of value) (pairs_of (drop i all)))) named
    ∙ ap (λ back. before_pairs (take i all) (entry key (tree_of value) (pairs_of back))) none))
