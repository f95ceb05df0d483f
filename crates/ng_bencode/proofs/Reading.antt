-- What the readers of nested values rest on: where a value stands at the head of a text, and why none does.
use Rattle.std.proofs.Common.{◌≡◌, ◌≢◌, ℕ, ℤ, List, [], ◌∷◌, ◌++◌, ◌-◌, ◌<◌, ◌^◌, length, sym, ◌∙◌, ap, arith, FitsSigned, decimal, to_z, of_z}
use Rattle.std.proofs.lemmas.Int.{to_z-of_z}
use Rattle.std.specs.Int.{w64}
use Rattle.std.specs.Fmt.{signed_decimal}
use Rattle.std.proofs.lemmas.List.{length-append}
use denote.Hole.Carrier.{roll}
use Rattle.ng_bencode.specs.Room.{Room}
use Rattle.ng_bencode.specs.Row.{list_in}
use Rattle.ng_bencode.specs.declared.row.Row.{Row}
use Rattle.ng_bencode.specs.declared.value.Value.{Value, Int as IntValue, List as ListValue, Dict as DictValue}
use Rattle.ng_bencode.specs.declared.value.Value.TheOpen.{Value-F}
use Rattle.ng_bencode.specs.declared.value.Value.TheFolds.{fold-roll-Value}
use Rattle.ng_bencode.specs.declared.value.Value.TheViews.{roll-Value}
use Rattle.ng_bencode.specs.Tree.{Tree, Int, Bytes, Items, Dict, Trees, no_items, item, Entries, no_entries, entry, tree_of, tree_step, trees_of, pairs_of}
use Rattle.ng_bencode.specs.Spells.{string, spelling, spellings, entry_spellings}
use Rattle.ng_bencode.specs.Fits.{Fits, ItemsFit, EntriesFit}
use Rattle.ng_bencode.proofs.Numbers.{same_string, open_string}
use Rattle.ng_bencode.proofs.OneWay.{open_int, open_items, open_dict, next_item, next_entry, heads, tail_of, no_string, one_way}

-- ---- the tree of a value just read

pub tree_of_int : (z : ℤ) → tree_of (IntValue z) ≡ Int z
unfolding roll-Value roll
tree_of_int z = fold-roll-Value Tree tree_step (Value-F.Int z)

pub tree_of_list : (row : Row Value) → tree_of (ListValue row) ≡ Items (trees_of (list_in row))
unfolding roll-Value roll
tree_of_list row = fold-roll-Value Tree tree_step (Value-F.List row)

pub tree_of_dict : (row : Row (Room ℕ × Value)) → tree_of (DictValue row) ≡ Dict (pairs_of (list_in row))
unfolding roll-Value roll
tree_of_dict row = fold-roll-Value Tree tree_step (Value-F.Dict row)

pub int_read : (z : ℤ) (bytes body rest : List ℕ) → bytes ≡ 105 ∷ body → FitsSigned w64 z → body ≡ signed_decimal z ++ 101 ∷ rest → bytes ≡ spelling (tree_of (IntValue (to_z w64 (of_z w64 z)))) ++ rest
int_read z bytes body rest head fits e =
    let whole : ℤ → List ℕ = λ y. spelling (tree_of (IntValue y)) ++ rest in
    head ∙ ap (λ tail. 105 ∷ tail) e ∙ sym (open_int z rest) ∙ ap (λ tree. spelling tree ++ rest) (sym (tree_of_int z)) ∙ ap whole (sym (to_z-of_z w64 z fits))

pub list_read : (row : Row Value) (bytes body rest : List ℕ) → bytes ≡ 108 ∷ body → body ≡ spellings (trees_of (list_in row)) ++ 101 ∷ rest → bytes ≡ spelling (tree_of (ListValue row)) ++ rest
list_read row bytes body rest head e = rw (tree_of_list row) (head ∙ ap (λ tail. 108 ∷ tail) e ∙ sym (open_items _ rest))

pub dict_read : (row : Row (Room ℕ × Value)) (bytes body rest : List ℕ) → bytes ≡ 100 ∷ body → body ≡ entry_spellings (pairs_of (list_in row)) ++ 101 ∷ rest → bytes ≡ spelling (tree_of (DictValue row)) ++ rest
dict_read row bytes body rest head e = rw (tree_of_dict row) (head ∙ ap (λ tail. 100 ∷ tail) e ∙ sym (open_dict _ rest))

-- ---- why no value stands at the head

-- no value stands at the head of these bytes
abbrev pub NoValue : ℕ → List ℕ → Type 0
NoValue depth bytes = (tree : Tree) (rest : List ℕ) → Fits depth tree → bytes ≡ spelling tree ++ rest → ⊥

pub no_int : (depth : ℕ) (bytes body : List ℕ) → bytes ≡ 105 ∷ body → ((z : ℤ) (rest : List ℕ) → FitsSigned w64 z → body ≡ signed_decimal z ++ 101 ∷ rest → ⊥) → NoValue depth bytes
no_int depth bytes body head none (Int z) rest fits e = none z rest fits (tail_of 105 _ _ (sym head ∙ e ∙ open_int z rest))
no_int depth bytes body head none (Bytes text) rest fits e = no_string text rest body 105 fits (omega arith) (sym e ∙ head)
no_int depth bytes body head none (Items items) rest fits e = omega (arith, heads 105 108 _ _ (sym head ∙ e ∙ open_items items rest))
no_int depth bytes body head none (Dict pairs) rest fits e = omega (arith, heads 105 100 _ _ (sym head ∙ e ∙ open_dict pairs rest))

pub no_list : (depth : ℕ) (bytes body : List ℕ) → bytes ≡ 108 ∷ body → ((items : Trees) (rest : List ℕ) → 0 < depth → ItemsFit (depth - 1) items → body ≡ spellings items ++ 101 ∷ rest → ⊥) → NoValue depth bytes
no_list depth bytes body head none (Int z) rest fits e = omega (arith, heads 108 105 _ _ (sym head ∙ e ∙ open_int z rest))
no_list depth bytes body head none (Bytes text) rest fits e = no_string text rest body 108 fits (omega arith) (sym e ∙ head)
no_list depth bytes body head none (Items items) rest fits e = none items rest fits.0 fits.1 (tail_of 108 _ _ (sym head ∙ e ∙ open_items items rest))
no_list depth bytes body head none (Dict pairs) rest fits e = omega (arith, heads 108 100 _ _ (sym head ∙ e ∙ open_dict pairs rest))

pub no_dict : (depth : ℕ) (bytes body : List ℕ) → bytes ≡ 100 ∷ body → ((pairs : Entries) (rest : List ℕ) → 0 < depth → EntriesFit (depth - 1) pairs → body ≡ entry_spellings pairs ++ 101 ∷ rest → ⊥) → NoValue depth bytes
no_dict depth bytes body head none (Int z) rest fits e = omega (arith, heads 100 105 _ _ (sym head ∙ e ∙ open_int z rest))
no_dict depth bytes body head none (Bytes text) rest fits e = no_string text rest body 100 fits (omega arith) (sym e ∙ head)
no_dict depth bytes body head none (Items items) rest fits e = omega (arith, heads 100 108 _ _ (sym head ∙ e ∙ open_items items rest))
no_dict depth bytes body head none (Dict pairs) rest fits e = none pairs rest fits.0 fits.1 (tail_of 100 _ _ (sym head ∙ e ∙ open_dict pairs rest))

pub no_other : (depth head : ℕ) (bytes body : List ℕ) → bytes ≡ head ∷ body → head ≢ 105 → head ≢ 108 → head ≢ 100 → ((text rest : List ℕ) → length text < 2 ^ 64 → bytes ≡ string text ++ rest → ⊥) → NoValue depth bytes
no_other depth head bytes body is int list dict none (Int z) rest fits e = int (heads _ _ _ _ (sym is ∙ e ∙ open_int z rest))
no_other depth head bytes body is int list dict none (Bytes text) rest fits e = none text rest fits e
no_other depth head bytes body is int list dict none (Items items) rest fits e = list (heads _ _ _ _ (sym is ∙ e ∙ open_items items rest))
no_other depth head bytes body is int list dict none (Dict pairs) rest fits e = dict (heads _ _ _ _ (sym is ∙ e ∙ open_dict pairs rest))

no_nil : (head : ℕ) (body : List ℕ) → [] ≡ head ∷ body → ⊥
no_nil head body e = cc

no_empty_string : (text rest : List ℕ) → [] ≡ string text ++ rest → ⊥
no_empty_string text rest e = omega (arith, ap length (e ∙ open_string text rest), length-append (decimal (length text)) (58 ∷ (text ++ rest)))

pub no_empty : (depth : ℕ) (bytes : List ℕ) → bytes ≡ [] → NoValue depth bytes
no_empty depth bytes is (Int z) rest fits e = no_nil _ _ (sym is ∙ e)
no_empty depth bytes is (Bytes text) rest fits e = no_empty_string text rest (sym is ∙ e)
no_empty depth bytes is (Items items) rest fits e = no_nil _ _ (sym is ∙ e)
no_empty depth bytes is (Dict pairs) rest fits e = no_nil _ _ (sym is ∙ e)

-- ---- one more value of a list

-- the list does not end here
abbrev pub NoEnd : List ℕ → Type 0
NoEnd bytes = (rest : List ℕ) → bytes ≡ 101 ∷ rest → ⊥

pub left_items : (depth : ℕ) (bytes after : List ℕ) (tree : Tree) → Fits depth tree → bytes ≡ spelling tree ++ after → NoEnd bytes → (more : Trees) (x : List ℕ) → ItemsFit depth more → bytes ≡ spellings more ++ 101 ∷ x → (next : Trees) × ItemsFit depth next × (after ≡ spellings next ++ 101 ∷ x)
left_items depth bytes after tree fits is no_end no_items x more e = absurd (no_end x e)
left_items depth bytes after tree fits is no_end (item first next) x more e =
    (next, more.1, (one_way depth depth tree first after (spellings next ++ 101 ∷ x) fits more.0 (sym is ∙ e ∙ next_item first next (101 ∷ x))).1)

pub stuck_items : (depth : ℕ) (bytes : List ℕ) → NoValue depth bytes → NoEnd bytes → (more : Trees) (x : List ℕ) → ItemsFit depth more → bytes ≡ spellings more ++ 101 ∷ x → ⊥
stuck_items depth bytes none no_end no_items x more e = no_end x e
stuck_items depth bytes none no_end (item first next) x more e = none first _ more.0 (e ∙ next_item first next (101 ∷ x))

pub spellings_push : (values : List Value) (value : Value) (rest : List ℕ) → spellings (trees_of (values ++ value ∷ [])) ++ rest ≡ spellings (trees_of values) ++ (spelling (tree_of value) ++ rest)
spellings_push [] value rest = next_item (tree_of value) no_items rest
spellings_push (first ∷ values) value rest =
    next_item (tree_of first) _ rest ∙ ap (λ tail. spelling (tree_of first) ++ tail) (spellings_push values value rest) ∙ sym (next_item (tree_of first) _ _)

pub fits_push : (depth : ℕ) (values : List Value) (value : Value) → ItemsFit depth (trees_of values) → Fits depth (tree_of value) → ItemsFit depth (trees_of (values ++ value ∷ []))
fits_push depth [] value fits one = (one, tt)
fits_push depth (first ∷ values) value fits one = (fits.0, fits_push depth values value fits.1 one)

pub items_read : (bytes rest after : List ℕ) (found reserved new : List Value) (value : Value) → reserved ≡ found → new ≡ reserved ++ value ∷ [] → bytes ≡ spellings (trees_of found) ++ rest → rest ≡ spelling (tree_of value) ++ after → bytes ≡ spellings (trees_of new) ++ after
items_read bytes rest after found reserved new value kept pushed read next =
    rw (pushed, kept, spellings_push found value after) (read ∙ ap (λ tail. spellings (trees_of found) ++ tail) next)

pub items_kept : (depth : ℕ) (found reserved new : List Value) (value : Value) → reserved ≡ found → new ≡ reserved ++ value ∷ [] → ItemsFit depth (trees_of found) → Fits depth (tree_of value) → ItemsFit depth (trees_of new)
items_kept depth found reserved new value kept pushed fits one = rw (pushed, kept) (fits_push depth found value fits one)

-- ---- one more pair of a dictionary

pub left_pairs : (depth : ℕ) (bytes key behind after : List ℕ) (tree : Tree) → length key < 2 ^ 64 → Fits depth tree → bytes ≡ string key ++ behind → behind ≡ spelling tree ++ after → NoEnd bytes → (more : Entries) (x : List ℕ) → EntriesFit depth more → bytes ≡ entry_spellings more ++ 101 ∷ x → (next : Entries) × EntriesFit depth next × (after ≡ entry_spellings next ++ 101 ∷ x)
left_pairs depth bytes key behind after tree small fits is then no_end no_entries x more e = absurd (no_end x e)
left_pairs depth bytes key behind after tree small fits is then no_end (entry name first next) x more e =
    let same = same_string key name behind (spelling first ++ (entry_spellings next ++ 101 ∷ x)) small more.0 (sym is ∙ e ∙ next_entry name first next (101 ∷ x)) in
    (next, more.2, (one_way depth depth tree first after (entry_spellings next ++ 101 ∷ x) fits more.1 (sym then ∙ same.1)).1)

pub stuck_key : (depth : ℕ) (bytes : List ℕ) → ((text rest : List ℕ) → length text < 2 ^ 64 → bytes ≡ string text ++ rest → ⊥) → NoEnd bytes → (more : Entries) (x : List ℕ) → EntriesFit depth more → bytes ≡ entry_spellings more ++ 101 ∷ x → ⊥
stuck_key depth bytes none no_end no_entries x more e = no_end x e
stuck_key depth bytes none no_end (entry name first next) x more e = none name _ more.0 (e ∙ next_entry name first next (101 ∷ x))

pub stuck_pair : (depth : ℕ) (bytes key behind : List ℕ) → length key < 2 ^ 64 → bytes ≡ string key ++ behind → NoValue depth behind → NoEnd bytes → (more : Entries) (x : List ℕ) → EntriesFit depth more → bytes ≡ entry_spellings more ++ 101 ∷ x → ⊥
stuck_pair depth bytes key behind small is none no_end no_entries x more e = no_end x e
stuck_pair depth bytes key behind small is none no_end (entry name first next) x more e =
    let same = same_string key name behind (spelling first ++ (entry_spellings next ++ 101 ∷ x)) small more.0 (sym is ∙ e ∙ next_entry name first next (101 ∷ x)) in
    none first _ more.1 same.1

pub pairs_push : (pairs : List (Room ℕ × Value)) (key : Room ℕ) (value : Value) (rest : List ℕ) → entry_spellings (pairs_of (pairs ++ (key, value) ∷ [])) ++ rest ≡ entry_spellings (pairs_of pairs) ++ (string key.list ++ (spelling (tree_of value) ++ rest))
pairs_push [] key value rest = next_entry key.list (tree_of value) no_entries rest
pairs_push (first ∷ pairs) key value rest =
    next_entry first.0.list (tree_of first.1) _ rest
    ∙ ap (λ tail. string first.0.list ++ (spelling (tree_of first.1) ++ tail)) (pairs_push pairs key value rest)
    ∙ sym (next_entry first.0.list (tree_of first.1) _ _)

pub pairs_fit_push : (depth : ℕ) (pairs : List (Room ℕ × Value)) (key : Room ℕ) (value : Value) → EntriesFit depth (pairs_of pairs) → length key.list < 2 ^ 64 → Fits depth (tree_of value) → EntriesFit depth (pairs_of (pairs ++ (key, value) ∷ []))
pairs_fit_push depth [] key value fits small one = (small, one, tt)
pairs_fit_push depth (first ∷ pairs) key value fits small one = (fits.0, fits.1, pairs_fit_push depth pairs key value fits.2 small one)

pub pairs_read : (bytes rest text behind after : List ℕ) (found reserved new : List (Room ℕ × Value)) (key : Room ℕ) (value : Value) → reserved ≡ found → new ≡ reserved ++ (key, value) ∷ [] → key.list ≡ text → bytes ≡ entry_spellings (pairs_of found) ++ rest → rest ≡ string text ++ behind → behind ≡ spelling (tree_of value) ++ after → bytes ≡ entry_spellings (pairs_of new) ++ after
pairs_read bytes rest text behind after found reserved new key value kept pushed copied read name next =
    rw (pushed, kept, pairs_push found key value after, copied)
    (read ∙ ap (λ tail. entry_spellings (pairs_of found) ++ tail) (name ∙ ap (λ tail. string text ++ tail) next))

pub pairs_kept : (depth : ℕ) (found reserved new : List (Room ℕ × Value)) (text : List ℕ) (key : Room ℕ) (value : Value) → reserved ≡ found → new ≡ reserved ++ (key, value) ∷ [] → key.list ≡ text → EntriesFit depth (pairs_of found) → length text < 2 ^ 64 → Fits depth (tree_of value) → EntriesFit depth (pairs_of new)
pairs_kept depth found reserved new text key value kept pushed copied fits small one =
    rw (pushed, kept) (pairs_fit_push depth found key value fits (omega (arith, ap length copied)) one)
