-- A spelling at the head of a text is read in one way.
use Rattle.std.proofs.Common.{◌≡◌, ℕ, ℤ, List, [], ◌∷◌, ◌++◌, ◌-◌, ◌<◌, ◌≤◌, ◌^◌, length, refl, sym, ◌∙◌, ap, arith, append_assoc}
use Rattle.std.specs.Fmt.{signed_decimal}
use Rattle.ng_bencode.specs.Tree.{Tree, Int, Bytes, Items, Dict, Trees, no_items, item, Entries, no_entries, entry}
use Rattle.ng_bencode.specs.Spells.{string, spelling, spellings, entry_spellings}
use Rattle.ng_bencode.specs.Fits.{Fits, ItemsFit, EntriesFit}
use Rattle.ng_bencode.proofs.Numbers.{same_int, same_string, open_string, decimal_first, DigitFirst}

-- ---- what each form begins with, and what follows it

pub open_int : (z : ℤ) (x : List ℕ) → spelling (Int z) ++ x ≡ 105 ∷ (signed_decimal z ++ 101 ∷ x)
open_int z x = ap (λ rest. 105 ∷ rest) (append_assoc (signed_decimal z) (101 ∷ []) x)

pub open_items : (items : Trees) (x : List ℕ) → spelling (Items items) ++ x ≡ 108 ∷ (spellings items ++ 101 ∷ x)
open_items items x = ap (λ rest. 108 ∷ rest) (append_assoc (spellings items) (101 ∷ []) x)

pub open_dict : (pairs : Entries) (x : List ℕ) → spelling (Dict pairs) ++ x ≡ 100 ∷ (entry_spellings pairs ++ 101 ∷ x)
open_dict pairs x = ap (λ rest. 100 ∷ rest) (append_assoc (entry_spellings pairs) (101 ∷ []) x)

pub next_item : (tree : Tree) (rest : Trees) (x : List ℕ) → spellings (item tree rest) ++ x ≡ spelling tree ++ (spellings rest ++ x)
next_item tree rest x = append_assoc (spelling tree) (spellings rest) x

pub next_entry : (key : List ℕ) (tree : Tree) (rest : Entries) (x : List ℕ) → entry_spellings (entry key tree rest) ++ x ≡ string key ++ (spelling tree ++ (entry_spellings rest ++ x))
next_entry key tree rest x =
    append_assoc (string key) (spelling tree ++ entry_spellings rest) x ∙ ap (λ more. string key ++ more) (append_assoc (spelling tree) (entry_spellings rest) x)

-- the first bytes of equal texts
pub heads : (a b : ℕ) (x y : List ℕ) → a ∷ x ≡ b ∷ y → a ≡ b
heads a b x y e = cc

-- a byte string begins with a digit
digit_head : (text x y : List ℕ) (head : ℕ) → DigitFirst text → text ++ x ≡ head ∷ y → head ≤ 57
digit_head text x y head first e =
    let shown : first.head ∷ (first.tail ++ x) ≡ head ∷ y = sym (ap (λ front. front ++ x) first.parts) ∙ e in
    let same : first.head ≡ head = cc in
    omega (arith, first.low)

pub no_string : (text x y : List ℕ) (head : ℕ) → length text < 2 ^ 64 → 57 < head → string text ++ x ≡ head ∷ y → ⊥
no_string text x y head small high e =
    let low = digit_head _ (58 ∷ (text ++ x)) y head (decimal_first (length text) small) (sym (open_string text x) ∙ e) in
    omega arith

-- no value begins with the end of a list
pub no_end : (depth : ℕ) (tree : Tree) (x y : List ℕ) → Fits depth tree → spelling tree ++ x ≡ 101 ∷ y → ⊥
no_end depth (Int z) x y fits e = omega (arith, heads 105 101 _ _ e)
no_end depth (Bytes bytes) x y fits e = no_string bytes x y 101 fits (omega arith) e
no_end depth (Items items) x y fits e = omega (arith, heads 108 101 _ _ e)
no_end depth (Dict pairs) x y fits e = omega (arith, heads 100 101 _ _ e)

no_string_end : (text x y : List ℕ) → length text < 2 ^ 64 → string text ++ x ≡ 101 ∷ y → ⊥
no_string_end text x y small e = no_string text x y 101 small (omega arith) e

-- what follows the same byte
pub tail_of : (head : ℕ) (x y : List ℕ) → head ∷ x ≡ head ∷ y → x ≡ y
tail_of head x y e = cc

-- ---- one way

mutual
  pub one_way : (d e : ℕ) (a b : Tree) (x y : List ℕ) → Fits d a → Fits e b → spelling a ++ x ≡ spelling b ++ y → (a ≡ b) × (x ≡ y)
  one_way d e (Int m) (Int n) x y fa fb same =
      let read = same_int m n x y fa fb (tail_of 105 _ _ (sym (open_int m x) ∙ same ∙ open_int n y)) in
      (ap Int read.0, read.1)
  one_way d e (Bytes s) (Bytes t) x y fa fb same =
      let read = same_string s t x y fa fb same in
      (ap Bytes read.0, read.1)
  one_way d e (Items s) (Items t) x y fa fb same =
      let read = items_one_way (d - 1) (e - 1) s t x y fa.1 fb.1 (tail_of 108 _ _ (sym (open_items s x) ∙ same ∙ open_items t y)) in
      (ap Items read.0, read.1)
  one_way d e (Dict s) (Dict t) x y fa fb same =
      let read = entries_one_way (d - 1) (e - 1) s t x y fa.1 fb.1 (tail_of 100 _ _ (sym (open_dict s x) ∙ same ∙ open_dict t y)) in
      (ap Dict read.0, read.1)
  one_way d e (Int m) (Bytes t) x y fa fb same = absurd (no_string t y _ 105 fb (omega arith) (sym same))
  one_way d e (Int m) (Items t) x y fa fb same = absurd (omega (arith, heads 105 108 _ _ same))
  one_way d e (Int m) (Dict t) x y fa fb same = absurd (omega (arith, heads 105 100 _ _ same))
  one_way d e (Bytes s) (Int n) x y fa fb same = absurd (no_string s x _ 105 fa (omega arith) same)
  one_way d e (Bytes s) (Items t) x y fa fb same = absurd (no_string s x _ 108 fa (omega arith) same)
  one_way d e (Bytes s) (Dict t) x y fa fb same = absurd (no_string s x _ 100 fa (omega arith) same)
  one_way d e (Items s) (Int n) x y fa fb same = absurd (omega (arith, heads 108 105 _ _ same))
  one_way d e (Items s) (Bytes t) x y fa fb same = absurd (no_string t y _ 108 fb (omega arith) (sym same))
  one_way d e (Items s) (Dict t) x y fa fb same = absurd (omega (arith, heads 108 100 _ _ same))
  one_way d e (Dict s) (Int n) x y fa fb same = absurd (omega (arith, heads 100 105 _ _ same))
  one_way d e (Dict s) (Bytes t) x y fa fb same = absurd (no_string t y _ 100 fb (omega arith) (sym same))
  one_way d e (Dict s) (Items t) x y fa fb same = absurd (omega (arith, heads 100 108 _ _ same))

  pub items_one_way : (d e : ℕ) (a b : Trees) (x y : List ℕ) → ItemsFit d a → ItemsFit e b → spellings a ++ 101 ∷ x ≡ spellings b ++ 101 ∷ y → (a ≡ b) × (x ≡ y)
  items_one_way d e no_items no_items x y fa fb same = (refl, tail_of 101 _ _ same)
  items_one_way d e no_items (item u t) x y fa fb same =
      absurd (no_end e u (spellings t ++ 101 ∷ y) x fb.0 (sym (next_item u t (101 ∷ y)) ∙ sym same))
  items_one_way d e (item r s) no_items x y fa fb same =
      absurd (no_end d r (spellings s ++ 101 ∷ x) y fa.0 (sym (next_item r s (101 ∷ x)) ∙ same))
  items_one_way d e (item r s) (item u t) x y fa fb same =
      let first = one_way d e r u (spellings s ++ 101 ∷ x) (spellings t ++ 101 ∷ y) fa.0 fb.0 (sym (next_item r s (101 ∷ x)) ∙ same ∙ next_item u t (101 ∷ y)) in
      let rest = items_one_way d e s t x y fa.1 fb.1 first.1 in
      (rw (first.0, rest.0) refl, rest.1)

  pub entries_one_way : (d e : ℕ) (a b : Entries) (x y : List ℕ) → EntriesFit d a → EntriesFit e b → entry_spellings a ++ 101 ∷ x ≡ entry_spellings b ++ 101 ∷ y → (a ≡ b) × (x ≡ y)
  entries_one_way d e no_entries no_entries x y fa fb same = (refl, tail_of 101 _ _ same)
  entries_one_way d e no_entries (entry k u t) x y fa fb same =
      absurd (no_string_end k _ x fb.0 (sym (next_entry k u t (101 ∷ y)) ∙ sym same))
  entries_one_way d e (entry j r s) no_entries x y fa fb same =
      absurd (no_string_end j _ y fa.0 (sym (next_entry j r s (101 ∷ x)) ∙ same))
  entries_one_way d e (entry j r s) (entry k u t) x y fa fb same =
      let name = same_string j k _ _ fa.0 fb.0 (sym (next_entry j r s (101 ∷ x)) ∙ same ∙ next_entry k u t (101 ∷ y)) in
      let first = one_way d e r u (entry_spellings s ++ 101 ∷ x) (entry_spellings t ++ 101 ∷ y) fa.1 fb.1 name.1 in
      let rest = entries_one_way d e s t x y fa.2 fb.2 first.1 in
      (rw (name.0, first.0, rest.0) refl, rest.1)
