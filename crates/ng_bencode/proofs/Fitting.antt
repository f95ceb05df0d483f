-- `Fits` is what `Spells` says of a tree whose spelling is a slice.
use Rattle.std.proofs.Common.{◌≡◌, ℕ, List, [], ◌∷◌, ◌++◌, ◌-◌, ◌<◌, ◌≤◌, ◌^◌, length, refl, sym, ◌∙◌, ap, arith}
use Rattle.std.proofs.lemmas.List.{length-append}
use Rattle.std.proofs.Common.{decimal, ◌==◌, true, false, append-nil}
use Rattle.std.proofs.lemmas.Bool.{eqb-true, eqb-false}
use Rattle.ng_bencode.proofs.OneWay.{one_way}
use Rattle.ng_bencode.specs.Tree.{Tree, Int, Bytes, Items, Dict, Trees, no_items, item, Entries, no_entries, entry, depth, items_depth, entries_depth}
use Rattle.ng_bencode.specs.Spells.{string, spelling, spellings, entry_spellings, IntsFit, ItemsIntsFit, EntriesIntsFit, Spells}
use Rattle.ng_bencode.specs.Fits.{Fits, ItemsFit, EntriesFit}

string_longer : (text : List ℕ) → length text < length (string text)
string_longer text = omega (arith, length-append (decimal (length text)) (58 ∷ text))

mutual
  pub tree_fits : (d : ℕ) (tree : Tree) → IntsFit tree → depth tree ≤ d → length (spelling tree) < 2 ^ 64 → Fits d tree
  tree_fits d (Int z) ints deep short = ints
  tree_fits d (Bytes text) ints deep short = omega (arith, string_longer text)
  tree_fits d (Items items) ints deep short =
      (omega arith, items_fit (d - 1) items ints (omega arith) (omega (arith, length-append (spellings items) (101 ∷ []))))
  tree_fits d (Dict pairs) ints deep short =
      (omega arith, entries_fit (d - 1) pairs ints (omega arith) (omega (arith, length-append (entry_spellings pairs) (101 ∷ []))))

  items_fit : (d : ℕ) (items : Trees) → ItemsIntsFit items → items_depth items ≤ d → length (spellings items) < 2 ^ 64 → ItemsFit d items
  items_fit d no_items ints deep short = tt
  items_fit d (item tree rest) ints deep short =
      let len = length-append (spelling tree) (spellings rest) in
      (tree_fits d tree ints.0 (omega arith) (omega arith), items_fit d rest ints.1 (omega arith) (omega arith))

  entries_fit : (d : ℕ) (pairs : Entries) → EntriesIntsFit pairs → entries_depth pairs ≤ d → length (entry_spellings pairs) < 2 ^ 64 → EntriesFit d pairs
  entries_fit d no_entries ints deep short = tt
  entries_fit d (entry key tree rest) ints deep short =
      let len = length-append (string key) (spelling tree ++ entry_spellings rest) in
      let more = length-append (spelling tree) (entry_spellings rest) in
      (omega (arith, string_longer key), tree_fits d tree ints.0 (omega arith) (omega arith), entries_fit d rest ints.1 (omega arith) (omega arith))

mutual
  pub ints_of : (d : ℕ) (tree : Tree) → Fits d tree → IntsFit tree × (depth tree ≤ d)
  ints_of d (Int z) fits = (fits, omega arith)
  ints_of d (Bytes text) fits = (tt, omega arith)
  ints_of d (Items items) fits = let known = items_ints_of (d - 1) items fits.1 in (known.0, omega (arith, known.1, fits.0))
  ints_of d (Dict pairs) fits = let known = entries_ints_of (d - 1) pairs fits.1 in (known.0, omega (arith, known.1, fits.0))

  items_ints_of : (d : ℕ) (items : Trees) → ItemsFit d items → ItemsIntsFit items × (items_depth items ≤ d)
  items_ints_of d no_items fits = (tt, omega arith)
  items_ints_of d (item tree rest) fits =
      let first = ints_of d tree fits.0 in
      let others = items_ints_of d rest fits.1 in
      ((first.0, others.0), omega (arith, first.1, others.1))

  entries_ints_of : (d : ℕ) (pairs : Entries) → EntriesFit d pairs → EntriesIntsFit pairs × (entries_depth pairs ≤ d)
  entries_ints_of d no_entries fits = (tt, omega arith)
  entries_ints_of d (entry key tree rest) fits =
      let first = ints_of d tree fits.1 in
      let others = entries_ints_of d rest fits.2 in
      ((first.0, others.0), omega (arith, first.1, others.1))

-- what spells a tree within a slice fits
pub spells_fits : (bytes : List ℕ) (tree : Tree) → Spells bytes tree → length bytes < 2 ^ 64 → Fits 16 tree
spells_fits bytes tree spells short = tree_fits 16 tree spells.ints spells.deep (omega (arith, ap length spells.spelled))

-- ---- a whole text

no_more : (rest : List ℕ) → (length rest == 0) ≡ true → rest ≡ []
no_more [] empty = refl
no_more (byte ∷ rest) empty = absurd (omega (arith, eqb-true _ _ empty))

pub whole_spells : (bytes rest : List ℕ) (tree : Tree) → Fits 16 tree → bytes ≡ spelling tree ++ rest → (length rest == 0) ≡ true → Spells bytes tree
whole_spells bytes rest tree fits e empty =
    let known = ints_of 16 tree fits in
    record { ints = known.0; deep = known.1; spelled = e ∙ ap (λ tail. spelling tree ++ tail) (no_more rest empty) ∙ append-nil (spelling tree) }

-- what spells another tree is read as this one, to its end
pub only_spells : (bytes rest : List ℕ) (tree other : Tree) → Fits 16 tree → bytes ≡ spelling tree ++ rest → length bytes < 2 ^ 64 → Spells bytes other → (other ≡ tree) × ([] ≡ rest)
only_spells bytes rest tree other fits e short spells =
    one_way 16 16 other tree [] rest (spells_fits bytes other spells short) fits (append-nil (spelling other) ∙ sym spells.spelled ∙ e)

pub none_spells : (bytes rest : List ℕ) (tree other : Tree) → Fits 16 tree → bytes ≡ spelling tree ++ rest → length bytes < 2 ^ 64 → (length rest == 0) ≡ false → Spells bytes other → ⊥
none_spells bytes rest tree other fits e short more spells =
    eqb-false _ _ more (sym (ap length (only_spells bytes rest tree other fits e short spells).1))

pub none_read : (bytes : List ℕ) → ((tree : Tree) (rest : List ℕ) → Fits 16 tree → bytes ≡ spelling tree ++ rest → ⊥) → length bytes < 2 ^ 64 → (other : Tree) → Spells bytes other → ⊥
none_read bytes none short other spells = none other [] (spells_fits bytes other spells short) (spells.spelled ∙ sym (append-nil (spelling other)))
