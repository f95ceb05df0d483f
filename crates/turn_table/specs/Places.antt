-- What a hand's own list says of a place.
use Rattle.std.specs.Prelude.{◌≡◌, ℕ, eqb, List, Some, slice_get}
use Rattle.std.specs.List.{filter}
use Rattle.turn_table.specs.declared.machine.Entry.{Entry}
use Rattle.turn_table.specs.Histories.{IsMemberOf, Named}

module _ {E O : Type 0} where
  -- the entries of the list that are of the place k
  abbrev pub at_place : ℕ → List (Entry E O) → List (Entry E O)
  at_place k es = filter (λ e. eqb e.place k) es

  -- each entry has its position as its number
  abbrev pub IsNumbered : List (Entry E O) → Type 0
  IsNumbered es = (i : ℕ) (e : Entry E O) → slice_get es i ≡ Some e → e.number ≡ i

-- Where a history of the place k has each of the list's entries of that place at its number, and the list has each entry of the history, as the main hand has where all of them are reserved,
-- and the list has its entries of that place in the order of their numbers, the history is the list's own part of that place
abbrev pub OwnPartIsHistory : Type 0 → Type 0 → Type 0
OwnPartIsHistory E O = (k : ℕ) (es h : List (Entry E O)) → Named k h → ((e : Entry E O) → IsMemberOf e es → e.place ≡ k → slice_get h e.number ≡ Some e)
    → ((i : ℕ) (e : Entry E O) → slice_get h i ≡ Some e → IsMemberOf e es) → IsNumbered (at_place k es) → h ≡ at_place k es
