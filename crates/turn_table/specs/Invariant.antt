-- The rule that holds between any two atomic steps.
-- A place has a spot (Layout), and at the spot i two words and a slot. Word 4 * i is its mark, 0 or 1. Word 4 * i + 1 is its count, the front. The words up to 4 * (i + 1) are spare.
-- A spot that no place has is spare: its slot is empty.
-- Of each place there is a history, and a cell: 0 where the place is free, or 1 more than the number of the seat that has its turn, with the phase of that turn.
-- A seat is a hand as the base crate sees it: its number never changes, and its view, what the hand knows, changes in the hand's own steps alone.
use Rattle.std.specs.Prelude.{◌≡◌, ◌≢◌, ◌⊎◌, ℕ, suc, ◌+◌, ◌*◌, ◌^◌, ◌<◌, ◌≤◌, min, true, false, List, [], length, slice_index, slice_get, Option, Some, None}
use mathlib.Core.Option.{some, none}
use mathlib.Core.Option as maybe
use lib.ListN.{get_elem?}
use Rattle.atomic_table.specs.Table.{State}
use Rattle.turn_table.specs.declared.machine.Entry.{Entry}
use Rattle.turn_table.specs.declared.view.View.{View}
use Rattle.turn_table.specs.declared.view.Phase.{Phase}
use Rattle.turn_table.specs.declared.view.Phase.TheVariants.{Nothing, Marked, Out, Held, Counted}
use Rattle.turn_table.specs.Histories.{IsMemberOf, total, one_if, below, seen_at, phase_at, times, Named, Leaves}
use Rattle.turn_table.specs.Layout.{column_rows, spot_of}

module _ {S E O : Type 0} where
  -- what the first hand knows: it is the main one, and has all parts
  abbrev pub first_view : List S → View S E O
  first_view starts = record { starts = starts; entries = []; seen = []; tries = []; parts = 1024; main = true; turns = [] }

  -- what is left of a hand that was joined into another
  abbrev pub spent_view : View S E O
  spent_view = record { starts = []; entries = []; seen = []; tries = []; parts = 0; main = false; turns = [] }

-- the cell is this seat's, in the phase that the seat knows, or it is not this seat's, and the seat knows that
abbrev pub Matches : {S : Type 0} → ℕ × Phase S → ℕ → Phase S → Type 0
Matches cell id p = ((cell.0 ≡ suc id) × (cell.1 ≡ p)) ⊎ ((cell.0 ≢ suc id) × (p ≡ Nothing))

module _ {S E O : Type 0} (relates : S → E → O → S → Type 0) where
  -- where the state is that the history leaves from the start state a, at a place with this spot
  abbrev pub StateStands : List (maybe.Option (Option S)) → ℕ → List (Entry E O) → S → Phase S → Type 0
  StateStands homes spot log a Nothing = (x : S) × (get_elem? homes spot ≡ some (some (Some x))) × Leaves relates a log x
  StateStands homes spot log a (Marked x) = (get_elem? homes spot ≡ some none) × Leaves relates a log x
  StateStands homes spot log a (Out n x) = (get_elem? homes spot ≡ some none) × (n ≡ length log) × Leaves relates a log x
  StateStands homes spot log a (Held n x) = (get_elem? homes spot ≡ some (some None)) × (n ≡ length log) × (n < 2 ^ 56) × Leaves relates a log x
  StateStands homes spot log a (Counted x) = (get_elem? homes spot ≡ some (some (Some x))) × Leaves relates a log x

-- a place, with its history, its cell and its spot
pub record PlaceOk {S E O : Type 0} (relates : S → E → O → S → Type 0) (words : List ℕ) (homes : List (maybe.Option (Option S))) (log : List (Entry E O)) (cell : ℕ × Phase S) (k spot : ℕ) (a : S) : Type 0 where
  -- the mark is 1 exactly where a seat has the place's turn, and the count is the length of the history
  pub mark : slice_index words (4 * spot) ≡ min cell.0 1
  pub count : slice_index words (4 * spot + 1) ≡ length log
  pub low : length log ≤ 2 ^ 56
  pub named : Named k log
  -- no event is under way at a free place, and one is at a place that a seat has
  pub free : cell.0 ≡ 0 → cell.1 ≡ Nothing
  pub held : 0 < cell.0 → cell.1 ≢ Nothing
  pub stands : StateStands relates homes spot log a cell.1

-- what is true of the knowledge of one seat
pub record SeatOk {S E O : Type 0} (reserved : E → Type 0) (starts : List S) (log : ℕ → List (Entry E O)) (cells : ℕ → ℕ × Phase S) (id : ℕ) (v : View S E O) : Type 0 where
  -- with no part, it has no entry and no turn; with one, it knows the table's start states
  pub spent : v.parts ≡ 0 → v ≡ spent_view
  pub same : 0 < v.parts → v.starts ≡ starts
  -- it has seen no more of a place than the place's front
  pub seen : (k : ℕ) → seen_at v.seen k ≤ length (log k)
  -- each of its entries stands in the history of its place, at its number; and a reserved one is the main hand's
  pub tied : (e : Entry E O) → IsMemberOf e v.entries → (e.place < length starts) × (slice_get (log e.place) e.number ≡ Some e)
  pub plain : v.main ≡ false → (e : Entry E O) → IsMemberOf e v.entries → ¬ reserved e.event
  -- it knows which turns it has, and how far it is with each
  pub turns : (k : ℕ) → Matches (cells k) id (phase_at v.turns k)

pub record Kept {S E O : Type 0} (relates : S → E → O → S → Type 0) (reserved : E → Type 0) (starts : List S) (s : State (Option S) (View S E O)) : Type 0 where
  pub log : ℕ → List (Entry E O)
  pub cells : ℕ → ℕ × Phase S
  -- 4 words and a slot for each spot
  pub wide : length s.words ≡ 4 * length s.homes
  pub long : length s.homes ≡ 960 * column_rows (length starts)
  pub place : (k : ℕ) (a : S) → slice_get starts k ≡ Some a → PlaceOk relates s.words s.homes (log k) (cells k) k (spot_of (column_rows (length starts)) k) a
  -- the slots of the spots beyond the places are home and empty
  pub spare : (k : ℕ) → length starts ≤ k → k < length s.homes → get_elem? s.homes (spot_of (column_rows (length starts)) k) ≡ some (some None)
  pub seat : (id : ℕ) (v : View S E O) → get_elem? s.views id ≡ some v → SeatOk reserved starts log cells id v
  -- beyond the places no seat has a turn, and each turn is some seat's
  pub beyond : (k : ℕ) → length starts ≤ k → (cells k).0 ≡ 0
  pub owned : (k : ℕ) → 0 < (cells k).0 → (id : ℕ) × (v : View S E O) × ((cells k).0 ≡ suc id) × (get_elem? s.views id ≡ some v)
  -- the parts add up, and one seat is the main one
  pub whole : total (λ v. v.parts) s.views ≡ 1024
  pub one : total (λ v. one_if v.main) s.views ≡ 1
  -- in the lists of all seats together, each event of a history stands once, and nothing else stands there
  pub once : (k i : ℕ) → total (λ v. times k i v.entries) s.views ≡ below i (length (log k))
