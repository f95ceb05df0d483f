-- Which pairs each step of the board records that were given back in its turn.
use Rattle.std.specs.Prelude.{◌≡◌, ℕ, Bool, true, false, ◌&&◌, ◌==◌, List, map, filter}
use Rattle.relay_outside.specs.declared.settings.Config.{Config}
use Rattle.turn_table.specs.declared.machine.Entry as table
use Rattle.turn_table.specs.Histories.{IsMemberOf}
use Rattle.relay_core.specs.Entries.{Event, Board, Cell, Box, Entry}
use Rattle.relay_core.specs.FirstPlaces.{pair_at}
use Rattle.relay_core.specs.Records.{Made, list_of}
use Rattle.relay_core.specs.EndLogs.{is_closing}

abbrev pub is_boards : Event → Bool
is_boards (Board b) = true
is_boards (Cell c) = false
is_boards (Box b) = false

-- the entry shuts a box in the turn of the board's entry of number n
abbrev pub shuts_in : ℕ → Entry → Bool
shuts_in n e = is_closing e.event && (e.board == n)

-- the pairs of the boxes that were shut in the turn of the board's entry of that number, in the order of the list
abbrev pub pairs_shut : Config → List Entry → ℕ → List ℕ
pairs_shut config l n = map (λ e. pair_at config e.place) (filter (shuts_in n) l)

module _ {T : Type 0} where
  -- each row of the board records the pairs of the boxes that were shut in its turn
  abbrev pub AreReturned : Config → List (table.Entry Made T) → Type 0
  AreReturned config rows =
      (row : table.Entry Made T) → IsMemberOf row rows → is_boards row.event.event ≡ true → row.event.returned ≡ pairs_shut config (list_of rows) row.number
