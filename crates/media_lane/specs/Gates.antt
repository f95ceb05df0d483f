-- Which relays of a list were made with a gate passed at their cell.
use Rattle.std.specs.Prelude.{◌≡◌, ◌⊎◌, ℕ, List}
use Rattle.histories.specs.Words.{In}
use Rattle.call_cell.specs.Cells.{Relay, Relayed}
use Rattle.relay_core.specs.Entries.{Cell, Entry}

-- a gate, by the cells at which it was passed, was passed at the cell of each relay of the list
abbrev pub AreGated : (ℕ → Type 0) → List Entry → Type 0
AreGated gate l = (e : Entry) (x : Relayed) → In e l → e.event ≡ Cell (Relay x) → gate e.place

-- the same of each relay of the new list that isn't one of the old list
abbrev pub GainsGated : (ℕ → Type 0) → List Entry → List Entry → Type 0
GainsGated gate old new = (e : Entry) (x : Relayed) → In e new → e.event ≡ Cell (Relay x) → In e old ⊎ gate e.place
