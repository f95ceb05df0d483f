-- The Ends among the steps of a load: which entry of the board they belong to, and where the relays stand by them.
use Rattle.std.specs.Prelude.{◌≡◌, ◌<◌, ℕ, List}
use Rattle.histories.specs.Words.{In}
use Rattle.call_cell.specs.Cells.{Relay, Relayed, End}
use Rattle.relay_core.specs.Entries.{Cell, Entry}

-- each End of the list is nested in the board's entry with this number
abbrev pub HasEndsBy : List Entry → ℕ → Type 0
HasEndsBy l number = (f : Entry) → In f l → f.event ≡ Cell End → f.board ≡ number

-- each relay of the list stands at its cell before every End of that cell, as their numbers there say
abbrev pub AreBeforeEnds : List Entry → Type 0
AreBeforeEnds l =
    (e f : Entry) (x : Relayed) → In e l → In f l → e.event ≡ Cell (Relay x) → f.event ≡ Cell End → f.place ≡ e.place → e.number < f.number
