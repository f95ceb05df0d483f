-- The entries of a cell's history on which its legs, its keys and what is in force on them hang: offers, answers and ends.
-- Packets, questions whether a call is due and reports change none of that.
use Rattle.std.specs.Prelude.{Bool, true, false, List, filter}
use Rattle.call_cell.specs.Cells.{CellEvent, CellEntry, Prepare, Commit, Relay, Expire, Read, End}

abbrev pub is_lasting : CellEvent → Bool
is_lasting (Prepare call legs keys dropped) = true
is_lasting (Commit signal) = true
is_lasting (Relay r) = false
is_lasting (Expire due) = false
is_lasting (Read log) = false
is_lasting End = true

-- the lasting entries of a history
abbrev pub lasting_entries : List CellEntry → List CellEntry
lasting_entries h = filter (λ e. is_lasting e.event) h
