-- The numbers of the keys that come to a cell: each comes once.
use Rattle.std.specs.Prelude.{◌≡◌, List, [], ◌∷◌, None}
use Rattle.histories.specs.Words.{In}
use Rattle.port_pool.specs.Signals.{NewKey}
use Rattle.call_cell.specs.Cells.{CellEntry, keys_of, key_numbered}

-- each key that an entry brings has a number that no key before it has
abbrev pub BringsNewKeys : List CellEntry → Type 0
BringsNewKeys [] = Unit {0}
BringsNewKeys (e ∷ h) = ((key : NewKey) → In key (keys_of e.event) → key_numbered h key.number ≡ None) × BringsNewKeys h
