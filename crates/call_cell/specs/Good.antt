-- Histories of a cell whose every entry is the one that those before it demand.
use Rattle.std.specs.Prelude.{◌≡◌, List, [], ◌∷◌}
use Rattle.relay_outside.specs.declared.settings.Config.{Config}
use Rattle.call_cell.specs.Cells.{CellEvent, CellEntry, Prepare, Commit, Relay, Expire, Read, End}
use Rattle.call_cell.specs.Deeds.{deed}
use Rattle.call_cell.specs.Demands.{FitsCell}

-- each entry of a whole history fits
pub data FittingCell (config : Config) : List CellEntry → Type 0 where
  empty : FittingCell config []
  longer : {e : CellEntry} {h : List CellEntry} → FitsCell config h e → FittingCell config h → FittingCell config (e ∷ h)

-- a relay does what the entries before it demand
abbrev pub IsGood : Config → List CellEntry → CellEvent → Type 0
IsGood config h (Relay r) = r.deed ≡ deed config h r.packet r.sent_ok
IsGood config h (Prepare call legs keys dropped) = Unit {0}
IsGood config h (Commit signal) = Unit {0}
IsGood config h (Expire due) = Unit {0}
IsGood config h (Read log) = Unit {0}
IsGood config h End = Unit {0}

-- of entries since the last End each relay does what those before it demand
pub data GoodCell (config : Config) : List CellEntry → Type 0 where
  begins : GoodCell config []
  goes_on : {e : CellEntry} {h : List CellEntry} → IsGood config h e.event → GoodCell config h → GoodCell config (e ∷ h)
