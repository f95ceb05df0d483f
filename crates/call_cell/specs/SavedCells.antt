-- What a cell is saved as.
use Rattle.std.specs.Prelude.{◌≡◌, List, map, None}
use Rattle.histories.specs.Words.{In}
use Rattle.call_cell.specs.declared.leg.Leg.{Leg}
use Rattle.call_cell.specs.declared.cell.Cell.{Cell}
use Rattle.call_cell.specs.declared.saved.CellSaved.{CellSaved}
use Rattle.call_cell.specs.declared.saved.LegSaved.{LegSaved}
use Rattle.call_cell.specs.Parts.{boxed_in}

abbrev pub saved_leg : {O : Type 0} → Leg O → LegSaved
saved_leg leg = record {
  holder = leg.holder;
  lease = leg.lease;
  signal = leg.signal;
  rtp = leg.receiving.rtp;
  rtcp = leg.receiving.rtcp;
  inbound = boxed_in leg.receiving.inbound;
  tag80 = boxed_in leg.sending.tag80;
  tag32 = boxed_in leg.sending.tag32;
  counts = leg.counts;
  report = leg.report;
}

-- the record holds all of the cell but the ends of its legs
pub record SavesCell {O : Type 0} (cell : Cell O) (saved : CellSaved) : Type 0 where
  pub config : saved.config ≡ cell.config
  pub moment : saved.moment ≡ cell.moment
  pub call : saved.call ≡ cell.call
  pub began : saved.began ≡ cell.began
  pub is_committed : saved.is_committed ≡ cell.is_committed
  pub active : saved.active ≡ cell.active
  pub legs : saved.legs.items ≡ map (λ (leg : Leg O). saved_leg leg) cell.legs.items

-- no leg has its ends
abbrev pub AreEmptied : {O : Type 0} → List (Leg O) → Type 0
AreEmptied {O} those = (leg : Leg O) → In leg those → leg.sending.ends ≡ None
