use Rattle.std.proofs.Common.{take}
use Rattle.histories.specs.Words.{In}
use Rattle.call_cell.specs.declared.saved.LegSaved.{LegSaved}
use Rattle.whole_records.specs.SavedShapes.{saved_leg_shape}
use Rattle.whole_records.specs.RecordParts.{IsLeased}
use Rattle.whole_records.proofs.legs.are_leased.Given as goal

abbrev pub invariant-loop-leg : goal.invariant-loop-leg
invariant-loop-leg l = (leg : LegSaved) → In leg (take l.leg-index l.legs) → IsLeased l.config l.generations l.cell l.call (saved_leg_shape leg)
