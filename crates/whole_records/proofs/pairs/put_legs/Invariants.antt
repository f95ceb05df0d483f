use Rattle.std.proofs.Common.{◌≡◌, ◌++◌, map, drop}
use Rattle.call_cell.specs.declared.saved.LegSaved.{LegSaved}
use Rattle.whole_records.proofs.pairs.put_legs.Given as goal

-- what is put, with what is left, is the whole list
abbrev pub invariant-loop-leg : goal.invariant-loop-leg
invariant-loop-leg l = l.pairs.items ++ map (λ (leg : LegSaved). leg.holder.pair) (drop l.leg-index l.legs) ≡ l.initial.pairs.items ++ map (λ (leg : LegSaved). leg.holder.pair) l.legs
