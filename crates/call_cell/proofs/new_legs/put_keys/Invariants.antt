use Rattle.std.proofs.Common.{◌≡◌, vec_len, map}
use Rattle.call_cell.specs.LegHistories.{AreApart}
use Rattle.call_cell.specs.Preparations.{with_keys}
use Rattle.call_cell.specs.Shapes.{counts_of_legs, ends_of_legs, cell_leg_shapes, leg_forms, with_prepared}
use Rattle.call_cell.proofs.new_legs.put_keys.Given as goal

abbrev pub invariant-loop-key : goal.invariant-loop-key
invariant-loop-key g l =
    (AreApart l.initial.legs → AreApart l.legs
    × (map (λ leg. with_keys l.keys.items leg) l.legs ≡ map (λ leg. with_keys l.initial.keys.items leg) l.initial.legs))
    × (with_prepared l.keys.items (cell_leg_shapes l.legs) ≡ with_prepared l.initial.keys.items (cell_leg_shapes l.initial.legs))
    × (ends_of_legs l.legs ≡ ends_of_legs l.initial.legs)
    × (counts_of_legs l.legs ≡ counts_of_legs l.initial.legs)
    × (leg_forms l.legs ≡ leg_forms l.initial.legs)

abbrev pub decreases-loop-key : goal.decreases-loop-key
decreases-loop-key g l = vec_len l.keys
