use Rattle.std.proofs.Common.{ap, ◌∙◌, arith, List, ◌++◌, ◌∷◌, []}
use Rattle.call_cell.specs.declared.leg.Leg.{Leg}
use Rattle.call_cell.proofs.Forms.{first_in, first_stays, first_goes}
use Rattle.call_cell.proofs.dropped_legs.part_first.Goals as goal

pub returns-then-has_room-clause-whole : goal.returns-then-has_room-clause-whole
returns-then-has_room-clause-whole g c =
    let there = first_in c.args.legs.now.items c.remove-leg.result (omega (arith, c.requires.some, c.args.legs.now.ok.0)) c.remove-leg.ensures.value in
    first_goes c.args.legs.now.items c.remove-leg.new.self.items c.remove-leg.result c.args.gone.now c.put.new.self there c.remove-leg.ensures.by_index.2 c.put.ensures

pub returns-else-goes-clause-whole : goal.returns-else-goes-clause-whole
returns-else-goes-clause-whole g c =
    let there = first_in c.args.legs.now.items c.remove-leg.result (omega (arith, c.requires.some, c.args.legs.now.ok.0)) c.remove-leg.ensures.value in
    first_stays c.args.legs.now.items c.push_reserved.new.self.items c.remove-leg.result c.args.gone.now there
    (c.push_reserved.ensures.items ∙ ap (λ (l : List (Leg _)). l ++ c.remove-leg.result ∷ []) c.remove-leg.ensures.by_index.2)
