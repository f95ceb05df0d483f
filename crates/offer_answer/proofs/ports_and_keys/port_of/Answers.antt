use Rattle.std.proofs.Common.{false, sym, ◌∙◌}
use Rattle.offer_answer.proofs.NextLegs.{port-turn}
use Rattle.offer_answer.proofs.ports_and_keys.port_of.Goals as goal

pub loop-index-preserved : goal.loop-index-preserved
loop-index-preserved c =
    c.loop-index.invariant
    ∙ port-turn c.args.legs.now c.args.ports.now c.loop-index.index c.args.section c.args.side false c.loop-index-test.true c.requires (sym c.is_leg.ensures ∙ c.if-is_leg.false)
