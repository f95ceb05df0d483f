use Rattle.std.proofs.Common.{false, sym, ◌∙◌}
use Rattle.offer_answer.proofs.NextLegs.{key-turn}
use Rattle.offer_answer.proofs.ports_and_keys.key_of.Goals as goal

pub loop-index-preserved : goal.loop-index-preserved
loop-index-preserved c =
    c.loop-index.invariant
    ∙ key-turn c.args.places.now c.args.first_key c.args.keys.now c.loop-index.index c.args.section c.args.side c.args.suite false c.loop-index-test.true c.requires.same
    (sym c.is_place.ensures ∙ c.if-is_place.false)
