use Rattle.std.proofs.Common.{All, subst, refl}
use Rattle.std.proofs.lemmas.List.{take_all}
use Rattle.std.proofs.lemmas.List.Elements.{All-more}
use Rattle.state_reads.specs.Bounds.{IsCountBelow}
use Rattle.state_reads.proofs.ranges.are_counts.Goals as goal

pub loop-generation-preserved : goal.loop-generation-preserved
loop-generation-preserved c =
    All-more IsCountBelow c.args.generations.now c.loop-generation.generation-index 0 c.loop-generation-test.true c.loop-generation.invariant (c.is_count.ensures.0 c.if-not-is_count.false)

pub returns : goal.returns
returns c = (λ t. subst (All IsCountBelow) (take_all c.loop-generation.generation-index c.args.generations.now c.loop-generation-test.false) c.loop-generation.invariant, λ all. refl)
