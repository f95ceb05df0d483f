use Rattle.std.proofs.Common.{true}
use Rattle.port_pool.specs.declared.holder.Side.TheVariants.{A, B}
use Rattle.offer_answer.proofs.AnswerSteps.{section-after}
use Rattle.offer_answer.proofs.Shapes.{both-legs}
use Rattle.offer_answer.proofs.next_answer.rejected_section.Goals as goal

pub returns-clause-next : goal.returns-clause-next
returns-clause-next c = λ config rounds ask section k r.
    section-after config rounds ask section true c.rejected_leg.result c.rejected_leg-2.result r
    (c.rejected_leg.ensures.next config rounds ask section A (k.legs_are A) r) (c.rejected_leg-2.ensures.next config rounds ask section B (k.legs_are B) r)

pub returns-clause-shape : goal.returns-clause-shape
returns-clause-shape c = both-legs _ _ _ _ _ _ c.rejected_leg.ensures.shape c.rejected_leg-2.ensures.shape
