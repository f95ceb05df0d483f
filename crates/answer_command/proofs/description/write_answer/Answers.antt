use Rattle.std.proofs.Common.{sym, subst}
use Rattle.offer_answer.specs.declared.plan.Plan.{Plan}
use Rattle.offer_answer.specs.AnswerShapes.{AnswerShapes}
use Rattle.answer_command.proofs.description.write_answer.Goals as goal

pub returns-clause-shapes : goal.returns-clause-shapes
returns-clause-shapes c dialog was =
    subst (λ (p : Plan). AnswerShapes p dialog c.fill.new.self.next) c.plan.ensures.value
    (c.fill.ensures.answered_shapes dialog (subst (λ (p : Plan). AnswerShapes p dialog p.next) (sym c.plan.ensures.value) was))
