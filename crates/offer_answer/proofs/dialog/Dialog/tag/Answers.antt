use Rattle.std.proofs.Common.{sym, subst, MatchOption, None, Some, ◌≡◌}
use Rattle.port_pool.specs.declared.holder.Side.{Side}
use Rattle.offer_answer.specs.Plan as plan
use Rattle.offer_answer.proofs.dialog.Dialog.tag.Goals as goal

pub returns-in-A : goal.returns-in-A
returns-in-A c = λ config rounds s.
    subst (λ (side : Side). MatchOption c.first_offerer.result (plan.tag rounds side ≡ None) (λ tag. plan.tag rounds side ≡ Some tag.now)) (sym c.in-A.is)
    (c.first_offerer.ensures config rounds s)

pub returns-in-B : goal.returns-in-B
returns-in-B c = λ config rounds s.
    subst (λ (side : Side). MatchOption c.answerer.result (plan.tag rounds side ≡ None) (λ tag. plan.tag rounds side ≡ Some tag.now)) (sym c.in-B.is)
    (c.answerer.ensures config rounds s)
