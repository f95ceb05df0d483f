use Rattle.std.proofs.Common.{◌∙◌, ap, sym, refl, ℕ, List, Option}
use Rattle.port_pool.specs.declared.holder.Side.TheVariants as sides
use Rattle.offer_answer.specs.Plan as plan
use Rattle.call_report.specs.Tags.{first_side}
use Rattle.call_report.proofs.tag_order.first_side.Goals as goal

pub returns-in_default : goal.returns-in_default
returns-in_default c = λ config rounds d.
    ap (λ (tag : Option (List ℕ)). first_side tag (plan.tag rounds sides.B)) (sym (c.in_default.ensures config rounds d))

pub returns-in_default-tag : goal.returns-in_default-tag
returns-in_default-tag c = λ config rounds d. rw (c.in-Some.ensures config rounds d, c.in_default-tag.ensures config rounds d) refl

pub returns-then-stands_before : goal.returns-then-stands_before
returns-then-stands_before c = λ config rounds d.
    rw (c.in-Some.ensures config rounds d, c.in-Some-tag.ensures config rounds d, sym c.stands_before.ensures ∙ c.if-stands_before.true) refl

pub returns-else-stands_before : goal.returns-else-stands_before
returns-else-stands_before c = λ config rounds d.
    rw (c.in-Some.ensures config rounds d, c.in-Some-tag.ensures config rounds d, sym c.stands_before.ensures ∙ c.if-stands_before.false) refl
