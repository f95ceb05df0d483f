use Rattle.std.proofs.Common.{◌≡◌, ◌&&◌, true, false, sym, ap, ◌∙◌}
use Rattle.offer_answer.specs.Sides.{is_some_sides}
use Rattle.offer_answer.specs.Faults.{may_answer}
use Rattle.offer_answer.proofs.answer_plan.are_known.Goals as goal

pub returns-then-is_some_sides : goal.returns-then-is_some_sides
returns-then-is_some_sides c = λ config rounds ask s f t.
    let known : is_some_sides rounds ask.from_tag ≡ true = ap (is_some_sides rounds) f ∙ sym (c.is_some_sides.ensures config rounds s) ∙ c.if-is_some_sides.true in
    c.may_answer.ensures config rounds ask s f t ∙ sym (ap (λ b. b && may_answer rounds ask) known)

pub returns-else-is_some_sides : goal.returns-else-is_some_sides
returns-else-is_some_sides c = λ config rounds ask s f t.
    let unknown : is_some_sides rounds ask.from_tag ≡ false = ap (is_some_sides rounds) f ∙ sym (c.is_some_sides.ensures config rounds s) ∙ c.if-is_some_sides.false in
    c.if-is_some_sides.false ∙ sym (ap (λ b. b && may_answer rounds ask) unknown)
