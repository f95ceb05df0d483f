use Rattle.std.proofs.Common.{◌≡◌, true, false, sym, ap, ◌∙◌}
use Rattle.std.specs.Str.{bytes_eq}
use Rattle.offer_answer.specs.Sides.{is_settled, is_some_sides}
use Rattle.offer_answer.proofs.AnswerParts.{may-cases}
use Rattle.offer_answer.proofs.answer_plan.may_answer.Goals as goal

pub returns-then-is_settled : goal.returns-then-is_settled
returns-then-is_settled c = λ config rounds ask s f t.
    let other : bytes_eq ask.to_tag ask.from_tag ≡ false =
    ap (λ x. bytes_eq x ask.from_tag) t ∙ ap (bytes_eq c.args.to_tag.now) f ∙ sym c.eq.ensures ∙ c.if-eq.false in
    let settled : is_settled rounds ≡ true = sym s.is_settled_is ∙ sym c.is_settled.ensures ∙ c.if-is_settled.true in
    c.is_some_sides.ensures config rounds s ∙ ap (is_some_sides rounds) (sym t) ∙ sym (may-cases rounds ask false true other settled)
