use Rattle.std.proofs.Common.{◌≡◌, true, not, ◌&&◌, sym, ap, ◌∙◌}
use Rattle.offer_answer.specs.Sides.{is_begun, is_some_sides}
use Rattle.offer_answer.proofs.offer_plan.is_strangers.Goals as goal

pub returns-then-is_begun : goal.returns-then-is_begun
returns-then-is_begun c = λ config rounds ask s e.
    let begun : is_begun rounds ≡ true = sym s.begun_is ∙ sym c.is_begun.ensures ∙ c.if-is_begun.true in
    ap not (c.is_some_sides.ensures config rounds s) ∙ ap (λ t. not (is_some_sides rounds t)) (sym e)
    ∙ sym (ap (λ b. b && not (is_some_sides rounds ask.from_tag)) begun)
