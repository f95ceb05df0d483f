use Rattle.std.proofs.Common.{◌||◌, sym, ap, ◌∙◌}
use Rattle.port_pool.specs.declared.holder.Side.TheVariants.{B}
use Rattle.offer_answer.specs.Sides.{is_tag_of}
use Rattle.offer_answer.proofs.offer_plan.is_some_sides.Goals as goal

pub returns-then-is_tag_of : goal.returns-then-is_tag_of
returns-then-is_tag_of c = λ config rounds s.
    let e = c.is_tag_of.ensures config rounds s in
    c.if-is_tag_of.true ∙ sym (ap (λ b. b || is_tag_of rounds B c.args.tag.now) (sym e ∙ c.if-is_tag_of.true))

pub returns-else-is_tag_of : goal.returns-else-is_tag_of
returns-else-is_tag_of c = λ config rounds s.
    let e = c.is_tag_of.ensures config rounds s in
    let f = c.is_tag_of-else-is_tag_of.ensures config rounds s in
    f ∙ sym (ap (λ b. b || is_tag_of rounds B c.args.tag.now) (sym e ∙ c.if-is_tag_of.false))
