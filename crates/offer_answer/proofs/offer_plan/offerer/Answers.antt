use Rattle.std.proofs.Common.{◌≡◌, Bool, true, false, sym, ap, ◌∙◌, if◌then◌else◌}
use Rattle.port_pool.specs.declared.holder.Side.TheVariants.{A, B}
use Rattle.offer_answer.specs.Sides.{is_tag_of}
use Rattle.offer_answer.proofs.offer_plan.offerer.Goals as goal

pub returns-then-is_tag_of : goal.returns-then-is_tag_of
returns-then-is_tag_of c = λ config rounds ask s e.
    let is : is_tag_of rounds B ask.from_tag ≡ true = ap (is_tag_of rounds B) e ∙ sym (c.is_tag_of.ensures config rounds s) ∙ c.if-is_tag_of.true in
    sym (ap (λ (b : Bool). if b then B else A) is)

pub returns-else-is_tag_of : goal.returns-else-is_tag_of
returns-else-is_tag_of c = λ config rounds ask s e.
    let is : is_tag_of rounds B ask.from_tag ≡ false = ap (is_tag_of rounds B) e ∙ sym (c.is_tag_of.ensures config rounds s) ∙ c.if-is_tag_of.false in
    sym (ap (λ (b : Bool). if b then B else A) is)
