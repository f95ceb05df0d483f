use Rattle.std.proofs.Common.{false, ap, ◌∙◌, option_map}
use Rattle.port_pool.specs.declared.holder.Side.TheVariants.{A, B}
use Rattle.offer_answer.specs.Dialogs.{drawn_for_leg}
use Rattle.offer_answer.proofs.AnswerParts.{key-is}
use Rattle.offer_answer.proofs.AnswerSteps.{section-after}
use Rattle.offer_answer.specs.Shapes.{key_shape, leg_shape}
use Rattle.offer_answer.specs.AnswerShapes.{with_key_in_force}
use Rattle.offer_answer.proofs.Shapes.{both-legs}
use Rattle.offer_answer.proofs.next_answer.committed_section.Goals as goal

pub returns-clause-next : goal.returns-clause-next
returns-clause-next c = λ config rounds offer ask section a i r.
    let key_a = ap (option_map (drawn_for_leg section A)) c.committed_key-key_a.ensures
    ∙ key-is config rounds offer ask section c.args.answered.now c.args.last.now.maker A a i.offer_is i.kept.maker_is in
    let key_b = ap (option_map (drawn_for_leg section B)) c.committed_key-key_b.ensures
    ∙ key-is config rounds offer ask section c.args.answered.now c.args.last.now.maker B a i.offer_is i.kept.maker_is in
    section-after config rounds ask section false c.committed_leg.result c.committed_leg-2.result r
    (c.committed_leg.ensures.next config rounds ask section A (a.kept_is.legs_are A) r key_a) (c.committed_leg-2.ensures.next config rounds ask section B (a.kept_is.legs_are B) r key_b)

pub returns-clause-shape : goal.returns-clause-shape
returns-clause-shape c =
    let kept = c.args.answered.now.kept in
    both-legs _ _ _ _ _ _
    (c.committed_leg.ensures.shape ∙ ap (λ k. with_key_in_force (option_map key_shape k) (leg_shape kept.a)) c.committed_key-key_a.ensures)
    (c.committed_leg-2.ensures.shape ∙ ap (λ k. with_key_in_force (option_map key_shape k) (leg_shape kept.b)) c.committed_key-key_b.ensures)
