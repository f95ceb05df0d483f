use Rattle.std.proofs.Common.{true, false, refl, sym, ap, subst, ◌∙◌}
use Rattle.port_pool.specs.declared.holder.Side.TheVariants.{A}
use Rattle.port_pool.specs.declared.signal.SectionSignal.TheVariants.{Commit, Reject}
use Rattle.offer_answer.specs.Signals.{side_signal}
use Rattle.offer_answer.specs.AnswerShapes.{SignalsSection, SignalShape}
use Rattle.offer_answer.specs.declared.answered_section.AnsweredSection.{AnsweredSection}
use Rattle.offer_answer.proofs.AnswerParts.{reject-signal}
use Rattle.offer_answer.proofs.signals.section_signal.Goals as goal

pub returns-then-is_rejected-clause-signal : goal.returns-then-is_rejected-clause-signal
returns-then-is_rejected-clause-signal c = λ config rounds offer ask s i h e.
    sym (reject-signal rounds offer ask c.args.section true (sym (c.is_rejected.ensures.rejected config rounds offer ask s i h.lines_are) ∙ c.if-is_rejected.true))

pub returns-clause-signal : goal.returns-clause-signal
returns-clause-signal c = λ config rounds offer ask s i h e.
    let at = c.answered_section-answered.ensures.answered config rounds offer ask s i h in
    ap (λ x. Commit x c.side_signal-b.result) (c.side_signal-a.ensures.signal config rounds offer ask c.args.section at i e)
    ∙ ap (Commit (side_signal rounds offer ask c.args.section A)) (c.side_signal-b.ensures.signal config rounds offer ask c.args.section at i e)
    ∙ sym (reject-signal rounds offer ask c.args.section false (sym (c.is_rejected.ensures.rejected config rounds offer ask s i h.lines_are) ∙ c.if-is_rejected.false))

pub returns-then-is_rejected-clause-shape : goal.returns-then-is_rejected-clause-shape
returns-then-is_rejected-clause-shape c =
    subst (λ refused. SignalShape refused c.args.dialog.now c.args.last.now c.args.sdp.now c.args.section Reject) (sym c.if-is_rejected.true ∙ c.is_rejected.ensures.shape) refl

pub returns-clause-shape : goal.returns-clause-shape
returns-clause-shape c =
    subst (λ refused. SignalShape refused c.args.dialog.now c.args.last.now c.args.sdp.now c.args.section (Commit c.side_signal-a.result c.side_signal-b.result)) (sym c.if-is_rejected.false ∙ c.is_rejected.ensures.shape)
    (λ answered now. subst (λ (o : AnsweredSection). SignalsSection o c.args.last.now.maker (Commit c.side_signal-a.result c.side_signal-b.result))
    (sym (c.answered_section-answered.ensures.only answered now)) (c.side_signal-a.ensures.keys, c.side_signal-b.ensures.keys))
