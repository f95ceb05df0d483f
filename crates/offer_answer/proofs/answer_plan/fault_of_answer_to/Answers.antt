use Rattle.std.proofs.Common.{true, false, refl, sym, ◌∙◌}
use Rattle.std.specs.List.{list_any}
use Rattle.offer_answer.specs.Sections.{all_sections}
use Rattle.offer_answer.specs.Faults.{takes_no_line}
use Rattle.offer_answer.proofs.AnswerParts.{fault-cases}
use Rattle.offer_answer.proofs.answer_plan.fault_of_answer_to.Goals as goal

pub returns-then-misfits-clause-fault : goal.returns-then-misfits-clause-fault
returns-then-misfits-clause-fault c = λ config rounds offer ask s i f e h.
    fault-cases rounds offer ask true true true (list_any (takes_no_line offer ask) (all_sections ask.sdp)) (sym (c.is_offerers.ensures offer ask i.kept f) ∙ c.if-not-is_offerers.false)
    (sym (c.has_as_many.ensures.counted rounds offer ask i.kept h) ∙ c.if-not-has_as_many.false) (sym (c.misfits.ensures config rounds offer ask s i h e) ∙ c.if-misfits.true) refl

pub returns-then-takes_no_line-clause-fault : goal.returns-then-takes_no_line-clause-fault
returns-then-takes_no_line-clause-fault c = λ config rounds offer ask s i f e h.
    fault-cases rounds offer ask true true false true (sym (c.is_offerers.ensures offer ask i.kept f) ∙ c.if-not-is_offerers.false)
    (sym (c.has_as_many.ensures.counted rounds offer ask i.kept h) ∙ c.if-not-has_as_many.false) (sym (c.misfits.ensures config rounds offer ask s i h e) ∙ c.if-misfits.false)
    (sym (c.takes_no_line.ensures config rounds offer ask s i h) ∙ c.if-takes_no_line.true)

pub returns-clause-fault : goal.returns-clause-fault
returns-clause-fault c = λ config rounds offer ask s i f e h.
    fault-cases rounds offer ask true true false false (sym (c.is_offerers.ensures offer ask i.kept f) ∙ c.if-not-is_offerers.false)
    (sym (c.has_as_many.ensures.counted rounds offer ask i.kept h) ∙ c.if-not-has_as_many.false) (sym (c.misfits.ensures config rounds offer ask s i h e) ∙ c.if-misfits.false)
    (sym (c.takes_no_line.ensures config rounds offer ask s i h) ∙ c.if-takes_no_line.false)

pub returns-clause-same : goal.returns-clause-same
returns-clause-same c = c.has_as_many.ensures.same c.if-not-has_as_many.false
