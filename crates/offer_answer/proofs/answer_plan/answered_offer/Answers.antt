use Rattle.std.proofs.Common.{◌≡◌, ◌&&◌, true, ap, sym, ◌∙◌, Option}
use Rattle.offer_answer.specs.declared.fault.OaFault.{OaFault}
use Rattle.offer_answer.specs.Sides.{is_some_sides}
use Rattle.offer_answer.specs.Faults.{may_answer}
use Rattle.offer_answer.specs.Offers.{fault_code}
use Rattle.offer_answer.proofs.AnswerParts.{fault-tags, fault-none, fault-to}
use Rattle.offer_answer.proofs.answer_plan.answered_offer.Goals as goal

pub returns-then-not-are_known-clause-fault : goal.returns-then-not-are_known-clause-fault
returns-then-not-are_known-clause-fault c = λ config rounds ask s a.
    fault-tags rounds ask (sym (c.are_known.ensures config rounds ask s (a.from_tag_is ∙ sym c.as_slice-from_tag.ensures) (a.to_tag_is ∙ sym c.as_slice.ensures)) ∙ c.if-not-are_known.true)

pub returns-in_default-clause-fault : goal.returns-in_default-clause-fault
returns-in_default-clause-fault c = λ config rounds ask s a. fault-none rounds ask (c.in_default.ensures.stands config rounds s)

pub returns-in-Some-fault_of_answer_to-clause-fault : goal.returns-in-Some-fault_of_answer_to-clause-fault
returns-in-Some-fault_of_answer_to-clause-fault c = λ config rounds ask s a.
    let from = a.from_tag_is ∙ sym c.as_slice-from_tag.ensures in
    let known : (is_some_sides rounds ask.from_tag && may_answer rounds ask) ≡ true =
    sym (c.are_known.ensures config rounds ask s from (a.to_tag_is ∙ sym c.as_slice.ensures)) ∙ c.if-not-are_known.false in
    let last = c.in-Some.ensures.stands config rounds s in
    fault-to rounds last.0 ask known last.1.offer_is ∙ c.fault_of_answer_to.ensures.fault config rounds last.0 ask s last.1 from (sym a.options_are) a.hears
    ∙ ap (λ (o : Option OaFault). fault_code o) c.in-Some-fault_of_answer_to.is

pub returns-in-None-clause-offer : goal.returns-in-None-clause-offer
returns-in-None-clause-offer c = λ config rounds ask s a.
    let from = a.from_tag_is ∙ sym c.as_slice-from_tag.ensures in
    let known : (is_some_sides rounds ask.from_tag && may_answer rounds ask) ≡ true =
    sym (c.are_known.ensures config rounds ask s from (a.to_tag_is ∙ sym c.as_slice.ensures)) ∙ c.if-not-are_known.false in
    let last = c.in-Some.ensures.stands config rounds s in (
      fault-to rounds last.0 ask known last.1.offer_is ∙ c.fault_of_answer_to.ensures.fault config rounds last.0 ask s last.1 from (sym a.options_are) a.hears
          ∙ ap (λ (o : Option OaFault). fault_code o) c.in-None.is,
      last,
    )
