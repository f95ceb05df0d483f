use Rattle.std.proofs.Common.{◌≡◌, ◌-◌, List, filter}
use Rattle.std.specs.List.{list_any}
use Rattle.histories.specs.Words.{numbers}
use Rattle.relay_outside.specs.declared.settings.Config.{Config}
use Rattle.offer_answer.specs.Rounds.{Round, AnswerAsk}
use Rattle.offer_answer.specs.Sides.{MadeOffer}
use Rattle.offer_answer.specs.Sections.{section_count, active_sections, is_active_in}
use Rattle.offer_answer.specs.Faults.{misfits_answerer}
use Rattle.offer_answer.specs.Dialogs.{DialogFor}
use Rattle.offer_answer.specs.Answers.{IsLast, ReadsAnswer}
use Rattle.offer_answer.proofs.answer_plan.misfits.Given as goal

-- each section so far fits
abbrev pub invariant-loop-index : goal.invariant-loop-index
invariant-loop-index l = (config : Config) (rounds : List Round) (offer : MadeOffer) (ask : AnswerAsk) → DialogFor config l.fn.dialog rounds →
    IsLast rounds offer l.fn.last → ReadsAnswer l.fn.sdp rounds ask → l.fn.options ≡ ask.options →
    list_any (misfits_answerer rounds offer ask) (active_sections ask.sdp)
    ≡ list_any (misfits_answerer rounds offer ask) (filter (is_active_in ask.sdp) (numbers l.index (section_count ask.sdp - l.index)))
