use Rattle.std.proofs.Common.{◌≡◌, ◌-◌, List}
use Rattle.std.specs.List.{list_any}
use Rattle.histories.specs.Words.{numbers}
use Rattle.relay_outside.specs.declared.settings.Config.{Config}
use Rattle.offer_answer.specs.Rounds.{Round, AnswerAsk}
use Rattle.offer_answer.specs.Sides.{MadeOffer}
use Rattle.offer_answer.specs.Sections.{section_count, all_sections}
use Rattle.offer_answer.specs.Faults.{takes_no_line}
use Rattle.offer_answer.specs.Dialogs.{DialogFor}
use Rattle.offer_answer.specs.Answers.{IsLast, ReadsAnswer}
use Rattle.offer_answer.proofs.answer_plan.takes_no_line.Given as goal

-- every section so far takes up a line where it needs one
abbrev pub invariant-loop-index : goal.invariant-loop-index
invariant-loop-index l = (config : Config) (rounds : List Round) (offer : MadeOffer) (ask : AnswerAsk) → DialogFor config l.fn.dialog rounds →
    IsLast rounds offer l.fn.last → ReadsAnswer l.fn.sdp rounds ask →
    list_any (takes_no_line offer ask) (all_sections ask.sdp) ≡ list_any (takes_no_line offer ask) (numbers l.index (section_count ask.sdp - l.index))
