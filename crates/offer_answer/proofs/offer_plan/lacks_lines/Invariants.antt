use Rattle.std.proofs.Common.{◌≡◌, ◌-◌, List, filter}
use Rattle.std.specs.List.{list_any}
use Rattle.histories.specs.Words.{numbers}
use Rattle.relay_outside.specs.declared.settings.Config.{Config}
use Rattle.offer_answer.specs.Rounds.{Round, OfferAsk}
use Rattle.offer_answer.specs.Sections.{section_count, active_sections, is_active_in}
use Rattle.offer_answer.specs.Faults.{lacks_line}
use Rattle.offer_answer.specs.Dialogs.{DialogFor}
use Rattle.offer_answer.specs.Offers.{ReadsOffer}
use Rattle.offer_answer.proofs.offer_plan.lacks_lines.Given as goal

-- no section so far lacks a line
abbrev pub invariant-loop-index : goal.invariant-loop-index
invariant-loop-index l = (config : Config) (rounds : List Round) (ask : OfferAsk) → DialogFor config l.fn.dialog rounds → ReadsOffer l.fn.sdp ask →
    list_any (lacks_line ask) (active_sections ask.sdp)
    ≡ list_any (lacks_line ask) (filter (is_active_in ask.sdp) (numbers l.index (section_count ask.sdp - l.index)))
