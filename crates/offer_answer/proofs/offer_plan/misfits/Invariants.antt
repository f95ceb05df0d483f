use Rattle.std.proofs.Common.{◌≡◌, ◌-◌, List, filter}
use Rattle.std.specs.List.{list_any}
use Rattle.histories.specs.Words.{numbers}
use Rattle.relay_outside.specs.declared.settings.Config.{Config}
use Rattle.offer_answer.specs.Rounds.{Round, OfferAsk}
use Rattle.offer_answer.specs.Sides.{offerer}
use Rattle.offer_answer.specs.Sections.{section_count, active_sections, is_active_in}
use Rattle.offer_answer.specs.Faults.{misfits_offerer}
use Rattle.offer_answer.specs.Dialogs.{DialogFor}
use Rattle.offer_answer.specs.Offers.{ReadsOffer}
use Rattle.offer_answer.proofs.offer_plan.misfits.Given as goal

-- each section so far fits
abbrev pub invariant-loop-index : goal.invariant-loop-index
invariant-loop-index l = (config : Config) (rounds : List Round) (ask : OfferAsk) → DialogFor config l.fn.dialog rounds → ReadsOffer l.fn.sdp ask →
    l.fn.options ≡ ask.options → l.fn.side ≡ offerer rounds ask →
    list_any (misfits_offerer rounds ask) (active_sections ask.sdp)
    ≡ list_any (misfits_offerer rounds ask) (filter (is_active_in ask.sdp) (numbers l.index (section_count ask.sdp - l.index)))
