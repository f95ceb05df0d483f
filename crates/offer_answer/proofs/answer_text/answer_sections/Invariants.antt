use Rattle.std.proofs.Common.{◌≡◌, ◌+◌, ◌-◌, ◌≤◌, ◌++◌, List, length, Some, map}
use Rattle.histories.specs.Words.{numbers}
use Rattle.sdp_text.specs.Lines.{lines_of}
use Rattle.sdp_text.specs.Descriptions.{sections_in}
use Rattle.sdp_edit.specs.EditedText.{HaveTags}
use Rattle.offer_answer.specs.Rounds.{Round, AnswerAsk}
use Rattle.offer_answer.specs.Sides.{MadeOffer, last_offer}
use Rattle.offer_answer.specs.Sections.{section_count, all_sections}
use Rattle.offer_answer.specs.Texts.{answer_section}
use Rattle.offer_answer.specs.Plan.{OfferRead}
use Rattle.offer_answer.specs.Dialogs.{DialogFor}
use Rattle.offer_answer.specs.LastOffers.{LastFor}
use Rattle.offer_answer.proofs.answer_text.answer_sections.Given as goal

-- the sections, with those that are left, are all
abbrev pub invariant-loop-index : goal.invariant-loop-index
invariant-loop-index l = record {
  origin : l.edit.replace_origin ≡ l.options.replace_origin;
  session : l.edit.replace_session ≡ l.options.replace_session;
  list : (rounds : List Round) (offer : MadeOffer) (ask : AnswerAsk) → DialogFor l.fn.config l.fn.dialog rounds → last_offer rounds ≡ Some offer →
      LastFor offer l.fn.last → OfferRead offer.ask → lines_of ask.sdp ≡ l.fn.sdp →
      l.edit.sections.list ++ map (answer_section l.fn.config rounds offer ask) (numbers l.index (section_count ask.sdp - l.index))
      ≡ map (answer_section l.fn.config rounds offer ask) (all_sections ask.sdp);
  room : length (sections_in l.fn.sdp) ≤ l.edit.sections.spare + l.index;
  tags : HaveTags l.edit.sections.list;
}
