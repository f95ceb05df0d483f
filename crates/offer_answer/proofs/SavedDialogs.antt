-- Dialogs of one record keep the same.
use Rattle.std.proofs.Common.{◌≡◌, ◌∙◌, ℕ, ◌<◌, List, Bool, Option, Some, None, sym, subst, if◌then◌else◌, slice_index_or}
use Rattle.offer_answer.specs.Rounds.{Round}
use Rattle.offer_answer.specs.Sides.{MadeOffer, first_tag}
use Rattle.offer_answer.specs.Sections.{most_sections}
use Rattle.offer_answer.specs.LastOffers.{MadeFor, LastFor, OfferKept, no_made}
use Rattle.offer_answer.specs.Dialogs.{SectionFor, no_state}
use Rattle.offer_answer.specs.SavedDialogs.{OfferSaves, LastOfferSaves, DialogMoves, AwaitsMoves}
use Rattle.offer_answer.specs.declared.leg.DialogSection.{DialogSection}
use Rattle.offer_answer.specs.declared.last_offer.MadeSection.{MadeSection}
use Rattle.offer_answer.specs.declared.last_offer.LastOffer.{LastOffer}

pub last_moves : (offer : MadeOffer) (a b saved : LastOffer) → OfferSaves a saved → OfferSaves b saved → LastFor offer a → LastFor offer b
last_moves offer a b saved sa sb s = record {
  from_tag_is = sym sb.from_tag_is ∙ sa.from_tag_is ∙ s.from_tag_is;
  maker_is = sym sb.maker_is ∙ sa.maker_is ∙ s.maker_is;
  options_are = sym sb.options_are ∙ sa.options_are ∙ s.options_are;
  count_is = sym sb.count_is ∙ sa.count_is ∙ s.count_is;
  few = s.few;
  heard = s.heard;
  sections_are = subst (λ (sections : List MadeSection). (section : ℕ) → section < most_sections → MadeFor offer section (slice_index_or sections section no_made))
      (sym sa.sections_are ∙ sb.sections_are) s.sections_are;
}

pub offer_moves : (made : Option MadeOffer) (a b saved : Option LastOffer) → LastOfferSaves a saved → LastOfferSaves b saved → OfferKept made a → OfferKept made b
offer_moves None None None saved sa sb s = s
offer_moves None None (Some b) None sa sb s = absurd sb
offer_moves None None (Some b) (Some saved) sa sb s = absurd sa
offer_moves None (Some a) b saved sa sb s = absurd s
offer_moves (Some offer) None b saved sa sb s = absurd s
offer_moves (Some offer) (Some a) b None sa sb s = absurd sa
offer_moves (Some offer) (Some a) None (Some saved) sa sb s = absurd sb
offer_moves (Some offer) (Some a) (Some b) (Some saved) sa sb s = last_moves offer a b saved sa sb s

pub tag_moves : (rounds : List Round) (begun other_begun : Bool) (tag other_tag : List ℕ) → begun ≡ other_begun → tag ≡ other_tag →
    (if begun then Some tag else None) ≡ first_tag rounds → (if other_begun then Some other_tag else None) ≡ first_tag rounds
tag_moves rounds begun other_begun tag other_tag e t s =
    subst (λ (b : Bool). (if b then Some other_tag else None) ≡ first_tag rounds) e
    (subst (λ (l : List ℕ). (if begun then Some l else None) ≡ first_tag rounds) t s)

pub dialog_moves : DialogMoves
dialog_moves config a b saved rounds sa sb s = record {
  begun_is = sym sb.begun_is ∙ sa.begun_is ∙ s.begun_is;
  first_tag_is = tag_moves rounds a.is_begun b.is_begun a.first_tag.list b.first_tag.list (sym sa.begun_is ∙ sb.begun_is)
      (sym sa.first_tag_is ∙ sb.first_tag_is) s.first_tag_is;
  answering_tag_is = sym sb.answering_tag_is ∙ sa.answering_tag_is ∙ s.answering_tag_is;
  has_answer_is = sym sb.has_answer_is ∙ sa.has_answer_is ∙ s.has_answer_is;
  is_settled_is = sym sb.settled_is ∙ sa.settled_is ∙ s.is_settled_is;
  committed_count_is = sym sb.committed_count_is ∙ sa.committed_count_is ∙ s.committed_count_is;
  offer_is = offer_moves _ a.last_offer b.last_offer saved.last_offer sa.last_offer_is sb.last_offer_is s.offer_is;
  sections_are = subst (λ (sections : List DialogSection). (section : ℕ) → section < most_sections →
      SectionFor config rounds section (slice_index_or sections section no_state)) (sym sa.sections_are ∙ sb.sections_are) s.sections_are;
  no_more = s.no_more;
}

pub awaits_moves : AwaitsMoves
awaits_moves a b saved tag sa sb w = λ e. sym sb.first_tag_is ∙ sa.first_tag_is ∙ w (sym sa.begun_is ∙ sb.begun_is ∙ e)
