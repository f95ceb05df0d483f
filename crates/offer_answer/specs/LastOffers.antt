-- What a dialog keeps of the last accepted offer.
use Rattle.std.specs.Prelude.{◌≡◌, ◌<◌, ◌≤◌, ℕ, Option, Some, None, slice_index_or}
use Rattle.sdp_text.specs.declared.proto.Proto.TheVariants.{Other}
use Rattle.offer_answer.specs.Sides.{MadeOffer, maker}
use Rattle.offer_answer.specs.Sections.{most_sections, no_section, section_in, section_count}
use Rattle.offer_answer.specs.Profiles.{written_profile}
use Rattle.offer_answer.specs.Keys.{chosen_in, no_lines, offered_lines}
use Rattle.offer_answer.specs.Plan.{OfferRead}
use Rattle.offer_answer.specs.declared.last_offer.MadeSection.{MadeSection}
use Rattle.offer_answer.specs.declared.last_offer.LastOffer.{LastOffer}

-- a section that isn't there
abbrev pub no_made : MadeSection
no_made = record { section = no_section; line = None; written = Other; lines = no_lines }

-- what is kept of a section of the offer
pub record MadeFor (offer : MadeOffer) (section : ℕ) (made : MadeSection) : Type 0 where
  pub section_is : made.section ≡ section_in offer.ask.sdp section
  pub line_is : made.line ≡ chosen_in offer.ask.chosen section
  pub written_is : made.written ≡ written_profile offer.before offer.ask section
  pub lines_are : made.lines ≡ offered_lines offer.before offer.ask offer.keys section

-- what is kept of the offer, which has no more sections than are kept
pub record LastFor (offer : MadeOffer) (last : LastOffer) : Type 0 where
  pub from_tag_is : last.from_tag.list ≡ offer.ask.from_tag
  pub maker_is : last.maker ≡ maker offer
  pub options_are : last.options ≡ offer.ask.options
  pub count_is : last.count ≡ section_count offer.ask.sdp
  pub few : section_count offer.ask.sdp ≤ most_sections
  pub heard : OfferRead offer.ask
  pub sections_are : (section : ℕ) → section < most_sections → MadeFor offer section (slice_index_or last.sections section no_made)

-- an offer is kept exactly where there is one
abbrev pub OfferKept : Option MadeOffer → Option LastOffer → Type 0
OfferKept None None = Unit {0}
OfferKept None (Some last) = ⊥
OfferKept (Some offer) None = ⊥
OfferKept (Some offer) (Some last) = LastFor offer last
