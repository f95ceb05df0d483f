-- What an answer commits of a section, by what the dialog keeps of it, and what the dialog becomes by the answer.
use Rattle.std.specs.Prelude.{◌≡◌, ◌<◌, ℕ, List, ◌∷◌, Option, Some, None, IsSome, if◌then◌else◌, slice_index_or}
use Rattle.relay_outside.specs.declared.settings.Config.{Config}
use Rattle.sdes_lines.specs.declared.crypto_line.CryptoLine.{CryptoLine}
use Rattle.sdp_text.specs.Lines.{lines_of}
use Rattle.ng_command.specs.declared.command.AnswerIn.{AnswerIn}
use Rattle.port_pool.specs.declared.holder.Side.{Side}
use Rattle.port_pool.specs.Signals.{side_eq}
use Rattle.offer_answer.specs.Rounds.{Round, Answered, AnswerAsk}
use Rattle.offer_answer.specs.Sides.{MadeOffer, last_offer, offered_sdp}
use Rattle.offer_answer.specs.Sections.{most_sections, section_count, section_in}
use Rattle.offer_answer.specs.Profiles.{is_srtp_leg}
use Rattle.offer_answer.specs.Keys.{chosen_in}
use Rattle.offer_answer.specs.Plan.{AnswerRead}
use Rattle.offer_answer.specs.Dialogs.{SectionFor, key_for, leg_at, no_state}
use Rattle.offer_answer.specs.LastOffers.{MadeFor, LastFor}
use Rattle.offer_answer.specs.declared.leg.DrawnKey.{DrawnKey}
use Rattle.offer_answer.specs.declared.leg.Leg.{Leg}
use Rattle.offer_answer.specs.declared.last_offer.LastOffer.{LastOffer}
use Rattle.offer_answer.specs.declared.answered_section.AnsweredSection.{AnsweredSection}
use Rattle.offer_answer.specs.declared.next_answer.AnsweredNext.{AnsweredNext}

-- the offer is the last one of these rounds, and this is kept of it
pub record IsLast (rounds : List Round) (offer : MadeOffer) (last : LastOffer) : Type 0 where
  pub offer_is : last_offer rounds ≡ Some offer
  pub kept : LastFor offer last

-- the answer's description has these lines, and its crypto lines are the chosen ones
pub record ReadsAnswer (lines : List (List ℕ)) (rounds : List Round) (ask : AnswerAsk) : Type 0 where
  pub lines_are : lines_of ask.sdp ≡ lines
  pub heard : AnswerRead rounds ask

-- this is asked by the command, whose description has these lines, after these rounds
pub record AsksAnswer (input : AnswerIn) (lines : List (List ℕ)) (rounds : List Round) (ask : AnswerAsk) : Type 0 where
  pub from_tag_is : ask.from_tag ≡ input.from_tag.list
  pub to_tag_is : ask.to_tag ≡ input.to_tag.list
  pub options_are : ask.options ≡ input.options
  pub hears : ReadsAnswer lines rounds ask

-- a section of an answer to this offer, with what the dialog keeps of it
pub record AnsweredAt (config : Config) (rounds : List Round) (offer : MadeOffer) (ask : AnswerAsk) (section : ℕ) (answered : AnsweredSection) : Type 0 where
  pub section_is : answered.section ≡ section_in ask.sdp section
  pub line_is : answered.line ≡ chosen_in ask.chosen section
  pub made_is : MadeFor offer section answered.made
  pub kept_is : SectionFor config rounds section answered.kept

-- the crypto line by which the answer commits a side's leg, where this side made the offer
abbrev pub line_committed : AnsweredSection → Side → Side → Option CryptoLine
line_committed answered maker side =
    if is_srtp_leg (leg_at answered.kept side).offered then (if side_eq side maker then answered.made.line else answered.line) else None

-- the leg's key for the suite of the line
abbrev pub key_for_line : Leg → Option CryptoLine → Option DrawnKey
key_for_line leg None = None
key_for_line leg (Some line) = key_for leg line.suite

-- what the dialog becomes by the answer, which is one to an offer
pub record AnsweredFor (config : Config) (rounds : List Round) (ask : AnswerAsk) (next : AnsweredNext) : Type 0 where
  pub to_offer : IsSome (last_offer rounds)
  pub to_tag_is : next.to_tag.list ≡ ask.to_tag
  pub count_is : next.count ≡ section_count (offered_sdp rounds)
  pub sections_are : (section : ℕ) → section < most_sections → SectionFor config (Answered ask ∷ rounds) section (slice_index_or next.sections section no_state)
