-- Why an offer or an answer is refused, and which crypto lines are chosen in its description.
use Rattle.std.specs.Prelude.{◌≡◌, ℕ, ◌<◌, List, length, Bool, false, true, not, ◌&&◌, ◌==◌, nat_lt, Option, Some, None, is_none, if◌then◌else◌}
use Rattle.std.specs.List.{list_any}
use Rattle.std.specs.Str.{bytes_eq}
use Rattle.sdes_lines.specs.declared.crypto_line.CryptoLine.{CryptoLine}
use Rattle.sdp_text.specs.Lines.{lines_of}
use Rattle.sdp_edit.specs.ChosenLines.{section_lines, IsFirstOf}
use Rattle.ng_reply.specs.declared.code.ErrorCode.{ErrorCode}
use Rattle.ng_reply.specs.declared.code.ErrorCode.TheVariants.{E8, E10, E11, E12, E20}
use Rattle.offer_answer.specs.Rounds.{Round, OfferAsk, AnswerAsk}
use Rattle.port_pool.specs.Signals.{other_side}
use Rattle.offer_answer.specs.Sides.{MadeOffer, is_begun, is_settled, is_some_sides, offerer, maker}
use Rattle.offer_answer.specs.Sections.{section_count, section_in, all_sections, active_sections, is_active_in, committed_count}
use Rattle.offer_answer.specs.Profiles.{is_srtp, written_profile}
use Rattle.offer_answer.specs.Keys.{chosen_in}
use Rattle.offer_answer.specs.Families.{leg_family, misfits}

-- for each section of the description its first crypto line that is one of P
pub record AreFirst (P : ℕ → CryptoLine → Type 0) (sdp : List ℕ) (chosen : List (Option CryptoLine)) : Type 0 where
  pub count : length chosen ≡ section_count sdp
  pub first : (section : ℕ) → section < section_count sdp → IsFirstOf (P section) (section_lines section (lines_of sdp)) (chosen_in chosen section)

-- The offer.

-- the from-tag of an offer for a live call is no side's
abbrev pub is_strangers : List Round → OfferAsk → Bool
is_strangers rounds ask = is_begun rounds && not (is_some_sides rounds ask.from_tag)

-- SRTP without a usable crypto line
abbrev pub lacks_line : OfferAsk → ℕ → Bool
lacks_line ask section = is_srtp (section_in ask.sdp section).proto && is_none (chosen_in ask.chosen section)

-- an address of the section doesn't fit the offerer's leg
abbrev pub misfits_offerer : List Round → OfferAsk → ℕ → Bool
misfits_offerer rounds ask section = misfits (leg_family rounds section (offerer rounds ask)) ask.options (section_in ask.sdp section)

-- the first that holds
abbrev pub fault_of_offer : List Round → OfferAsk → Option ErrorCode
fault_of_offer rounds ask =
    if is_strangers rounds ask then Some E10
    else if nat_lt (section_count ask.sdp) (committed_count rounds) then Some E12
    else if list_any (misfits_offerer rounds ask) (active_sections ask.sdp) then Some E20
    else if list_any (lacks_line ask) (active_sections ask.sdp) then Some E8
    else None

-- The answer.

-- The to-tag may answer the from-tag: any other tag until an offer follows the first answer, and then the other side's alone.
abbrev pub may_answer : List Round → AnswerAsk → Bool
may_answer rounds ask =
    if bytes_eq ask.to_tag ask.from_tag then false
    else if is_settled rounds then is_some_sides rounds ask.to_tag
    else true

-- a section that the answer uses was offered with SRTP, and none of the lines that were offered is taken up
abbrev pub takes_no_line : MadeOffer → AnswerAsk → ℕ → Bool
takes_no_line offer ask section =
    is_active_in offer.ask.sdp section && is_active_in ask.sdp section
    && is_srtp (written_profile offer.before offer.ask section) && is_none (chosen_in ask.chosen section)

-- an address of the section doesn't fit the leg of the side that answers
abbrev pub misfits_answerer : List Round → MadeOffer → AnswerAsk → ℕ → Bool
misfits_answerer rounds offer ask section =
    misfits (leg_family rounds section (other_side (maker offer))) ask.options (section_in ask.sdp section)

-- The first that holds of an answer to this offer, after these rounds. Families are asked of each section that is active in the answer,
-- also where it is rejected since it isn't active in the offer.
abbrev pub fault_of_answer_to : List Round → MadeOffer → AnswerAsk → Option ErrorCode
fault_of_answer_to rounds offer ask =
    if not (bytes_eq ask.from_tag offer.ask.from_tag) then Some E11
    else if not (section_count ask.sdp == section_count offer.ask.sdp) then Some E12
    else if list_any (misfits_answerer rounds offer ask) (active_sections ask.sdp) then Some E20
    else if list_any (takes_no_line offer ask) (all_sections ask.sdp) then Some E8
    else None
