-- The plan of offers and answers, as functions of the rounds of a call (RFC 3264, RFC 4568).
use Rattle.std.specs.Prelude.{ℕ, List, [], Bool, not, ◌&&◌, Option, Some, None, if◌then◌else◌}
use Rattle.relay_outside.specs.declared.settings.Config.{Config}
use Rattle.sdp_text.specs.Lines.{lines_of}
use Rattle.sdp_text.specs.declared.proto.Proto.{Proto}
use Rattle.sdp_edit.specs.ChosenLines.{IsAny, IsOffered}
use Rattle.sdp_edit.specs.EditedText.{edited}
use Rattle.ng_reply.specs.declared.code.ErrorCode.{ErrorCode}
use Rattle.ng_reply.specs.declared.code.ErrorCode.TheVariants.{E10}
use Rattle.port_pool.specs.declared.signal.SectionSignal.{SectionSignal}
use Rattle.port_pool.specs.declared.holder.Side.{Side}
use Rattle.port_pool.specs.Signals.{NewKey}
use Rattle.offer_answer.specs.Rounds.{Round, OfferAsk, AnswerAsk, Demand}
use Rattle.offer_answer.specs.Sides.{side_tag, is_some_sides, last_offer}
use Rattle.offer_answer.specs.Profiles.{profile_in_force}
use Rattle.offer_answer.specs.Keys.{last_lines}
use Rattle.offer_answer.specs.Demands.{new_legs, new_keys, dropped_sections}
use Rattle.offer_answer.specs.Signals.{answer_signal}
use Rattle.offer_answer.specs.Texts.{offer_edit, answer_edit}
use Rattle.offer_answer.specs.Faults.{AreFirst, fault_of_offer, may_answer, fault_of_answer_to}

-- the chosen lines of an offer are the first usable ones of its sections
unfoldable pub OfferRead : OfferAsk → Type 0
OfferRead ask = AreFirst (λ section. IsAny) ask.sdp ask.chosen

-- the chosen lines of an answer are the first ones whose tag and suite are those of a line that its side was offered
unfoldable pub AnswerRead : List Round → AnswerAsk → Type 0
AnswerRead rounds ask = AreFirst (λ section. IsOffered (last_lines rounds section)) ask.sdp ask.chosen

-- the first fault of an offer: E10, E12, E20 or E8
unfoldable pub offer_fault : List Round → OfferAsk → Option ErrorCode
offer_fault rounds ask = fault_of_offer rounds ask

unfoldable pub demand : List Round → OfferAsk → Demand
demand rounds ask = record { pairs = new_legs rounds ask; keys = new_keys rounds ask; dropped = dropped_sections rounds ask }

-- the first fault of an answer: E10, E11, E12, E20 or E8
unfoldable pub answer_fault : List Round → AnswerAsk → Option ErrorCode
answer_fault rounds ask =
    if not (is_some_sides rounds ask.from_tag && may_answer rounds ask) then Some E10
    else elim (last_offer rounds) [ None ↦ Some E10 | Some offer ↦ fault_of_answer_to rounds offer ask ]

-- what the commit of an answer says, one for each section
unfoldable pub signal : List Round → AnswerAsk → List SectionSignal
signal rounds ask = elim (last_offer rounds) [ None ↦ [] | Some offer ↦ answer_signal rounds offer ask ]

-- the description that the other side gets: the new legs have these RTP ports, in the order of leases, and these are the new keys
unfoldable pub offer_text : Config → List Round → OfferAsk → List ℕ → List NewKey → List ℕ
offer_text config rounds ask ports keys = edited (lines_of ask.sdp) (offer_edit config rounds ask ports keys)

-- the description that the offerer gets
unfoldable pub answer_text : Config → List Round → AnswerAsk → List ℕ
answer_text config rounds ask =
    elim (last_offer rounds) [ None ↦ [] | Some offer ↦ edited (lines_of ask.sdp) (answer_edit config rounds offer ask) ]

-- the tag of a side, where it has one
unfoldable pub tag : List Round → Side → Option (List ℕ)
tag rounds side = side_tag rounds side

-- the tag is a side's
unfoldable pub is_side : List Round → List ℕ → Bool
is_side rounds tag = is_some_sides rounds tag

-- the profile in force on the section's leg of a side; none where the section isn't committed
unfoldable pub protocol : List Round → ℕ → Side → Option Proto
protocol rounds section side = profile_in_force rounds section side
