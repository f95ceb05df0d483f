-- What the command of an offer asks, and how it is carried out.
use Rattle.std.specs.Prelude.{◌≡◌, ℕ, List, Option, Some, None}
use Rattle.relay_outside.specs.declared.settings.Config.{Config}
use Rattle.ng_bencode.specs.Room.{Room}
use Rattle.ng_bencode.specs.Tree.{Entries}
use Rattle.ng_command.specs.declared.command.OfferIn.{OfferIn}
use Rattle.ng_command.specs.Meanings.{Said, Offer}
use Rattle.ng_reply.specs.declared.code.ErrorCode.{ErrorCode}
use Rattle.ng_reply.specs.declared.code.ErrorCode.TheVariants.{E15, E16}
use Rattle.sdes_lines.specs.declared.crypto_line.CryptoLine.{CryptoLine}
use Rattle.offer_answer.specs.Rounds.{OfferAsk}
use Rattle.call_board.specs.Acts.{BoardEntry}
use Rattle.call_board.specs.Answers.{offer_ask}
use Rattle.call_board.specs.Requests.{sdp_error_for}
use Rattle.call_board.specs.Replies.{Reply, reply_datagram}
use Rattle.offer_command.specs.declared.lease.LeaseFault.{LeaseFault}
use Rattle.offer_command.specs.declared.lease.LeaseFault.TheVariants.{Port, Key}
use Rattle.board_turns.specs.declared.command_outcome.CommandOutcome.{CommandOutcome}
use Rattle.board_turns.specs.declared.device_answers.DeviceAnswers.{DeviceAnswers}
use Rattle.board_turns.specs.declared.device_answers.DeviceAnswers.TheVariants.{PortFault, KeyFault}
use Rattle.control_messages.specs.declared.request.Request.{Request}
use Rattle.board_turns.specs.PlainReplies.{IsAnew, IsAsking}

-- what the command says
abbrev pub offer_says : OfferIn → Said
offer_says input = Offer input.call_id.list input.from_tag.list input.sdp.list input.options

-- what the offer asks, in whose description these crypto lines were chosen
abbrev pub ask_of_offer : OfferIn → List (Option CryptoLine) → OfferAsk
ask_of_offer input chosen = offer_ask input.from_tag.list input.sdp.list input.options chosen

-- no reply is kept for the datagram, by its dictionary it asks for this offer, and neither the family of that nor its description has an error
pub record AsksForOffer (config : Config) (h : List BoardEntry) (moment : ℕ) (request : Request) (pairs : Option Entries) (input : OfferIn) : Type 0 where
  pub anew : IsAnew h moment request
  pub asking : IsAsking request pairs (offer_says input)
  pub fine : sdp_error_for config input.options.family input.sdp.list ≡ None

-- How it is carried out.

-- the reply that is made is these bytes
abbrev pub IsReplyMade : List ℕ → Option (Room ℕ) → Type 0
IsReplyMade bytes None = ⊥
IsReplyMade bytes (Some text) = text.list ≡ bytes

-- where these crypto lines were chosen, the devices returned this, and the reply is made
pub record GivesOutcome (cookie body : List ℕ) (chosen : List (Option CryptoLine)) (device_answers : DeviceAnswers) (reply : Reply) (done : CommandOutcome) : Type 0 where
  pub chosen_are : done.chosen_lines ≡ chosen
  pub answers_are : done.device_answers ≡ device_answers
  pub replies : (config : Config) → IsReplyMade (reply_datagram config cookie body reply) done.reply

-- the error of an offer that is undone
abbrev pub undone_code : LeaseFault → ErrorCode
undone_code (Port opened) = E15
undone_code (Key drawn) = E16

-- what the devices returned for one that opens `ports` ports
abbrev pub undone_answers : (ports : ℕ) → LeaseFault → DeviceAnswers
undone_answers ports (Port opened) = PortFault opened
undone_answers ports (Key drawn) = KeyFault ports drawn
