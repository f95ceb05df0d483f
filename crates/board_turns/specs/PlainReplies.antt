-- A command that changes nothing, as it is carried out.
use Rattle.std.specs.Prelude.{◌≡◌, ℕ, ◌++◌, ◌∷◌, Bool, false, nat_lt, length, List, Option, Some, None, Ok, if◌then◌else◌}
use Rattle.relay_outside.specs.declared.settings.Config.{Config}
use Rattle.ng_bencode.specs.Room.{Room}
use Rattle.ng_frame.specs.Frame.{frame}
use Rattle.ng_reply.specs.declared.code.ErrorCode.{ErrorCode}
use Rattle.sdes_lines.specs.declared.crypto_line.CryptoLine.{CryptoLine}
use Rattle.cookie_cache.specs.Keepings.{IsCookie}
use Rattle.ng_bencode.specs.Tree.{Entries}
use Rattle.ng_command.specs.Meanings.{Said}
use Rattle.call_board.specs.Acts.{BoardEntry}
use Rattle.call_board.specs.Requests.{ReadsBody, command_in}
use Rattle.call_board.specs.KeptReplies.{kept_reply}
use Rattle.call_board.specs.Replies.{Reply, Fault, Warned, reply_datagram}
use Rattle.control_messages.specs.declared.description.DescriptionFault.{DescriptionFault}
use Rattle.control_messages.specs.declared.description.DescriptionFault.TheVariants as faults
use Rattle.control_messages.specs.declared.request.Request.{Request}
use Rattle.board_turns.specs.declared.device_answers.DeviceAnswers.TheVariants.{Nothing, OutOfMemory}
use Rattle.board_turns.specs.declared.command_outcome.CommandOutcome.{CommandOutcome}

-- The datagram has a frame, and no reply is kept for it at this moment
pub record IsAnew (h : List BoardEntry) (moment : ℕ) (request : Request) : Type 0 where
  pub cookie : IsCookie request.cookie.now
  pub framed : frame (request.cookie.now ++ 32 ∷ request.body.now) ≡ Some (request.cookie.now, request.body.now)
  pub length_is : request.too_long ≡ nat_lt 16384 (length (request.cookie.now ++ 32 ∷ request.body.now))
  pub not_kept : kept_reply h request.source request.cookie.now moment ≡ None

-- the datagram asks this, by its dictionary
pub record IsAsking (request : Request) (pairs : Option Entries) (says : Said) : Type 0 where
  pub short : request.too_long ≡ false
  pub reads : ReadsBody request.body.now pairs
  pub command : command_in false pairs ≡ Ok says

-- memory ran out
pub record RanOutOfMemory (done : CommandOutcome) : Type 0 where
  pub answers_are : done.device_answers ≡ OutOfMemory
  pub without : done.reply ≡ None

-- no device was called, and these bytes are the reply; or memory ran out
abbrev pub TellsBy : List (Option CryptoLine) → List ℕ → CommandOutcome → Option (Room ℕ) → Type 0
TellsBy chosen bytes done None = done.device_answers ≡ OutOfMemory
TellsBy chosen bytes done (Some text) = (done.chosen_lines ≡ chosen) × (done.device_answers ≡ Nothing) × (text.list ≡ bytes)

abbrev pub Tells : List (Option CryptoLine) → List ℕ → CommandOutcome → Type 0
Tells chosen bytes done = TellsBy chosen bytes done done.reply

-- the reply of a delete that finds nothing to end
abbrev pub missing_reply : Bool → ErrorCode → Reply
missing_reply fatal code = if fatal then Fault code else Warned code

-- the error of a description that is refused; without one memory ran out
abbrev pub error_in : DescriptionFault → Option ErrorCode
error_in (faults.Error code) = Some code
error_in faults.OutOfMemory = None

-- this error is told, and these crypto lines were chosen; without one memory ran out
abbrev pub RefusesRequest : (cookie body : List ℕ) → List (Option CryptoLine) → Option ErrorCode → CommandOutcome → Type 0
RefusesRequest cookie body chosen None done = RanOutOfMemory done
RefusesRequest cookie body chosen (Some code) done = (config : Config) → Tells chosen (reply_datagram config cookie body (Fault code)) done
