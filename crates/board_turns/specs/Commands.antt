-- What the turn of a command does, for which no reply is kept.
use Rattle.std.specs.Prelude.{◌≡◌, ℕ, true, List, Option, Some, None}
use Rattle.relay_outside.specs.declared.ports.PortCall.{PortCall}
use Rattle.relay_outside.specs.declared.settings.Config.{Config}
use Rattle.turn_table.specs.declared.hands.Hand.{Hand}
use Rattle.ng_bencode.specs.Room.{Room}
use Rattle.ng_bencode.specs.Tree.{Entries}
use Rattle.sdes_lines.specs.declared.crypto_line.CryptoLine.{CryptoLine}
use Rattle.ng_reply.specs.declared.code.ErrorCode.TheVariants.{E17}
use Rattle.call_board.specs.declared.board.Board.{Board}
use Rattle.call_board.specs.Acts.{Control, OutOfMemory}
use Rattle.call_board.specs.Fits.{FitsBoard}
use Rattle.call_board.specs.KeptReplies.{is_kept}
use Rattle.call_board.specs.Replies.{fault_datagram}
use Rattle.relay_core.specs.Entries.{board_history}
use Rattle.relay_core.specs.Records.{Made}
use Rattle.relay_core.specs.Turns.{made_by}
use Rattle.relay_core.specs.declared.part.Part.{Part}
use Rattle.board_turns.specs.declared.board_turn.BoardEntryId.{BoardEntryId}
use Rattle.board_turns.specs.Acts.{DoesAct}
use Rattle.control_messages.specs.declared.request.Request.{Request}
use Rattle.board_turns.specs.declared.device_answers.DeviceAnswers.{DeviceAnswers}
use Rattle.board_turns.specs.declared.command_outcome.CommandOutcome.{CommandOutcome}
use Rattle.board_turns.specs.Controls.{RequestRecord, control_of, entry_at}
use Rattle.board_turns.specs.DeviceAnswers.{given_by}

-- what is recorded of a datagram with this dictionary, in whose description these crypto lines were chosen, and for which the devices
-- returned this
abbrev pub record_as : Request → Option Entries → List (Option CryptoLine) → DeviceAnswers → RequestRecord
record_as request pairs chosen device_answers = record {
  source = request.source;
  cookie = request.cookie.now;
  body = request.body.now;
  too_long = request.too_long;
  pairs = pairs;
  chosen = chosen;
  given = given_by device_answers;
}

-- what is recorded of a datagram with this dictionary, whose command had this outcome
abbrev pub record_by : Request → Option Entries → CommandOutcome → RequestRecord
record_by request pairs done = record_as request pairs done.chosen_lines done.device_answers

-- the reply is made, and is to be kept; without one memory ran out, and the reply says that
abbrev pub IsReplyOf : Control → Option (Room ℕ) → Type 0
IsReplyOf c None = (c.act ≡ OutOfMemory) × (c.reply ≡ fault_datagram c.cookie c.body E17)
IsReplyOf c (Some text) = (is_kept c.act ≡ true) × (text.list ≡ c.reply)

module _ {M I O T : Type 0} {g : _} where
  -- A command was carried out in the board's turn, for which no reply is kept: the entry is one that the history demands, its act
  -- is done, and its reply is made
  pub record ExecutesCommand (config : Config) (old new : Hand M (Part I O) Made T g) (entry_id : BoardEntryId) (x : RequestRecord) (reply : Option (Room ℕ)) (board : Board) (log : Option (List PortCall)) : Type 0 where
    pub fits : FitsBoard config (board_history (made_by old) entry_id.number) (entry_at config (board_history (made_by old) entry_id.number) entry_id.moment x)
    pub does : DoesAct config old new entry_id (entry_at config (board_history (made_by old) entry_id.number) entry_id.moment x) board log
    pub replies : IsReplyOf (control_of config (board_history (made_by old) entry_id.number) entry_id.moment x) reply
