-- What the turn of a datagram does: which entry it makes, what it owes and sends, and what the board keeps after it.
use Rattle.std.specs.Prelude.{ℕ, List, ◌∷◌, Option, Some, None}
use Rattle.relay_outside.specs.declared.ports.PortCall.{PortCall}
use Rattle.relay_outside.specs.declared.settings.Config.{Config}
use Rattle.turn_table.specs.declared.hands.Hand.{Hand}
use Rattle.ng_reply.specs.declared.code.ErrorCode.TheVariants.{E17}
use Rattle.cookie_cache.specs.Keepings.{moment_used}
use Rattle.ng_bencode.specs.Room.{Room}
use Rattle.control_messages.specs.Bodies.{pairs_if}
use Rattle.call_board.specs.declared.board.Board.{Board}
use Rattle.call_board.specs.Boards.{BoardFor}
use Rattle.call_board.specs.Fits.{FitsBoard}
use Rattle.call_board.specs.Pairs.{held}
use Rattle.call_board.specs.Replies.{fault_datagram}
use Rattle.call_board.specs.Views.{View, with_keeping}
use Rattle.relay_core.specs.Entries.{board_history}
use Rattle.relay_core.specs.Records.{Made}
use Rattle.relay_core.specs.Scripts.{script}
use Rattle.relay_core.specs.Turns.{GainsNested, made_by}
use Rattle.relay_core.specs.declared.part.Part.{Part}
use Rattle.media_ports.specs.OpenPorts.{LogsHeld}
use Rattle.board_turns.specs.declared.board_turn.BoardEntryId.{BoardEntryId}
use Rattle.board_turns.specs.CallEnds.{leg_pairs}
use Rattle.control_messages.specs.declared.request.Request.{Request}
use Rattle.ng_server.specs.declared.turn_record.TurnRecord.{TurnRecord}
use Rattle.board_turns.specs.Controls.{RequestRecord, entry_at}
use Rattle.board_turns.specs.Commands.{record_as}

-- What is recorded.

abbrev pub record_of : Request → TurnRecord → RequestRecord
record_of request turn_record = record_as request (pairs_if turn_record.dictionary) turn_record.chosen_lines turn_record.device_answers

-- What is done.

module _ {M I O T : Type 0} {g : _} where
  -- A datagram was dealt with in the board's turn: the entry is one that the history demands, the nested entries that it owes are
  -- made, the board stands for the history with it, and just the ports of the pairs that are held then are open
  pub record AnswersRequest (config : Config) (old new : Hand M (Part I O) Made T g) (entry_id : BoardEntryId) (x : RequestRecord) (board : Board) (log : Option (List PortCall)) : Type 0 where
    pub fits : FitsBoard config (board_history (made_by old) entry_id.number) (entry_at config (board_history (made_by old) entry_id.number) entry_id.moment x)
    pub gained : GainsNested entry_id.number entry_id.moment
        (script config (board_history (made_by old) entry_id.number) (entry_at config (board_history (made_by old) entry_id.number) entry_id.moment x)) old new
    pub stands : BoardFor config board
        (entry_at config (board_history (made_by old) entry_id.number) entry_id.moment x ∷ board_history (made_by old) entry_id.number)
    pub opens : LogsHeld config log
        (leg_pairs (held (entry_at config (board_history (made_by old) entry_id.number) entry_id.moment x ∷ board_history (made_by old) entry_id.number)))

-- The reply that is sent, and kept.

-- the datagram that is sent: the reply that was made, or that memory ran out
abbrev pub datagram_to_send : (cookie body : List ℕ) → Option (Room ℕ) → List ℕ
datagram_to_send cookie body None = fault_datagram cookie body E17
datagram_to_send cookie body (Some text) = text.list

-- what the board keeps with the reply, where there is one
abbrev pub with_kept : Request → ℕ → Option (Room ℕ) → View → View
with_kept request moment None v = v
with_kept request moment (Some text) v =
    with_keeping v (record { source = request.source; cookie = request.cookie.now; reply = text.list; moment = moment_used v.keepings moment })
