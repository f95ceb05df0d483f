-- A delete that ends its call, at once or after a delay.
use Rattle.std.proofs.Common.{◌≡◌, ◌∙◌, refl, ap, sym, subst, ℕ, Bool, true, false, cond, List, [], Option, Some, None}
use Rattle.std.specs.Prelude.{◌==◌}
use Rattle.histories.proofs.Lists.{equal, equal_if}
use Rattle.relay_outside.specs.declared.ports.PortCall.{PortCall}
use Rattle.relay_outside.specs.declared.settings.Config.{Config}
use Rattle.turn_table.specs.declared.hands.Hand.{Hand}
use Rattle.ng_bencode.specs.Room.{Room}
use Rattle.ng_bencode.specs.Tree.{Entries}
use Rattle.ng_command.specs.Meanings.{Delete}
use Rattle.sdes_lines.specs.declared.crypto_line.CryptoLine.{CryptoLine}
use Rattle.call_board.specs.declared.board.Board.{Board}
use Rattle.call_board.specs.Acts as act
use Rattle.call_board.specs.Acts.{Act, Call, Given, BoardEntry}
use Rattle.call_board.specs.Answers.{Answered, names_side, deleting}
use Rattle.call_board.specs.KeptReplies.{is_kept}
use Rattle.call_board.specs.Fits.{GivesFor, GivesNothing, is_request_read, demanded}
use Rattle.offer_answer.specs.Rounds.{Demand}
use Rattle.call_board.specs.Calls.{find_call, rounds}
use Rattle.call_board.specs.Replies as reply
use Rattle.call_board.specs.Replies.{reply_datagram}
use Rattle.call_board.proofs.Done.{with_reply, due_fits, deleted_due}
use Rattle.relay_core.specs.declared.part.Part.{Part}
use Rattle.relay_core.specs.Entries.{board_history}
use Rattle.relay_core.specs.Records.{Made}
use Rattle.relay_core.specs.Turns.{made_by}
use Rattle.board_turns.specs.declared.board_turn.BoardEntryId.{BoardEntryId}
use Rattle.board_turns.specs.Acts.{DoesAct}
use Rattle.control_messages.specs.declared.request.Request.{Request}
use Rattle.board_turns.specs.declared.device_answers.DeviceAnswers.TheVariants.{Nothing}
use Rattle.board_turns.specs.Controls.{entry_with}
use Rattle.board_turns.specs.Commands.{record_as, ExecutesCommand}
use Rattle.board_turns.specs.PlainReplies.{IsAnew, IsAsking}
use Rattle.board_turns.proofs.Plain.{carries_due}
use Rattle.delete_command.proofs.Missed.{asking_with, asks_delete}

-- what is due to it
abbrev deleting_due : Config → Request → Option Entries → Call → (seconds : ℕ) → Answered
deleting_due config request pairs of seconds = with_reply config (asking_with request pairs) reply.Done (deleting of seconds)

-- its entry
abbrev pub deleting_entry : Config → ℕ → Request → Option Entries → Call → (seconds : ℕ) → BoardEntry
deleting_entry config moment request pairs of seconds = entry_with moment (record_as request pairs [] Nothing) (deleting_due config request pairs of seconds)

-- the act of its entry: it ends the call where there is no delay, and has it end later where there is one
pub ends_at_once : (config : Config) (moment : ℕ) (request : Request) (pairs : Option Entries) (of : Call) (seconds : ℕ) → seconds ≡ 0 →
    act.act (deleting_entry config moment request pairs of seconds) ≡ act.Deleted of
ends_at_once config moment request pairs of seconds none = ap (λ (b : Bool). cond b (act.Deleted of) (act.Delayed of seconds)) (equal seconds 0 none)

unequal : (n : ℕ) (b : Bool) → (n == 0) ≡ b → (n ≡ 0 → ⊥) → (n == 0) ≡ false
unequal n true is not = absurd (not (equal_if n 0 is))
unequal n false is not = is

pub ends_later : (config : Config) (moment : ℕ) (request : Request) (pairs : Option Entries) (of : Call) (seconds : ℕ) → (seconds ≡ 0 → ⊥) →
    act.act (deleting_entry config moment request pairs of seconds) ≡ act.Delayed of seconds
ends_later config moment request pairs of seconds some =
    ap (λ (b : Bool). cond b (act.Deleted of) (act.Delayed of seconds)) (unequal seconds (seconds == 0) refl some)

-- an act that ends a call: its reply is kept, no line is chosen for it, and it opens and draws nothing
record EndsCall (a : Act) : Type 0 where
  kept : is_kept a ≡ true
  unread : is_request_read a ≡ false
  gives : (d : Demand) (given : Given) → GivesNothing given × (given.report ≡ None) → GivesFor d given a

ends_call : (of : Call) (seconds : ℕ) (at_once : Bool) → EndsCall (cond at_once (act.Deleted of) (act.Delayed of seconds))
ends_call of seconds true = record { kept = refl; unread = refl; gives = λ d given nothing. nothing }
ends_call of seconds false = record { kept = refl; unread = refl; gives = λ d given nothing. nothing }

module _ {M I O T : Type 0} {g : _} where
  -- its turn did what is due
  pub deleted_carries : (config : Config) (old new : Hand M (Part I O) Made T g) (entry_id : BoardEntryId) (request : Request) (pairs : Option Entries) (chosen : List (Option CryptoLine))
      (id : List ℕ) (tag : Option (List ℕ)) (fatal : Bool) (seconds : ℕ) (of : Call) (text : Room ℕ) (board : Board) (log : Option (List PortCall))
      → IsAnew (board_history (made_by old) entry_id.number) entry_id.moment request → IsAsking request pairs (Delete id tag fatal seconds)
      → find_call (board_history (made_by old) entry_id.number) id ≡ Some of → names_side (rounds (board_history (made_by old) entry_id.number) of.number) tag ≡ true
      → DoesAct config old new entry_id (deleting_entry config entry_id.moment request pairs of seconds) board log
      → text.list ≡ reply_datagram config request.cookie.now request.body.now reply.Done → chosen ≡ []
      → ExecutesCommand config old new entry_id (record_as request pairs chosen Nothing) (Some text) board log
  deleted_carries config old new entry_id request pairs chosen id tag fatal seconds of text board log anew asking found names does bytes none =
      let h = board_history (made_by old) entry_id.number in
      let c = asking_with request pairs in
      let due = deleting_due config request pairs of seconds in
      let ends = ends_call of seconds (seconds == 0) in
      let is = deleted_due config h entry_id.moment c id tag fatal seconds of (asks_delete config h entry_id.moment request pairs id tag fatal seconds anew asking) found names in
      subst (λ (lines : List (Option CryptoLine)). ExecutesCommand config old new entry_id (record_as request pairs lines Nothing) (Some text) board log) (sym none)
      (carries_due config old new entry_id (record_as request pairs [] Nothing) due (Some text) board log is
      (due_fits config h entry_id.moment c due is anew.framed anew.length_is (λ read. asking.reads)
      (λ heard. absurd (let wrong : false ≡ true = sym ends.unread ∙ heard in cc))
      (ends.gives (demanded config h c) c.given (record { no_opens = refl; no_draws = refl; none_failed = refl }, refl)) (λ out_of_memory none. refl))
      does (ends.kept, bytes))
