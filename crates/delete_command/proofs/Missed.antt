-- A delete that finds nothing to end.
use Rattle.std.proofs.Common.{◌≡◌, refl, ap, ◌∙◌, ℕ, Bool, true, false, List, [], Option, Some, None, Ok}
use Rattle.relay_outside.specs.declared.ports.PortCall.{PortCall}
use Rattle.relay_outside.specs.declared.settings.Config.{Config}
use Rattle.turn_table.specs.declared.hands.Turns.{Turns}
use Rattle.turn_table.specs.declared.hands.Hand.{Hand}
use Rattle.ng_bencode.specs.Tree.{Entries}
use Rattle.ng_command.specs.Meanings.{Delete}
use Rattle.ng_reply.specs.declared.code.ErrorCode.{ErrorCode}
use Rattle.ng_reply.specs.declared.code.ErrorCode.TheVariants.{E9, E10}
use Rattle.call_board.specs.declared.board.Board.{Board}
use Rattle.call_board.specs.Acts as act
use Rattle.call_board.specs.Acts.{Call, Control, BoardEntry}
use Rattle.call_board.specs.Answers.{Answered, names_side}
use Rattle.call_board.specs.Requests.{ReadsBody, asked}
use Rattle.call_board.specs.Calls.{find_call, rounds}
use Rattle.call_board.specs.Fits.{is_found_late}
use Rattle.call_board.specs.Replies.{Fault, Warned, reply_datagram}
use Rattle.call_board.proofs.Done.{IsDue, Asks, with_reply, delete_unknown_due, delete_unknown_warned, delete_stranger_due, delete_stranger_warned}
use Rattle.relay_core.specs.declared.part.Part.{Part}
use Rattle.relay_core.specs.Entries.{board_history}
use Rattle.relay_core.specs.Records.{Made}
use Rattle.relay_core.specs.Turns.{made_by}
use Rattle.board_turns.specs.declared.board_turn.BoardEntryId.{BoardEntryId}
use Rattle.board_turns.specs.Acts.{InTurn}
use Rattle.control_messages.specs.declared.request.Request.{Request}
use Rattle.board_turns.specs.declared.device_answers.DeviceAnswers.TheVariants.{Nothing}
use Rattle.board_turns.specs.declared.command_outcome.CommandOutcome.{CommandOutcome}
use Rattle.board_turns.specs.Controls.{unanswered}
use Rattle.board_turns.specs.Commands.{record_as, record_by, ExecutesCommand}
use Rattle.board_turns.specs.PlainReplies.{IsAnew, IsAsking, Tells, missing_reply}
use Rattle.board_turns.proofs.Asking.{asks_so}
use Rattle.board_turns.proofs.Tellings.{tells_carries}

-- the datagram of a delete, before its reply
abbrev pub asking_with : Request → Option Entries → Control
asking_with request pairs = unanswered (record_as request pairs [] Nothing)

-- what it asks
pub asks_delete : (config : Config) (h : List BoardEntry) (moment : ℕ) (request : Request) (pairs : Option Entries) (id : List ℕ) (tag : Option (List ℕ)) (fatal : Bool) (seconds : ℕ)
    → IsAnew h moment request → IsAsking request pairs (Delete id tag fatal seconds) → Asks config h moment (asking_with request pairs) (Ok (Delete id tag fatal seconds))
asks_delete config h moment request pairs id tag fatal seconds anew asking = record {
  nothing_kept = anew.not_kept;
  not_out_of_memory = refl;
  is_asked = ap (λ (long : Bool). asked config long pairs) asking.short ∙ asks_so config false pairs (Delete id tag fatal seconds) asking.command refl;
}

-- what is due to a delete that finds nothing to end
abbrev missing_due : Config → Control → ErrorCode → Bool → Answered
missing_due config c code true = with_reply config c (Fault code) (act.Failed code)
missing_due config c code false = with_reply config c (Warned code) act.Told

unknown_due : (config : Config) (h : List BoardEntry) (now : ℕ) (c : Control) (id : List ℕ) (tag : Option (List ℕ)) (fatal : Bool) (seconds : ℕ)
    → Asks config h now c (Ok (Delete id tag fatal seconds)) → find_call h id ≡ None → IsDue config h now c (missing_due config c E9 fatal)
unknown_due config h now c id tag true seconds asks none = delete_unknown_due config h now c id tag true seconds asks none refl
unknown_due config h now c id tag false seconds asks none = delete_unknown_warned config h now c id tag false seconds asks none refl

stranger_due : (config : Config) (h : List BoardEntry) (now : ℕ) (c : Control) (id : List ℕ) (tag : Option (List ℕ)) (fatal : Bool) (seconds : ℕ) (of : Call)
    → Asks config h now c (Ok (Delete id tag fatal seconds)) → find_call h id ≡ Some of → names_side (rounds h of.number) tag ≡ false → IsDue config h now c (missing_due config c E10 fatal)
stranger_due config h now c id tag true seconds of asks found names = delete_stranger_due config h now c id tag true seconds of asks found names refl
stranger_due config h now c id tag false seconds of asks found names = delete_stranger_warned config h now c id tag false seconds of asks found names refl

module _ {M I O T : Type 0} {g : _} where
  missed : (config : Config) (turns : Turns M (Part I O) Made T) (hand : Hand M (Part I O) Made T g) (entry_id : BoardEntryId) (request : Request) (pairs : Option Entries)
      (code : ErrorCode) (fatal : Bool) (done : CommandOutcome) (board : Board) (log : Option (List PortCall))
      → InTurn config turns hand entry_id board log → IsAnew (board_history (made_by hand) entry_id.number) entry_id.moment request
      → (request.too_long ≡ false → ReadsBody request.body.now pairs) → is_found_late code ≡ false
      → IsDue config (board_history (made_by hand) entry_id.number) entry_id.moment (asking_with request pairs) (missing_due config (asking_with request pairs) code fatal)
      → Tells [] (reply_datagram config request.cookie.now request.body.now (missing_reply fatal code)) done
      → ExecutesCommand config hand hand entry_id (record_by request pairs done) done.reply board log
  missed config turns hand entry_id request pairs code true done board log turn anew reads early is tells =
      tells_carries config turns hand entry_id request pairs [] (missing_due config (asking_with request pairs) code true) done board log turn anew reads is refl refl
      (λ heard. absurd (let late : is_found_late code ≡ true = heard in cc)) tells
  missed config turns hand entry_id request pairs code false done board log turn anew reads early is tells =
      tells_carries config turns hand entry_id request pairs [] (missing_due config (asking_with request pairs) code false) done board log turn anew reads is refl refl
      (λ heard. absurd (let wrong : false ≡ true = heard in cc)) tells

  -- no live call has the call-id
  pub unknown_carries : (config : Config) (turns : Turns M (Part I O) Made T) (hand : Hand M (Part I O) Made T g) (entry_id : BoardEntryId) (request : Request) (pairs : Option Entries)
      (id : List ℕ) (tag : Option (List ℕ)) (fatal : Bool) (seconds : ℕ) (done : CommandOutcome) (board : Board) (log : Option (List PortCall))
      → InTurn config turns hand entry_id board log → IsAnew (board_history (made_by hand) entry_id.number) entry_id.moment request
      → IsAsking request pairs (Delete id tag fatal seconds) → find_call (board_history (made_by hand) entry_id.number) id ≡ None
      → Tells [] (reply_datagram config request.cookie.now request.body.now (missing_reply fatal E9)) done
      → ExecutesCommand config hand hand entry_id (record_by request pairs done) done.reply board log
  unknown_carries config turns hand entry_id request pairs id tag fatal seconds done board log turn anew asking none tells =
      let h = board_history (made_by hand) entry_id.number in
      missed config turns hand entry_id request pairs E9 fatal done board log turn anew (λ short. asking.reads) refl
      (unknown_due config h entry_id.moment (asking_with request pairs) id tag fatal seconds (asks_delete config h entry_id.moment request pairs id tag fatal seconds anew asking) none) tells

  -- the tag is of no side of the call
  pub stranger_carries : (config : Config) (turns : Turns M (Part I O) Made T) (hand : Hand M (Part I O) Made T g) (entry_id : BoardEntryId) (request : Request) (pairs : Option Entries)
      (id : List ℕ) (tag : Option (List ℕ)) (fatal : Bool) (seconds : ℕ) (of : Call) (done : CommandOutcome) (board : Board) (log : Option (List PortCall))
      → InTurn config turns hand entry_id board log → IsAnew (board_history (made_by hand) entry_id.number) entry_id.moment request
      → IsAsking request pairs (Delete id tag fatal seconds) → find_call (board_history (made_by hand) entry_id.number) id ≡ Some of
      → names_side (rounds (board_history (made_by hand) entry_id.number) of.number) tag ≡ false
      → Tells [] (reply_datagram config request.cookie.now request.body.now (missing_reply fatal E10)) done
      → ExecutesCommand config hand hand entry_id (record_by request pairs done) done.reply board log
  stranger_carries config turns hand entry_id request pairs id tag fatal seconds of done board log turn anew asking found names tells =
      let h = board_history (made_by hand) entry_id.number in
      missed config turns hand entry_id request pairs E10 fatal done board log turn anew (λ short. asking.reads) refl
      (stranger_due config h entry_id.moment (asking_with request pairs) id tag fatal seconds of (asks_delete config h entry_id.moment request pairs id tag fatal seconds anew asking) found names) tells
