-- An answer that the board refuses or plans, carried out.
use Rattle.std.proofs.Common.{◌≡◌, ◌∙◌, refl, sym, ap, subst, ℕ, Bool, false, List, [], Option, Some, None, Result, Err}
use Rattle.relay_outside.specs.declared.ports.PortCall.{PortCall}
use Rattle.relay_outside.specs.declared.settings.Config.{Config}
use Rattle.turn_table.specs.declared.hands.Turns.{Turns}
use Rattle.turn_table.specs.declared.hands.Hand.{Hand}
use Rattle.ng_bencode.specs.Room.{Room}
use Rattle.ng_bencode.specs.Tree.{Entries}
use Rattle.ng_command.specs.declared.command.AnswerIn.{AnswerIn}
use Rattle.ng_command.specs.Meanings.{Said}
use Rattle.ng_reply.specs.declared.code.ErrorCode.{ErrorCode}
use Rattle.sdes_lines.specs.declared.crypto_line.CryptoLine.{CryptoLine}
use Rattle.sdp_text.specs.Lines.{lines_of}
use Rattle.offer_answer.specs.Plan as plan
use Rattle.call_board.specs.declared.board.Board.{Board}
use Rattle.call_board.specs.declared.board_plan.BoardPlan.{BoardPlan}
use Rattle.call_board.specs.declared.fault.BoardFault.{BoardFault}
use Rattle.call_board.specs.Acts as act
use Rattle.call_board.specs.Acts.{BoardEntry}
use Rattle.call_board.specs.Answers.{Answered, failing}
use Rattle.call_board.specs.Requests.{asked, sdp_error}
use Rattle.call_board.specs.Calls.{find_call, rounds}
use Rattle.call_board.specs.Fits.{FitsControl, ReadsRequest, ReadsAnswerOf}
use Rattle.call_board.specs.Plans.{PlansAnswer, board_code}
use Rattle.call_board.specs.Replies.{Described, Fault, reply_datagram}
use Rattle.call_board.specs.Views.{view_of, call_of_id}
use Rattle.call_board.proofs.Done.{IsDue, with_reply, due_fits, failed_due, due_of_answer, answer_plan_due}
use Rattle.call_board.proofs.Dues.{IsAnswerDue, answer_due, answer_fails}
use Rattle.relay_core.specs.declared.part.Part.{Part}
use Rattle.relay_core.specs.Entries.{board_history}
use Rattle.relay_core.specs.Records.{Made}
use Rattle.relay_core.specs.Turns.{made_by}
use Rattle.board_turns.specs.declared.board_turn.BoardEntryId.{BoardEntryId}
use Rattle.board_turns.specs.Acts.{InTurn, DoesAct}
use Rattle.control_messages.specs.Bodies.{IsErrorOf}
use Rattle.control_messages.specs.declared.description.DescriptionFault.{DescriptionFault}
use Rattle.control_messages.specs.declared.description.DescriptionFault.TheVariants as faults
use Rattle.control_messages.specs.declared.request.Request.{Request}
use Rattle.board_turns.specs.declared.device_answers.DeviceAnswers.TheVariants.{Nothing}
use Rattle.board_turns.specs.declared.command_outcome.CommandOutcome.{CommandOutcome}
use Rattle.board_turns.specs.Controls.{unanswered, with_answer, entry_with}
use Rattle.board_turns.specs.Commands.{record_as, record_by, ExecutesCommand}
use Rattle.board_turns.specs.PlainReplies.{IsAnew, IsAsking, RefusesRequest, Tells, error_in}
use Rattle.board_turns.proofs.Asking.{asks_misdescribed}
use Rattle.board_turns.proofs.Plain.{carries_due}
use Rattle.board_turns.proofs.Tellings.{tells_carries, is_short_carries}
use Rattle.answer_command.specs.Due.{IsAnswerOf}
use Rattle.answer_command.proofs.Planned.{is_answer}
use Rattle.answer_command.specs.Commands.{AsksForAnswer, IsPlanned, ask_of_answer, answer_says}
use Rattle.answer_command.proofs.Asked.{asks_answer, asks_of, hears_answer}

-- The entry of an answer that the board planned.

-- what the board planned is due
pub is_due : (config : Config) (h : List BoardEntry) (input : AnswerIn) (lines : List (List ℕ)) (chosen : List (Option CryptoLine)) (p : BoardPlan)
    → IsPlanned config h input lines chosen p → IsAnswerDue config h lines (ask_of_answer input chosen) p (find_call h input.call_id.list)
is_due config h input lines chosen p planned =
    answer_due config h input lines input.call_id.list (ask_of_answer input chosen) p planned.plans
    (asks_of h input lines chosen (find_call h input.call_id.list) planned.lines_are planned.heard)

-- the answer to the datagram
abbrev pub due_of : (config : Config) (h : List BoardEntry) (request : Request) (pairs : Option Entries) (input : AnswerIn) (lines : List (List ℕ)) (chosen : List (Option CryptoLine))
    (p : BoardPlan) → IsAnswerDue config h lines (ask_of_answer input chosen) p (find_call h input.call_id.list) → Answered
due_of config h request pairs input lines chosen p d =
    let ask = ask_of_answer input chosen in
    with_reply config (unanswered (record_as request pairs chosen Nothing)) (Described (plan.answer_text config (rounds h d.of.number) ask))
    (act.Answered (record { of = d.of; ask = ask; signal = plan.signal (rounds h d.of.number) ask }))

-- the datagram with that answer is one that the history demands
pub planned_fits : (config : Config) (h : List BoardEntry) (moment : ℕ) (request : Request) (pairs : Option Entries) (input : AnswerIn) (lines : List (List ℕ))
    (chosen : List (Option CryptoLine)) (p : BoardPlan) → AsksForAnswer config h moment request pairs input → (planned : IsPlanned config h input lines chosen p)
    → IsDue config h moment (unanswered (record_as request pairs chosen Nothing)) (due_of config h request pairs input lines chosen p (is_due config h input lines chosen p planned))
    × FitsControl config h moment (with_answer (record_as request pairs chosen Nothing) (due_of config h request pairs input lines chosen p (is_due config h input lines chosen p planned)))
planned_fits config h moment request pairs input lines chosen p c planned =
    let d = is_due config h input lines chosen p planned in
    let control = unanswered (record_as request pairs chosen Nothing) in
    let due = due_of config h request pairs input lines chosen p d in
    let is = answer_plan_due config h moment control input.call_id.list (ask_of_answer input chosen) lines p (asks_answer config h moment request pairs input chosen Nothing c refl) refl d in (
      is,
      due_fits config h moment control due is c.anew.framed c.anew.length_is (λ read. c.asking.reads)
          (λ heard. hears_answer config h moment request pairs input chosen Nothing c planned.heard)
          (record { no_opens = refl; no_draws = refl; none_failed = refl }, refl) (λ s t. refl),
    )

-- the plan is that of the entry
pub planned_answer : (config : Config) (h : List BoardEntry) (moment : ℕ) (request : Request) (pairs : Option Entries) (input : AnswerIn) (lines : List (List ℕ))
    (chosen : List (Option CryptoLine)) (p : BoardPlan) → AsksForAnswer config h moment request pairs input → (planned : IsPlanned config h input lines chosen p)
    → IsAnswerOf config h moment
    (entry_with moment (record_as request pairs chosen Nothing) (due_of config h request pairs input lines chosen p (is_due config h input lines chosen p planned)))
    (is_due config h input lines chosen p planned).of (ask_of_answer input chosen) lines p
planned_answer config h moment request pairs input lines chosen p c planned =
    let d = is_due config h input lines chosen p planned in
    is_answer config h moment lines input.call_id.list (ask_of_answer input chosen) p
    (entry_with moment (record_as request pairs chosen Nothing) (due_of config h request pairs input lines chosen p d)) d
    (planned_fits config h moment request pairs input lines chosen p c planned).1 refl refl

module _ {M I O T : Type 0} {g : _} where
  -- it is accepted
  pub answered_carries : (config : Config) (old new : Hand M (Part I O) Made T g) (entry_id : BoardEntryId) (request : Request) (pairs : Option Entries) (input : AnswerIn) (lines : List (List ℕ))
      (chosen : List (Option CryptoLine)) (p : BoardPlan) (text : Room ℕ) (board : Board) (log : Option (List PortCall))
      → AsksForAnswer config (board_history (made_by old) entry_id.number) entry_id.moment request pairs input
      → (planned : IsPlanned config (board_history (made_by old) entry_id.number) input lines chosen p)
      → DoesAct config old new entry_id
      (entry_with entry_id.moment (record_as request pairs chosen Nothing)
      (due_of config (board_history (made_by old) entry_id.number) request pairs input lines chosen p
      (is_due config (board_history (made_by old) entry_id.number) input lines chosen p planned))) board log
      → text.list ≡ reply_datagram config request.cookie.now request.body.now
      (Described (plan.answer_text config (rounds (board_history (made_by old) entry_id.number) (is_due config (board_history (made_by old) entry_id.number) input lines chosen p planned).of.number)
      (ask_of_answer input chosen)))
      → ExecutesCommand config old new entry_id (record_as request pairs chosen Nothing) (Some text) board log
  answered_carries config old new entry_id request pairs input lines chosen p text board log c planned does bytes =
      let h = board_history (made_by old) entry_id.number in
      let both = planned_fits config h entry_id.moment request pairs input lines chosen p c planned in
      carries_due config old new entry_id (record_as request pairs chosen Nothing) (due_of config h request pairs input lines chosen p (is_due config h input lines chosen p planned))
      (Some text) board log both.0 both.1 does (refl, bytes)

  -- the board refuses it, or memory ran out
  refuses_case : (config : Config) (turns : Turns M (Part I O) Made T) (hand : Hand M (Part I O) Made T g) (entry_id : BoardEntryId) (request : Request) (pairs : Option Entries) (input : AnswerIn)
      (lines : List (List ℕ)) (chosen : List (Option CryptoLine)) (fault : BoardFault) (code : Option ErrorCode) (done : CommandOutcome) (board : Board) (log : Option (List PortCall))
      → InTurn config turns hand entry_id board log → AsksForAnswer config (board_history (made_by hand) entry_id.number) entry_id.moment request pairs input → lines_of input.sdp.list ≡ lines
      → ReadsAnswerOf (board_history (made_by hand) entry_id.number) (ask_of_answer input chosen) (find_call (board_history (made_by hand) entry_id.number) input.call_id.list)
      → PlansAnswer config input lines (call_of_id (view_of config (board_history (made_by hand) entry_id.number)) input.call_id.list) (Err fault)
      → board_code fault ≡ code → RefusesRequest request.cookie.now request.body.now chosen code done
      → ExecutesCommand config hand hand entry_id (record_by request pairs done) done.reply board log
  refuses_case config turns hand entry_id request pairs input lines chosen fault None done board log turn c lines_are heard planned is refuses =
      is_short_carries config turns hand entry_id request pairs done board log turn c.anew refuses
  refuses_case config turns hand entry_id request pairs input lines chosen fault (Some code) done board log turn c lines_are heard planned is refuses =
      let h = board_history (made_by hand) entry_id.number in
      let id = input.call_id.list in
      let ask = ask_of_answer input chosen in
      let control = unanswered (record_as request pairs chosen Nothing) in
      tells_carries config turns hand entry_id request pairs chosen (with_reply config control (Fault code) (act.Failed code)) done board log turn c.anew (λ short. c.asking.reads)
      (due_of_answer config h entry_id.moment control id ask (failing code) (asks_answer config h entry_id.moment request pairs input chosen Nothing c refl) refl
      (answer_fails config h input lines id ask fault code planned (asks_of h input lines chosen (find_call h id) lines_are heard) is)) refl refl
      (λ late. hears_answer config h entry_id.moment request pairs input chosen Nothing c heard) (refuses config)

  pub refuses_carries : (config : Config) (turns : Turns M (Part I O) Made T) (hand : Hand M (Part I O) Made T g) (entry_id : BoardEntryId) (request : Request) (pairs : Option Entries) (input : AnswerIn)
      (lines : List (List ℕ)) (chosen : List (Option CryptoLine)) (fault : BoardFault) (done : CommandOutcome) (board : Board) (log : Option (List PortCall))
      → InTurn config turns hand entry_id board log → AsksForAnswer config (board_history (made_by hand) entry_id.number) entry_id.moment request pairs input → lines_of input.sdp.list ≡ lines
      → ReadsAnswerOf (board_history (made_by hand) entry_id.number) (ask_of_answer input chosen) (find_call (board_history (made_by hand) entry_id.number) input.call_id.list)
      → PlansAnswer config input lines (call_of_id (view_of config (board_history (made_by hand) entry_id.number)) input.call_id.list) (Err fault)
      → RefusesRequest request.cookie.now request.body.now chosen (board_code fault) done
      → ExecutesCommand config hand hand entry_id (record_by request pairs done) done.reply board log
  refuses_carries config turns hand entry_id request pairs input lines chosen fault done board log turn c lines_are heard planned refuses =
      refuses_case config turns hand entry_id request pairs input lines chosen fault (board_code fault) done board log turn c lines_are heard planned refl refuses

  -- its description has an error
  error_carries : (config : Config) (turns : Turns M (Part I O) Made T) (hand : Hand M (Part I O) Made T g) (entry_id : BoardEntryId) (request : Request) (pairs : Option Entries) (input : AnswerIn)
      (chosen : List (Option CryptoLine)) (code : ErrorCode) (done : CommandOutcome) (board : Board) (log : Option (List PortCall))
      → InTurn config turns hand entry_id board log → IsAnew (board_history (made_by hand) entry_id.number) entry_id.moment request → IsAsking request pairs (answer_says input)
      → sdp_error config input.sdp.list ≡ Some code → Tells chosen (reply_datagram config request.cookie.now request.body.now (Fault code)) done
      → ExecutesCommand config hand hand entry_id (record_by request pairs done) done.reply board log
  error_carries config turns hand entry_id request pairs input chosen code done board log turn anew asking faulty tells =
      let h = board_history (made_by hand) entry_id.number in
      let control = unanswered (record_as request pairs chosen Nothing) in
      let is : asked config request.too_long pairs ≡ Err code =
      ap (λ (long : Bool). asked config long pairs) asking.short ∙ asks_misdescribed config false pairs (answer_says input) code asking.command faulty in
      tells_carries config turns hand entry_id request pairs chosen (with_reply config control (Fault code) (act.Failed code)) done board log turn anew (λ short. asking.reads)
      (failed_due config h entry_id.moment control code (record { nothing_kept = anew.not_kept; not_out_of_memory = refl; is_asked = is })) refl refl
      (λ late. subst (λ (r : Result Said ErrorCode). ReadsRequest h control r) (sym is) tt) tells

  pub misdescribed_carries : (config : Config) (turns : Turns M (Part I O) Made T) (hand : Hand M (Part I O) Made T g) (entry_id : BoardEntryId) (request : Request) (pairs : Option Entries) (input : AnswerIn)
      (fault : DescriptionFault) (done : CommandOutcome) (board : Board) (log : Option (List PortCall))
      → InTurn config turns hand entry_id board log → IsAnew (board_history (made_by hand) entry_id.number) entry_id.moment request → IsAsking request pairs (answer_says input)
      → IsErrorOf (sdp_error config input.sdp.list) fault → RefusesRequest request.cookie.now request.body.now [] (error_in fault) done
      → ExecutesCommand config hand hand entry_id (record_by request pairs done) done.reply board log
  misdescribed_carries config turns hand entry_id request pairs input (faults.Error code) done board log turn anew asking faulty refuses =
      error_carries config turns hand entry_id request pairs input [] code done board log turn anew asking faulty (refuses config)
  misdescribed_carries config turns hand entry_id request pairs input faults.OutOfMemory done board log turn anew asking faulty refuses =
      is_short_carries config turns hand entry_id request pairs done board log turn anew refuses
