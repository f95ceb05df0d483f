-- A query, which reads the call that it asks after.
use Rattle.std.proofs.Common.{◌≡◌, ◌∙◌, refl, sym, subst, ap, ℕ, Bool, true, false, List, [], ◌∷◌, Option, Some, None, Ok}
use Rattle.std.specs.Prelude.{is_some}
use Rattle.relay_outside.specs.declared.ports.PortCall.{PortCall}
use Rattle.relay_outside.specs.declared.settings.Config.{Config}
use Rattle.turn_table.specs.declared.hands.Turns.{Turns}
use Rattle.turn_table.specs.declared.hands.Hand.{Hand}
use Rattle.ng_bencode.specs.Room.{Room}
use Rattle.ng_bencode.specs.Tree.{Entries}
use Rattle.ng_command.specs.Meanings.{Query}
use Rattle.ng_reply.specs.declared.code.ErrorCode.TheVariants.{E9, E17}
use Rattle.sdes_lines.specs.declared.crypto_line.CryptoLine.{CryptoLine}
use Rattle.port_pool.specs.declared.holder.Holder.{Holder}
use Rattle.port_pool.specs.declared.reports.LegReport.{LegReport}
use Rattle.call_cell.specs.Cells.{Read}
use Rattle.call_board.specs.declared.board.Board.{Board}
use Rattle.call_board.specs.Acts as act
use Rattle.call_board.specs.Acts.{Call, Control, BoardEntry}
use Rattle.call_board.specs.Answers.{Answered}
use Rattle.call_board.specs.Requests.{asked}
use Rattle.call_board.specs.Calls.{find_call}
use Rattle.call_board.specs.Fits.{asks_after}
use Rattle.call_board.specs.Pairs.{held}
use Rattle.call_board.specs.Replies as replies
use Rattle.call_board.specs.Replies.{Fault, reply_datagram}
use Rattle.call_board.proofs.Done.{Asks, with_reply, due_fits, query_unknown_due, queried_due, report_of_call, out_of_memory_due}
use Rattle.call_board.proofs.Idle.{idle_changes_nothing, is_idle}
use Rattle.relay_core.specs.declared.part.Part.{Part}
use Rattle.relay_core.specs.Entries.{board_history}
use Rattle.relay_core.specs.Records.{Made}
use Rattle.relay_core.specs.Scripts.{Owed, in_cell, reading, reading_out_of_memory}
use Rattle.relay_core.specs.Turns.{GainsNested, made_by}
use Rattle.media_ports.specs.OpenPorts.{LogsHeld}
use Rattle.board_turns.specs.declared.board_turn.BoardEntryId.{BoardEntryId}
use Rattle.board_turns.specs.Acts.{InTurn}
use Rattle.board_turns.specs.CallEnds.{leg_pairs}
use Rattle.control_messages.proofs.Datagrams.{fault_is}
use Rattle.control_messages.specs.declared.request.Request.{Request}
use Rattle.board_turns.specs.declared.device_answers.DeviceAnswers.{DeviceAnswers}
use Rattle.board_turns.specs.declared.device_answers.DeviceAnswers.TheVariants as device_answers
use Rattle.board_turns.specs.declared.command_outcome.CommandOutcome.{CommandOutcome}
use Rattle.board_turns.specs.Commands.{record_as, record_by, ExecutesCommand}
use Rattle.board_turns.specs.Controls.{RequestRecord, unanswered, with_answer, entry_with}
use Rattle.board_turns.specs.DeviceAnswers.{given_by}
use Rattle.board_turns.specs.PlainReplies.{IsAnew, IsAsking, Tells}
use Rattle.board_turns.proofs.Asking.{asks_so}
use Rattle.board_turns.proofs.Plain.{carries_due}
use Rattle.board_turns.proofs.Tellings.{tells_carries}
use Rattle.report_commands.specs.Reports.{ReportsOf, ReportsOfBy}

-- What is asked.

-- the datagram of a query, before its reply
abbrev asking_with : Request → Option Entries → List (Option CryptoLine) → DeviceAnswers → Control
asking_with request pairs chosen given = unanswered (record_as request pairs chosen given)

query_asked : (config : Config) (request : Request) (pairs : Option Entries) (id : List ℕ) → IsAsking request pairs (Query id) → asked config request.too_long pairs ≡ Ok (Query id)
query_asked config request pairs id asking = ap (λ (long : Bool). asked config long pairs) asking.short ∙ asks_so config false pairs (Query id) asking.command refl

asks_query : (config : Config) (h : List BoardEntry) (moment : ℕ) (request : Request) (pairs : Option Entries) (chosen : List (Option CryptoLine)) (id : List ℕ) (given : DeviceAnswers)
    → (given_by given).out_of_memory ≡ false → IsAnew h moment request → IsAsking request pairs (Query id)
    → Asks config h moment (asking_with request pairs chosen given) (Ok (Query id))
asks_query config h moment request pairs chosen id given fed anew asking =
    record { nothing_kept = anew.not_kept; not_out_of_memory = fed; is_asked = query_asked config request pairs id asking }

reading_holds : (config : Config) (h : List BoardEntry) (moment : ℕ) (x : RequestRecord) (a : Answered) → is_idle a.act ≡ true → held (entry_with moment x a ∷ h) ≡ held h
reading_holds config h moment x a idle =
    (idle_changes_nothing config (entry_with moment x a) h a.act (record { control = with_answer x a; is_turn = refl; acts = refl }) idle).same_held

module _ {M I O T : Type 0} {g : _} where
  -- no live call has the call-id
  pub unknown_carries : (config : Config) (turns : Turns M (Part I O) Made T) (hand : Hand M (Part I O) Made T g) (entry_id : BoardEntryId) (request : Request) (pairs : Option Entries)
      (chosen : List (Option CryptoLine)) (id : List ℕ) (done : CommandOutcome) (board : Board) (log : Option (List PortCall))
      → InTurn config turns hand entry_id board log → IsAnew (board_history (made_by hand) entry_id.number) entry_id.moment request → IsAsking request pairs (Query id)
      → find_call (board_history (made_by hand) entry_id.number) id ≡ None → Tells chosen (reply_datagram config request.cookie.now request.body.now (Fault E9)) done
      → ExecutesCommand config hand hand entry_id (record_by request pairs done) done.reply board log
  unknown_carries config turns hand entry_id request pairs chosen id done board log turn anew asking none tells =
      let h = board_history (made_by hand) entry_id.number in
      let c = asking_with request pairs chosen device_answers.Nothing in
      tells_carries config turns hand entry_id request pairs chosen (with_reply config c (Fault E9) (act.Failed E9)) done board log turn anew (λ short. asking.reads)
      (query_unknown_due config h entry_id.moment c id (asks_query config h entry_id.moment request pairs chosen id device_answers.Nothing refl anew asking) none) refl refl
      (λ heard. absurd (let late : false ≡ true = heard in cc)) tells

  -- The call is read.

  queried_carries : (config : Config) (turns : Turns M (Part I O) Made T) (old new : Hand M (Part I O) Made T g) (entry_id : BoardEntryId) (request : Request) (pairs : Option Entries)
      (id : List ℕ) (of : Call) (reports : List LegReport) (text : Room ℕ) (board : Board) (log : Option (List PortCall))
      → InTurn config turns old entry_id board log → IsAnew (board_history (made_by old) entry_id.number) entry_id.moment request → IsAsking request pairs (Query id)
      → find_call (board_history (made_by old) entry_id.number) id ≡ Some of
      → GainsNested entry_id.number entry_id.moment (in_cell of (Read reports) ∷ []) old new
      → text.list ≡ reply_datagram config request.cookie.now request.body.now (replies.Reported (report_of_call (board_history (made_by old) entry_id.number) of reports))
      → ExecutesCommand config old new entry_id (record_as request pairs [] (device_answers.Report reports)) (Some text) board log
  queried_carries config turns old new entry_id request pairs id of reports text board log turn anew asking found gained bytes =
      let h = board_history (made_by old) entry_id.number in
      let x = record_as request pairs [] (device_answers.Report reports) in
      let c = unanswered x in
      let due = with_reply config c (replies.Reported (report_of_call h of reports)) (act.Queried of) in
      let is = queried_due config h entry_id.moment c id of reports (asks_query config h entry_id.moment request pairs [] id (device_answers.Report reports) refl anew asking) found refl in
      carries_due config old new entry_id x due (Some text) board log is
      (due_fits config h entry_id.moment c due is anew.framed anew.length_is (λ read. asking.reads) (λ heard. absurd (let wrong : false ≡ true = heard in cc))
      (record { no_opens = refl; no_draws = refl; none_failed = refl }, refl) (λ out_of_memory none. absurd (let wrong : act.Queried of ≡ act.OutOfMemory = out_of_memory in cc)))
      (record {
        gained = gained;
        shows = turn.shows;
        opens = subst (λ (legs : List Holder). LogsHeld config log (leg_pairs legs)) (sym (reading_holds config h entry_id.moment x due refl)) turn.opens;
      })
      (refl, bytes)

  -- and memory runs out after that
  out_of_memory_carries : (config : Config) (turns : Turns M (Part I O) Made T) (old new : Hand M (Part I O) Made T g) (entry_id : BoardEntryId) (request : Request) (pairs : Option Entries)
      (chosen : List (Option CryptoLine)) (id : List ℕ) (of : Call) (reports : List LegReport) (board : Board) (log : Option (List PortCall))
      → InTurn config turns old entry_id board log → IsAnew (board_history (made_by old) entry_id.number) entry_id.moment request → IsAsking request pairs (Query id)
      → find_call (board_history (made_by old) entry_id.number) id ≡ Some of
      → GainsNested entry_id.number entry_id.moment (in_cell of (Read reports) ∷ []) old new
      → ExecutesCommand config old new entry_id (record_as request pairs chosen (device_answers.ReportOutOfMemory reports)) None board log
  out_of_memory_carries config turns old new entry_id request pairs chosen id of reports board log turn anew asking found gained =
      let h = board_history (made_by old) entry_id.number in
      let x = record_as request pairs chosen (device_answers.ReportOutOfMemory reports) in
      let c = unanswered x in
      let due = with_reply config c (Fault E17) act.OutOfMemory in
      let is = out_of_memory_due config h entry_id.moment c anew.not_kept refl in
      let asks = query_asked config request pairs id asking in
      let after : asks_after h (asked config request.too_long pairs) ≡ true = ap (asks_after h) asks ∙ ap (λ (o : Option Call). is_some o) found in
      let owes : reading_out_of_memory h (with_answer x due) (asked config request.too_long pairs) ≡ in_cell of (Read reports) ∷ []
      = ap (reading_out_of_memory h (with_answer x due)) asks ∙ ap (λ (o : Option Call). reading o (Some reports)) found in
      carries_due config old new entry_id x due None board log is
      (due_fits config h entry_id.moment c due is anew.framed anew.length_is (λ read. asking.reads) (λ heard. absurd (let wrong : false ≡ true = heard in cc))
      (record { no_opens = refl; no_draws = refl; none_failed = refl }) (λ out_of_memory none. absurd (let wrong : true ≡ false = sym after ∙ none in cc)))
      (record {
        gained = subst (λ (owed : List Owed). GainsNested entry_id.number entry_id.moment owed old new) (sym owes) gained;
        shows = turn.shows;
        opens = subst (λ (legs : List Holder). LogsHeld config log (leg_pairs legs)) (sym (reading_holds config h entry_id.moment x due refl)) turn.opens;
      })
      (refl, sym (fault_is config request.cookie.now request.body.now E17))

  told_case : (config : Config) (turns : Turns M (Part I O) Made T) (old new : Hand M (Part I O) Made T g) (entry_id : BoardEntryId) (request : Request) (pairs : Option Entries)
      (id : List ℕ) (of : Call) (reports : List LegReport) (done : CommandOutcome) (reply : Option (Room ℕ)) (board : Board) (log : Option (List PortCall))
      → InTurn config turns old entry_id board log → IsAnew (board_history (made_by old) entry_id.number) entry_id.moment request → IsAsking request pairs (Query id)
      → find_call (board_history (made_by old) entry_id.number) id ≡ Some of
      → GainsNested entry_id.number entry_id.moment (in_cell of (Read reports) ∷ []) old new
      → ReportsOfBy reports (reply_datagram config request.cookie.now request.body.now (replies.Reported (report_of_call (board_history (made_by old) entry_id.number) of reports))) done reply
      → ExecutesCommand config old new entry_id (record_by request pairs done) reply board log
  told_case config turns old new entry_id request pairs id of reports done None board log turn anew asking found gained tells =
      subst (λ (given : DeviceAnswers). ExecutesCommand config old new entry_id (record_as request pairs done.chosen_lines given) None board log) (sym tells)
      (out_of_memory_carries config turns old new entry_id request pairs done.chosen_lines id of reports board log turn anew asking found gained)
  told_case config turns old new entry_id request pairs id of reports done (Some text) board log turn anew asking found gained tells =
      subst (λ (lines : List (Option CryptoLine)). ExecutesCommand config old new entry_id (record_as request pairs lines done.device_answers) (Some text) board log) (sym tells.0)
      (subst (λ (given : DeviceAnswers). ExecutesCommand config old new entry_id (record_as request pairs [] given) (Some text) board log) (sym tells.1)
      (queried_carries config turns old new entry_id request pairs id of reports text board log turn anew asking found gained tells.2))

  -- the call was read, and this is told of it, where memory suffices
  pub told_carries : (config : Config) (turns : Turns M (Part I O) Made T) (old new : Hand M (Part I O) Made T g) (entry_id : BoardEntryId) (request : Request) (pairs : Option Entries)
      (id : List ℕ) (of : Call) (reports : List LegReport) (done : CommandOutcome) (board : Board) (log : Option (List PortCall))
      → InTurn config turns old entry_id board log → IsAnew (board_history (made_by old) entry_id.number) entry_id.moment request → IsAsking request pairs (Query id)
      → find_call (board_history (made_by old) entry_id.number) id ≡ Some of
      → GainsNested entry_id.number entry_id.moment (in_cell of (Read reports) ∷ []) old new
      → ReportsOf reports (reply_datagram config request.cookie.now request.body.now (replies.Reported (report_of_call (board_history (made_by old) entry_id.number) of reports))) done
      → ExecutesCommand config old new entry_id (record_by request pairs done) done.reply board log
  told_carries config turns old new entry_id request pairs id of reports done board log turn anew asking found gained tells =
      told_case config turns old new entry_id request pairs id of reports done done.reply board log turn anew asking found gained tells
