-- An offer that the board refuses or plans, carried out.
use Rattle.std.proofs.Common.{◌≡◌, ◌∙◌, refl, sym, ap, subst, ℕ, ◌*◌, ◌<◌, Bool, true, false, List, [], length, replicate, Option, Some, None, Result, Ok, Err}
use Rattle.relay_outside.specs.declared.ports.PortCall.{PortCall}
use Rattle.relay_outside.specs.declared.settings.Config.{Config}
use Rattle.turn_table.specs.declared.hands.Turns.{Turns}
use Rattle.turn_table.specs.declared.hands.Hand.{Hand}
use Rattle.ng_bencode.specs.Room.{Room}
use Rattle.ng_bencode.specs.Tree.{Entries}
use Rattle.ng_command.specs.declared.command.OfferIn.{OfferIn}
use Rattle.ng_command.specs.Meanings.{Said}
use Rattle.ng_reply.specs.declared.code.ErrorCode.{ErrorCode}
use Rattle.ng_reply.specs.declared.code.ErrorCode.TheVariants.{E15, E16}
use Rattle.sdes_lines.specs.declared.crypto_line.CryptoLine.{CryptoLine}
use Rattle.offer_answer.specs.Rounds.{Demand}
use Rattle.offer_answer.specs.Plan.{OfferRead}
use Rattle.offer_answer.specs.Offers.{pairs_demanded, key_count}
use Rattle.media_ports.specs.Draws.{KeyBytes}
use Rattle.call_board.specs.Acts as act
use Rattle.call_board.specs.Acts.{BoardEntry}
use Rattle.call_board.specs.Answers.{offering, spelled}
use Rattle.call_board.specs.Requests.{asked, sdp_error_for}
use Rattle.call_board.specs.Boards.{BoardMatches}
use Rattle.call_board.specs.Fits.{GivesFor, GivesUndone, FitsBoard, ReadsRequest}
use Rattle.call_board.specs.Plans.{PlansOffer, board_code}
use Rattle.call_board.specs.Replies.{Reply, Fault, Described, reply_datagram}
use Rattle.call_board.specs.Views.{view_of, view_at_moment}
use Rattle.call_board.specs.declared.board.Board.{Board}
use Rattle.call_board.specs.declared.board_plan.BoardPlan.{BoardPlan}
use Rattle.call_board.specs.declared.fault.BoardFault.{BoardFault}
use Rattle.call_board.proofs.Done.{with_reply, due_fits, plan_leases, failed_due, offer_failed_due, offer_ports_due, offer_keys_due, offered_due}
use Rattle.call_board.proofs.Dues.{offer_fails}
use Rattle.relay_core.specs.declared.part.Part.{Part}
use Rattle.relay_core.specs.Entries.{board_history}
use Rattle.relay_core.specs.Records.{Made}
use Rattle.relay_core.specs.Turns.{made_by}
use Rattle.board_turns.specs.declared.board_turn.BoardEntryId.{BoardEntryId}
use Rattle.board_turns.specs.Acts.{InTurn, DoesAct}
use Rattle.call_board.specs.Shapes.{BoardShape, board_shape}
use Rattle.relay_core.specs.KeptAfter.{IsWholeWith}
use Rattle.control_messages.specs.declared.request.Request.{Request}
use Rattle.board_turns.specs.declared.device_answers.DeviceAnswers.{DeviceAnswers}
use Rattle.board_turns.specs.declared.device_answers.DeviceAnswers.TheVariants as device_answers
use Rattle.board_turns.specs.declared.device_answers.DeviceAnswers.TheVariants.{Nothing}
use Rattle.board_turns.specs.declared.command_outcome.CommandOutcome.{CommandOutcome}
use Rattle.board_turns.specs.Controls.{RequestRecord, unanswered, entry_with}
use Rattle.board_turns.specs.DeviceAnswers.{given_by}
use Rattle.board_turns.specs.Commands.{record_as, record_by, ExecutesCommand}
use Rattle.board_turns.specs.PlainReplies.{IsAnew, IsAsking, RefusesRequest, Tells, error_in}
use Rattle.board_turns.proofs.Asking.{asks_misdescribed}
use Rattle.board_turns.proofs.Plain.{carries_due}
use Rattle.board_turns.proofs.Tellings.{tells_carries, is_short_carries}
use Rattle.control_messages.specs.Bodies.{IsErrorOf}
use Rattle.control_messages.specs.declared.description.DescriptionFault.{DescriptionFault}
use Rattle.control_messages.specs.declared.description.DescriptionFault.TheVariants as faults
use Rattle.offer_command.specs.declared.lease.LeaseFault.{LeaseFault}
use Rattle.offer_command.specs.declared.lease.LeaseFault.TheVariants.{Port, Key}
use Rattle.offer_command.specs.Leases.{pairs_of_plan, keys_of_plan}
use Rattle.offer_command.specs.Undo.{ComesEarly, keys_before}
use Rattle.offer_command.specs.Offers.{offer_of, demand_of, target_of, pairs_for, offered_text, undone_leases}
use Rattle.offer_command.proofs.Targets.{pairs_count, keys_count}
use Rattle.offer_command.specs.Commands.{AsksForOffer, GivesOutcome, IsReplyMade, ask_of_offer, offer_says, undone_code, undone_answers}
use Rattle.offer_command.proofs.Asked.{asks_offer, hears_offer, demands_offer, none_fails, one_fails}

module _ {M I O T : Type 0} {g : _} where
  -- the turn with another state of the board that shows the same
  pub turn_on : (config : Config) (turns : Turns M (Part I O) Made T) (hand : Hand M (Part I O) Made T g) (entry_id : BoardEntryId) (board new : Board) (log : Option (List PortCall))
      → InTurn config turns hand entry_id board log → BoardMatches config new (view_at_moment (view_of config (board_history (made_by hand) entry_id.number)) entry_id.moment)
      → board_shape new ≡ board_shape board → InTurn config turns hand entry_id new log
  turn_on config turns hand entry_id board new log turn shows same = record {
    may = turn.may;
    above = turn.above;
    low = turn.low;
    orderly = turn.orderly;
    timely = turn.timely;
    shows = shows;
    opens = turn.opens;
    whole = subst (λ (shape : BoardShape). IsWholeWith config hand shape) (sym same) turn.whole;
  }

  -- a reply that was made
  made_so : (config : Config) (old new : Hand M (Part I O) Made T g) (entry_id : BoardEntryId) (x : RequestRecord) (bytes : List ℕ) (reply : Option (Room ℕ)) (board : Board) (log : Option (List PortCall))
      → IsReplyMade bytes reply → ((text : Room ℕ) → text.list ≡ bytes → ExecutesCommand config old new entry_id x (Some text) board log) → ExecutesCommand config old new entry_id x reply board log
  made_so config old new entry_id x bytes None board log is carries = absurd is
  made_so config old new entry_id x bytes (Some text) board log is carries = carries text is

  pub gives_carries : (config : Config) (old new : Hand M (Part I O) Made T g) (entry_id : BoardEntryId) (request : Request) (pairs : Option Entries) (chosen : List (Option CryptoLine)) (device_answers : DeviceAnswers) (reply : Reply)
      (done : CommandOutcome) (board : Board) (log : Option (List PortCall))
      → GivesOutcome request.cookie.now request.body.now chosen device_answers reply done
      → ((text : Room ℕ) → text.list ≡ reply_datagram config request.cookie.now request.body.now reply → ExecutesCommand config old new entry_id (record_as request pairs chosen device_answers) (Some text) board log)
      → ExecutesCommand config old new entry_id (record_by request pairs done) done.reply board log
  gives_carries config old new entry_id request pairs chosen device_answers reply done board log gives carries =
      subst (λ (lines : List (Option CryptoLine)). ExecutesCommand config old new entry_id (record_as request pairs lines done.device_answers) done.reply board log) (sym gives.chosen_are)
      (subst (λ (given : DeviceAnswers). ExecutesCommand config old new entry_id (record_as request pairs chosen given) done.reply board log) (sym gives.answers_are)
      (made_so config old new entry_id (record_as request pairs chosen device_answers) (reply_datagram config request.cookie.now request.body.now reply) done.reply board log (gives.replies config) carries))

  -- it is accepted
  pub offered_carries : (config : Config) (old new : Hand M (Part I O) Made T g) (entry_id : BoardEntryId) (request : Request) (pairs : Option Entries) (input : OfferIn) (chosen : List (Option CryptoLine)) (p : BoardPlan)
      (drawn : KeyBytes) (text : Room ℕ) (board : Board) (log : Option (List PortCall))
      → AsksForOffer config (board_history (made_by old) entry_id.number) entry_id.moment request pairs input → OfferRead (ask_of_offer input chosen)
      → PlansOffer config (view_of config (board_history (made_by old) entry_id.number)) input.call_id.list (ask_of_offer input chosen) (Ok p)
      → length drawn.list ≡ key_count p.plan
      → ((e : BoardEntry) → FitsBoard config (board_history (made_by old) entry_id.number) e
      → act.act e ≡ act.Offered (offer_of config (board_history (made_by old) entry_id.number) input.call_id.list (ask_of_offer input chosen) drawn.list) → e.moment ≡ entry_id.moment
      → DoesAct config old new entry_id e board log)
      → text.list ≡ reply_datagram config request.cookie.now request.body.now (Described (offered_text config (board_history (made_by old) entry_id.number) input.call_id.list
      (offer_of config (board_history (made_by old) entry_id.number) input.call_id.list (ask_of_offer input chosen) drawn.list)))
      → ExecutesCommand config old new entry_id (record_as request pairs chosen (device_answers.Offered (2 * pairs_demanded p.plan) drawn)) (Some text) board log
  offered_carries config old new entry_id request pairs input chosen p drawn text board log c heard plans count does bytes =
      let h = board_history (made_by old) entry_id.number in
      let id = input.call_id.list in
      let ask = ask_of_offer input chosen in
      let given = device_answers.Offered (2 * pairs_demanded p.plan) drawn in
      let x = record_as request pairs chosen given in
      let t = target_of config h id in
      let o = offer_of config h id ask drawn.list in
      let due = spelled config request.cookie.now request.body.now (offering config t.rounds o) in
      let is = offered_due config h entry_id.moment (unanswered x) id ask t.of t.begins t.rounds (pairs_for config h id ask) (asks_offer config h entry_id.moment request pairs input chosen given c refl) refl
      (plan_leases config h (unanswered x) id ask p plans) (none_fails (2 * pairs_demanded p.plan)) refl in
      let fits = due_fits config h entry_id.moment (unanswered x) due is c.anew.framed c.anew.length_is (λ read. c.asking.reads)
      (λ h. hears_offer config (board_history (made_by old) entry_id.number) entry_id.moment request pairs input chosen given c heard)
      (subst (λ (d : Demand). GivesFor d (given_by given) (act.Offered o)) (sym (demands_offer config h entry_id.moment request pairs input chosen given c)) (
        record { all_opened = ap (λ (n : ℕ). replicate (2 * n) true) (pairs_count config h id ask p plans.1) },
        record { all_drawn = count ∙ keys_count config h id ask p plans.1; none_failed = refl },
        refl,
      ))
      (λ s t. refl) in
      carries_due config old new entry_id x due (Some text) board log is fits (does (entry_with entry_id.moment x due) fits refl refl) (refl, bytes)

  -- a port could not be opened
  ports_carries : (config : Config) (old new : Hand M (Part I O) Made T g) (entry_id : BoardEntryId) (request : Request) (pairs : Option Entries) (input : OfferIn) (chosen : List (Option CryptoLine)) (p : BoardPlan)
      (opened : ℕ) (text : Room ℕ) (board : Board) (log : Option (List PortCall))
      → AsksForOffer config (board_history (made_by old) entry_id.number) entry_id.moment request pairs input → OfferRead (ask_of_offer input chosen)
      → PlansOffer config (view_of config (board_history (made_by old) entry_id.number)) input.call_id.list (ask_of_offer input chosen) (Ok p)
      → ComesEarly (pairs_of_plan p) (keys_of_plan p) (Port opened)
      → ((e : BoardEntry) (code : ErrorCode) → act.act e ≡ act.Undone code (undone_leases config (board_history (made_by old) entry_id.number) input.call_id.list (ask_of_offer input chosen)) []
      → DoesAct config old new entry_id e board log)
      → text.list ≡ reply_datagram config request.cookie.now request.body.now (Fault E15)
      → ExecutesCommand config old new entry_id (record_as request pairs chosen (device_answers.PortFault opened)) (Some text) board log
  ports_carries config old new entry_id request pairs input chosen p opened text board log c heard plans early undoes bytes =
      let h = board_history (made_by old) entry_id.number in
      let id = input.call_id.list in
      let ask = ask_of_offer input chosen in
      let given = device_answers.PortFault opened in
      let x = record_as request pairs chosen given in
      let t = target_of config h id in
      let a = act.Undone E15 (undone_leases config h id ask) [] in
      let due = with_reply config (unanswered x) (Fault E15) a in
      let is = offer_ports_due config h entry_id.moment (unanswered x) id ask t.of t.begins t.rounds (pairs_for config h id ask) (asks_offer config h entry_id.moment request pairs input chosen given c refl) refl
      (plan_leases config h (unanswered x) id ask p plans) (one_fails opened) in
      let fits = due_fits config h entry_id.moment (unanswered x) due is c.anew.framed c.anew.length_is (λ read. c.asking.reads)
      (λ h. hears_offer config (board_history (made_by old) entry_id.number) entry_id.moment request pairs input chosen given c heard)
      (subst (λ (d : Demand). GivesFor d (given_by given) a) (sym (demands_offer config h entry_id.moment request pairs input chosen given c)) (
        subst (λ (b : Bool). GivesUndone (demand_of config h id ask) (given_by given) b) (sym (one_fails opened))
            (record { opened = opened; some_are_left = subst (λ (n : ℕ). opened < 2 * n) (pairs_count config h id ask p plans.1) early; then_fails = refl }, refl, refl),
        refl,
      ))
      (λ s t. refl) in
      carries_due config old new entry_id x due (Some text) board log is fits (undoes (entry_with entry_id.moment x due) E15 refl) (refl, bytes)

  -- a draw failed
  keys_carries : (config : Config) (old new : Hand M (Part I O) Made T g) (entry_id : BoardEntryId) (request : Request) (pairs : Option Entries) (input : OfferIn) (chosen : List (Option CryptoLine)) (p : BoardPlan)
      (drawn : KeyBytes) (text : Room ℕ) (board : Board) (log : Option (List PortCall))
      → AsksForOffer config (board_history (made_by old) entry_id.number) entry_id.moment request pairs input → OfferRead (ask_of_offer input chosen)
      → PlansOffer config (view_of config (board_history (made_by old) entry_id.number)) input.call_id.list (ask_of_offer input chosen) (Ok p)
      → ComesEarly (pairs_of_plan p) (keys_of_plan p) (Key drawn)
      → ((e : BoardEntry) (code : ErrorCode) → act.act e ≡ act.Undone code (undone_leases config (board_history (made_by old) entry_id.number) input.call_id.list (ask_of_offer input chosen)) drawn.list
      → DoesAct config old new entry_id e board log)
      → text.list ≡ reply_datagram config request.cookie.now request.body.now (Fault E16)
      → ExecutesCommand config old new entry_id (record_as request pairs chosen (device_answers.KeyFault (2 * pairs_demanded p.plan) drawn)) (Some text) board log
  keys_carries config old new entry_id request pairs input chosen p drawn text board log c heard plans early undoes bytes =
      let h = board_history (made_by old) entry_id.number in
      let id = input.call_id.list in
      let ask = ask_of_offer input chosen in
      let given = device_answers.KeyFault (2 * pairs_demanded p.plan) drawn in
      let x = record_as request pairs chosen given in
      let t = target_of config h id in
      let a = act.Undone E16 (undone_leases config h id ask) drawn.list in
      let due = with_reply config (unanswered x) (Fault E16) a in
      let all = none_fails (2 * pairs_demanded p.plan) in
      let is = offer_keys_due config h entry_id.moment (unanswered x) id ask t.of t.begins t.rounds (pairs_for config h id ask) (asks_offer config h entry_id.moment request pairs input chosen given c refl) refl
      (plan_leases config h (unanswered x) id ask p plans) all refl in
      let fits = due_fits config h entry_id.moment (unanswered x) due is c.anew.framed c.anew.length_is (λ read. c.asking.reads)
      (λ h. hears_offer config (board_history (made_by old) entry_id.number) entry_id.moment request pairs input chosen given c heard)
      (subst (λ (d : Demand). GivesFor d (given_by given) a) (sym (demands_offer config h entry_id.moment request pairs input chosen given c)) (
        subst (λ (b : Bool). GivesUndone (demand_of config h id ask) (given_by given) b) (sym all) (
          record { all_opened = ap (λ (n : ℕ). replicate (2 * n) true) (pairs_count config h id ask p plans.1) },
          record { some_are_left = subst (λ (n : ℕ). length drawn.list < n) (keys_count config h id ask p plans.1) early; then_fails = refl },
        ),
        refl,
      ))
      (λ s t. refl) in
      carries_due config old new entry_id x due (Some text) board log is fits (undoes (entry_with entry_id.moment x due) E16 refl) (refl, bytes)

  -- it is undone
  pub undone_carries : (config : Config) (old new : Hand M (Part I O) Made T g) (entry_id : BoardEntryId) (request : Request) (pairs : Option Entries) (input : OfferIn) (chosen : List (Option CryptoLine)) (p : BoardPlan)
      (fault : LeaseFault) (text : Room ℕ) (board : Board) (log : Option (List PortCall))
      → AsksForOffer config (board_history (made_by old) entry_id.number) entry_id.moment request pairs input → OfferRead (ask_of_offer input chosen)
      → PlansOffer config (view_of config (board_history (made_by old) entry_id.number)) input.call_id.list (ask_of_offer input chosen) (Ok p)
      → ComesEarly (pairs_of_plan p) (keys_of_plan p) fault
      → ((e : BoardEntry) (code : ErrorCode) → act.act e ≡ act.Undone code (undone_leases config (board_history (made_by old) entry_id.number) input.call_id.list (ask_of_offer input chosen)) (keys_before fault)
      → DoesAct config old new entry_id e board log)
      → text.list ≡ reply_datagram config request.cookie.now request.body.now (Fault (undone_code fault))
      → ExecutesCommand config old new entry_id (record_as request pairs chosen (undone_answers (2 * pairs_demanded p.plan) fault)) (Some text) board log
  undone_carries config old new entry_id request pairs input chosen p (Port opened) text board log c heard plans early undoes bytes =
      ports_carries config old new entry_id request pairs input chosen p opened text board log c heard plans early undoes bytes
  undone_carries config old new entry_id request pairs input chosen p (Key drawn) text board log c heard plans early undoes bytes =
      keys_carries config old new entry_id request pairs input chosen p drawn text board log c heard plans early undoes bytes

  -- the board refuses it, or memory ran out
  refuses_case : (config : Config) (turns : Turns M (Part I O) Made T) (hand : Hand M (Part I O) Made T g) (entry_id : BoardEntryId) (request : Request) (pairs : Option Entries) (input : OfferIn) (chosen : List (Option CryptoLine))
      (fault : BoardFault) (code : Option ErrorCode) (done : CommandOutcome) (board : Board) (log : Option (List PortCall))
      → InTurn config turns hand entry_id board log → AsksForOffer config (board_history (made_by hand) entry_id.number) entry_id.moment request pairs input → OfferRead (ask_of_offer input chosen)
      → PlansOffer config (view_of config (board_history (made_by hand) entry_id.number)) input.call_id.list (ask_of_offer input chosen) (Err fault)
      → board_code fault ≡ code → RefusesRequest request.cookie.now request.body.now chosen code done
      → ExecutesCommand config hand hand entry_id (record_by request pairs done) done.reply board log
  refuses_case config turns hand entry_id request pairs input chosen fault None done board log turn c heard planned is refuses =
      is_short_carries config turns hand entry_id request pairs done board log turn c.anew refuses
  refuses_case config turns hand entry_id request pairs input chosen fault (Some code) done board log turn c heard planned is refuses =
      let h = board_history (made_by hand) entry_id.number in
      let id = input.call_id.list in
      let ask = ask_of_offer input chosen in
      let control = unanswered (record_as request pairs chosen Nothing) in
      tells_carries config turns hand entry_id request pairs chosen (with_reply config control (Fault code) (act.Failed code)) done board log turn c.anew (λ short. c.asking.reads)
      (offer_failed_due config h entry_id.moment control id ask code (asks_offer config h entry_id.moment request pairs input chosen Nothing c refl) refl
      (offer_fails config h control.given id ask fault code planned is)) refl refl
      (λ late. hears_offer config h entry_id.moment request pairs input chosen Nothing c heard) (refuses config)

  pub refuses_carries : (config : Config) (turns : Turns M (Part I O) Made T) (hand : Hand M (Part I O) Made T g) (entry_id : BoardEntryId) (request : Request) (pairs : Option Entries) (input : OfferIn) (chosen : List (Option CryptoLine))
      (fault : BoardFault) (done : CommandOutcome) (board : Board) (log : Option (List PortCall))
      → InTurn config turns hand entry_id board log → AsksForOffer config (board_history (made_by hand) entry_id.number) entry_id.moment request pairs input → OfferRead (ask_of_offer input chosen)
      → PlansOffer config (view_of config (board_history (made_by hand) entry_id.number)) input.call_id.list (ask_of_offer input chosen) (Err fault)
      → RefusesRequest request.cookie.now request.body.now chosen (board_code fault) done
      → ExecutesCommand config hand hand entry_id (record_by request pairs done) done.reply board log
  refuses_carries config turns hand entry_id request pairs input chosen fault done board log turn c heard planned refuses =
      refuses_case config turns hand entry_id request pairs input chosen fault (board_code fault) done board log turn c heard planned refl refuses

  -- its description has an error
  error_carries : (config : Config) (turns : Turns M (Part I O) Made T) (hand : Hand M (Part I O) Made T g) (entry_id : BoardEntryId) (request : Request) (pairs : Option Entries) (input : OfferIn) (chosen : List (Option CryptoLine))
      (code : ErrorCode) (done : CommandOutcome) (board : Board) (log : Option (List PortCall))
      → InTurn config turns hand entry_id board log → IsAnew (board_history (made_by hand) entry_id.number) entry_id.moment request → IsAsking request pairs (offer_says input)
      → sdp_error_for config input.options.family input.sdp.list ≡ Some code → Tells chosen (reply_datagram config request.cookie.now request.body.now (Fault code)) done
      → ExecutesCommand config hand hand entry_id (record_by request pairs done) done.reply board log
  error_carries config turns hand entry_id request pairs input chosen code done board log turn anew asking faulty tells =
      let h = board_history (made_by hand) entry_id.number in
      let control = unanswered (record_as request pairs chosen Nothing) in
      let is : asked config request.too_long pairs ≡ Err code =
      ap (λ (long : Bool). asked config long pairs) asking.short ∙ asks_misdescribed config false pairs (offer_says input) code asking.command faulty in
      tells_carries config turns hand entry_id request pairs chosen (with_reply config control (Fault code) (act.Failed code)) done board log turn anew (λ short. asking.reads)
      (failed_due config h entry_id.moment control code (record { nothing_kept = anew.not_kept; not_out_of_memory = refl; is_asked = is })) refl refl
      (λ late. subst (λ (r : Result Said ErrorCode). ReadsRequest h control r) (sym is) tt) tells

  pub misdescribed_carries : (config : Config) (turns : Turns M (Part I O) Made T) (hand : Hand M (Part I O) Made T g) (entry_id : BoardEntryId) (request : Request) (pairs : Option Entries) (input : OfferIn)
      (fault : DescriptionFault) (done : CommandOutcome) (board : Board) (log : Option (List PortCall))
      → InTurn config turns hand entry_id board log → IsAnew (board_history (made_by hand) entry_id.number) entry_id.moment request → IsAsking request pairs (offer_says input)
      → IsErrorOf (sdp_error_for config input.options.family input.sdp.list) fault → RefusesRequest request.cookie.now request.body.now [] (error_in fault) done
      → ExecutesCommand config hand hand entry_id (record_by request pairs done) done.reply board log
  misdescribed_carries config turns hand entry_id request pairs input (faults.Error code) done board log turn anew asking faulty refuses =
      error_carries config turns hand entry_id request pairs input [] code done board log turn anew asking faulty (refuses config)
  misdescribed_carries config turns hand entry_id request pairs input faults.OutOfMemory done board log turn anew asking faulty refuses =
      is_short_carries config turns hand entry_id request pairs done board log turn anew refuses
