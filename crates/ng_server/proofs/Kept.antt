-- What the turn of a datagram makes, when its reply is kept.
use Rattle.std.proofs.Common.{◌≡◌, ◌≤◌, refl, sym, ◌∙◌, ap, subst, ℕ, true, false, List, ◌∷◌, Option, Some, None}
use Rattle.relay_outside.specs.declared.address.Addr.{Addr}
use Rattle.relay_outside.specs.declared.ports.PortCall.{PortCall}
use Rattle.relay_outside.specs.declared.settings.Config.{Config}
use Rattle.turn_table.specs.declared.hands.Turns.{Turns}
use Rattle.turn_table.specs.declared.hands.Hand.{Hand}
use Rattle.ng_bencode.specs.Room.{Room}
use Rattle.ng_bencode.specs.Tree.{Entries}
use Rattle.ng_reply.specs.declared.code.ErrorCode.TheVariants.{E17}
use Rattle.sdes_lines.specs.declared.crypto_line.CryptoLine.{CryptoLine}
use Rattle.control_messages.specs.Bodies.{pairs_if}
use Rattle.control_messages.proofs.Datagrams.{fault_is}
use Rattle.cookie_cache.specs.Keepings.{moment_used}
use Rattle.cookie_cache.specs.Keepings as cache
use Rattle.call_board.specs.declared.board.Board.{Board}
use Rattle.call_board.specs.Acts as act
use Rattle.call_board.specs.Acts.{Act, Control, Turn, BoardEntry}
use Rattle.call_board.specs.Answers.{Answered}
use Rattle.call_board.specs.Boards.{BoardMatches, BoardFor}
use Rattle.call_board.specs.Fits.{FitsControl}
use Rattle.call_board.specs.KeptReplies.{is_kept, kept_reply, keepings}
use Rattle.call_board.specs.Pairs.{held}
use Rattle.call_board.specs.Replies.{fault_datagram}
use Rattle.call_board.specs.Shapes.{BoardShape, board_shape}
use Rattle.call_board.specs.Views.{View, view_of, view_at_moment, board_last_moment, with_keeping}
use Rattle.call_board.specs.Whole.{with_reply, view_after, after_act}
use Rattle.call_board.proofs.Done.{IsDue, due_fits, repeated_due, out_of_memory_due}
use Rattle.call_board.proofs.Entries.{whole, used_now}
use Rattle.relay_core.specs.declared.part.Part.{Part}
use Rattle.relay_core.specs.Entries.{board_history}
use Rattle.relay_core.specs.KeptAfter.{IsWholeWith}
use Rattle.relay_core.specs.Records.{Made}
use Rattle.relay_core.specs.Scripts.{script}
use Rattle.relay_core.specs.Turns.{GainsNested, made_by}
use Rattle.relay_core.proofs.Histories.{good_history}
use Rattle.media_ports.specs.OpenPorts.{LogsHeld}
use Rattle.board_turns.specs.declared.board_turn.BoardEntryId.{BoardEntryId}
use Rattle.board_turns.specs.CallEnds.{leg_pairs}
use Rattle.board_turns.specs.Acts.{acted, InTurn}
use Rattle.control_messages.specs.declared.request.Request.{Request}
use Rattle.ng_server.specs.declared.turn_record.TurnRecord.{TurnRecord}
use Rattle.board_turns.specs.Controls.{RequestRecord, unanswered, with_answer, entry_with, entry_at, control_of}
use Rattle.board_turns.specs.declared.device_answers.DeviceAnswers.{DeviceAnswers}
use Rattle.board_turns.specs.declared.device_answers.DeviceAnswers.TheVariants.{Nothing, OutOfMemory}
use Rattle.board_turns.specs.Commands.{IsReplyOf, ExecutesCommand, record_as}
use Rattle.board_turns.specs.PlainReplies.{IsAnew}
use Rattle.board_turns.proofs.Tellings.{short_carries}
use Rattle.ng_server.specs.Requests.{AnswersRequest, datagram_to_send, record_of, with_kept}
use Rattle.ng_server.specs.Datagrams.{IsRequest}
use Rattle.board_turns.proofs.Plain.{is_plain, does_nothing}

-- the turn of an act whose reply is kept is the act, and then the keeping
after_kept : (h : List BoardEntry) (e : BoardEntry) (c : Control) (a : Act) (v : View) → is_kept a ≡ true → after_act h e c a v ≡ with_reply e.moment c (acted h e a v)
after_kept h e c act.Repeated v t = absurd (let k : false ≡ true = t in cc)
after_kept h e c act.OutOfMemory v t = absurd (let k : false ≡ true = t in cc)
after_kept h e c (act.Failed code) v t = refl
after_kept h e c (act.Undone code leases draws) v t = refl
after_kept h e c (act.Offered o) v t = refl
after_kept h e c (act.Answered a) v t = refl
after_kept h e c (act.Deleted of) v t = refl
after_kept h e c (act.Queried of) v t = refl
after_kept h e c act.Told v t = refl
after_kept h e c (act.Delayed of s) v t = refl

-- the turn of a repeat, and of one that ran out of memory, leaves all as it was
after_unkept : (h : List BoardEntry) (e : BoardEntry) (c : Control) (a : Act) (v : View) → is_plain a ≡ true → is_kept a ≡ false → after_act h e c a v ≡ v
after_unkept h e c act.Repeated v t k = refl
after_unkept h e c act.OutOfMemory v t k = refl
after_unkept h e c (act.Failed code) v t k = absurd (let f : true ≡ false = k in cc)
after_unkept h e c (act.Undone code leases draws) v t k = absurd (let f : true ≡ false = k in cc)
after_unkept h e c (act.Offered o) v t k = absurd (let f : true ≡ false = k in cc)
after_unkept h e c (act.Answered a) v t k = absurd (let f : true ≡ false = k in cc)
after_unkept h e c (act.Deleted of) v t k = absurd (let f : true ≡ false = k in cc)
after_unkept h e c (act.Queried of) v t k = absurd (let f : true ≡ false = k in cc)
after_unkept h e c act.Told v t k = absurd (let f : true ≡ false = k in cc)
after_unkept h e c (act.Delayed of s) v t k = absurd (let f : true ≡ false = k in cc)

reply_case : (config : Config) (h : List BoardEntry) (e : BoardEntry) (c : Control) (request : Request) (reply : Option (Room ℕ)) (v : View) (board : Board)
    → c.source ≡ request.source → c.cookie ≡ request.cookie.now → IsReplyOf c reply
    → BoardMatches config board (with_kept request e.moment reply (acted h e c.act v)) → BoardMatches config board (after_act h e c c.act v)
reply_case config h e c request None v board source cookie is shows =
    subst (λ (a : Act). BoardMatches config board (acted h e a v) → BoardMatches config board (after_act h e c a v)) (sym is.0) (λ s. s) shows
reply_case config h e c request (Some text) v board source cookie is shows =
    subst (λ (w : View). BoardMatches config board w) (sym (after_kept h e c c.act v is.0))
    (subst (λ (bytes : List ℕ). BoardMatches config board (with_keeping (acted h e c.act v) (record { source = c.source; cookie = c.cookie; reply = bytes; moment = moment_used (acted h e c.act v).keepings e.moment }))) is.1
    (subst (λ (k : List ℕ). BoardMatches config board (with_keeping (acted h e c.act v) (record { source = c.source; cookie = k; reply = text.list; moment = moment_used (acted h e c.act v).keepings e.moment }))) (sym cookie)
    (subst (λ (s : Addr). BoardMatches config board (with_keeping (acted h e c.act v) (record { source = s; cookie = request.cookie.now; reply = text.list; moment = moment_used (acted h e c.act v).keepings e.moment }))) (sym source) shows)))

module _ {M I O T : Type 0} {g : _} where
  -- a board that shows as much stands in the turn as well
  pub turn_keeps : (config : Config) (turns : Turns M (Part I O) Made T) (hand : Hand M (Part I O) Made T g) (entry_id : BoardEntryId) (was board : Board) (log : Option (List PortCall))
      → ((config : Config) (v : View) → BoardMatches config was v → BoardMatches config board v) → board_shape board ≡ board_shape was
      → InTurn config turns hand entry_id was log → InTurn config turns hand entry_id board log
  turn_keeps config turns hand entry_id was board log keeps same turn = record {
    may = turn.may;
    above = turn.above;
    low = turn.low;
    orderly = turn.orderly;
    timely = turn.timely;
    shows = keeps config (view_at_moment (view_of config (board_history (made_by hand) entry_id.number)) entry_id.moment) turn.shows;
    opens = turn.opens;
    whole = subst (λ (shape : BoardShape). IsWholeWith config hand shape) (sym same) turn.whole;
  }

  -- what the board keeps after the entry
  keeps_entry : (config : Config) (turns : Turns M (Part I O) Made T) (old : Hand M (Part I O) Made T g) (entry_id : BoardEntryId) (x : RequestRecord) (was board : Board) (log : Option (List PortCall))
      → (turn : InTurn config turns old entry_id was log)
      → FitsControl config (board_history (made_by old) entry_id.number) entry_id.moment (control_of config (board_history (made_by old) entry_id.number) entry_id.moment x)
      → BoardMatches config board (view_after (board_history (made_by old) entry_id.number) (entry_at config (board_history (made_by old) entry_id.number) entry_id.moment x)
      (view_of config (board_history (made_by old) entry_id.number)))
      → BoardFor config board (entry_at config (board_history (made_by old) entry_id.number) entry_id.moment x ∷ board_history (made_by old) entry_id.number)
  keeps_entry config turns old entry_id x was board log turn fits shows =
      let h = board_history (made_by old) entry_id.number in
      subst (λ (v : View). BoardMatches config board v)
      (sym (whole config h (entry_at config h entry_id.moment x) (good_history config (made_by old) turn.orderly entry_id.number) fits turn.timely)) shows

  -- a command was carried out, and its reply kept
  pub deals_kept : (config : Config) (turns : Turns M (Part I O) Made T) (old new : Hand M (Part I O) Made T g) (entry_id : BoardEntryId) (request : Request) (turn_record : TurnRecord) (reply : Option (Room ℕ))
      (was done board : Board) (before log : Option (List PortCall)) → InTurn config turns old entry_id was before
      → ExecutesCommand config old new entry_id (record_of request turn_record) reply done log
      → ((config : Config) (v : View) → BoardMatches config done v → BoardMatches config board (with_kept request entry_id.moment reply v))
      → AnswersRequest config old new entry_id (record_of request turn_record) board log
  deals_kept config turns old new entry_id request turn_record reply was done board before log turn carries keeps =
      let h = board_history (made_by old) entry_id.number in
      let x = record_of request turn_record in
      let e = entry_at config h entry_id.moment x in
      let c = control_of config h entry_id.moment x in
      let v = view_at_moment (view_of config h) entry_id.moment in
      record {
        fits = carries.fits;
        gained = carries.does.gained;
        stands = keeps_entry config turns old entry_id x was board before turn carries.fits
            (reply_case config h e c request reply v board refl refl carries.replies (keeps config (acted h e c.act v) carries.does.shows));
        opens = carries.does.opens;
      }

  -- with this answer, in place of the one that is due
  record DealsAs (config : Config) (old new : Hand M (Part I O) Made T g) (entry_id : BoardEntryId) (x : RequestRecord) (a : Answered) (board : Board) (log : Option (List PortCall)) : Type 0 where
    fits : FitsControl config (board_history (made_by old) entry_id.number) entry_id.moment (with_answer x a)
    gained : GainsNested entry_id.number entry_id.moment (script config (board_history (made_by old) entry_id.number) (entry_with entry_id.moment x a)) old new
    stands : BoardFor config board (entry_with entry_id.moment x a ∷ board_history (made_by old) entry_id.number)
    opens : LogsHeld config log (leg_pairs (held (entry_with entry_id.moment x a ∷ board_history (made_by old) entry_id.number)))

  -- nothing was done, and nothing is kept
  pub deals_nothing : (config : Config) (turns : Turns M (Part I O) Made T) (hand : Hand M (Part I O) Made T g) (entry_id : BoardEntryId) (x : RequestRecord) (due : Answered) (was board : Board)
      (log : Option (List PortCall)) → InTurn config turns hand entry_id was log
      → IsDue config (board_history (made_by hand) entry_id.number) entry_id.moment (unanswered x) due
      → FitsControl config (board_history (made_by hand) entry_id.number) entry_id.moment (with_answer x due)
      → x.given.report ≡ None → is_plain due.act ≡ true → is_kept due.act ≡ false
      → BoardMatches config board (view_at_moment (view_of config (board_history (made_by hand) entry_id.number)) entry_id.moment)
      → AnswersRequest config hand hand entry_id x board log
  deals_nothing config turns hand entry_id x due was board log turn is fits none plain unkept shows =
      let h = board_history (made_by hand) entry_id.number in
      let e = entry_with entry_id.moment x due in
      let v = view_at_moment (view_of config h) entry_id.moment in
      let does = does_nothing config turns hand entry_id x due board log shows turn.opens none plain in
      let as_due : DealsAs config hand hand entry_id x due board log = record {
        fits = fits;
        gained = does.gained;
        stands = subst (λ (w : View). BoardMatches config board w)
            (sym (whole config h e (good_history config (made_by hand) turn.orderly entry_id.number) fits turn.timely ∙ after_unkept h e (with_answer x due) due.act v plain unkept)) shows;
        opens = does.opens;
      } in
      let d = subst (λ (a : Answered). DealsAs config hand hand entry_id x a board log) (sym is) as_due in
      record { fits = d.fits; gained = d.gained; stands = d.stands; opens = d.opens }

  -- a reply is kept: it is given again, and nothing is done
  repeat_deals : (config : Config) (turns : Turns M (Part I O) Made T) (hand : Hand M (Part I O) Made T g) (entry_id : BoardEntryId) (request : Request) (pairs : Option Entries)
      (chosen : List (Option CryptoLine)) (bytes : List ℕ) (board : Board) (log : Option (List PortCall)) → InTurn config turns hand entry_id board log → IsRequest request
      → kept_reply (board_history (made_by hand) entry_id.number) request.source request.cookie.now entry_id.moment ≡ Some bytes
      → AnswersRequest config hand hand entry_id (record_as request pairs chosen Nothing) board log
  repeat_deals config turns hand entry_id request pairs chosen bytes board log turn is kept_is =
      let h = board_history (made_by hand) entry_id.number in
      let x = record_as request pairs chosen Nothing in
      let c = unanswered x in
      let due : Answered = record { bytes = bytes; act = act.Repeated } in
      let is_due = repeated_due config h entry_id.moment c bytes kept_is in
      deals_nothing config turns hand entry_id x due board board log turn is_due
      (due_fits config h entry_id.moment c due is_due is.framed is.length_is (λ read. absurd (let k : false ≡ true = read in cc))
      (λ heard. absurd (let k : false ≡ true = heard in cc)) (record { no_opens = refl; no_draws = refl; none_failed = refl }, refl, refl) (λ s t. refl))
      refl refl refl turn.shows

  -- the same, of a record that says that no device was called
  pub repeated_deals : (config : Config) (turns : Turns M (Part I O) Made T) (hand : Hand M (Part I O) Made T g) (entry_id : BoardEntryId) (request : Request) (turn_record : TurnRecord)
      (bytes : List ℕ) (board : Board) (log : Option (List PortCall)) → InTurn config turns hand entry_id board log → IsRequest request
      → kept_reply (board_history (made_by hand) entry_id.number) request.source request.cookie.now entry_id.moment ≡ Some bytes → turn_record.device_answers ≡ Nothing
      → AnswersRequest config hand hand entry_id (record_of request turn_record) board log
  repeated_deals config turns hand entry_id request turn_record bytes board log turn is kept_is uncalled =
      let pairs = pairs_if turn_record.dictionary in
      subst (λ (given : DeviceAnswers). AnswersRequest config hand hand entry_id (record_as request pairs turn_record.chosen_lines given) board log) (sym uncalled)
      (repeat_deals config turns hand entry_id request pairs turn_record.chosen_lines bytes board log turn is kept_is)

  -- memory ran out before anything was done
  pub short_deals : (config : Config) (turns : Turns M (Part I O) Made T) (hand : Hand M (Part I O) Made T g) (entry_id : BoardEntryId) (request : Request) (turn_record : TurnRecord) (was board : Board)
      (log : Option (List PortCall)) → InTurn config turns hand entry_id was log → IsAnew (board_history (made_by hand) entry_id.number) entry_id.moment request
      → ((config : Config) (v : View) → BoardMatches config was v → BoardMatches config board v) → turn_record.device_answers ≡ OutOfMemory
      → AnswersRequest config hand hand entry_id (record_of request turn_record) board log
  short_deals config turns hand entry_id request turn_record was board log turn anew keeps device_answers =
      deals_kept config turns hand hand entry_id request turn_record None was was board log log turn
      (short_carries config turns hand entry_id request (pairs_if turn_record.dictionary) turn_record.chosen_lines turn_record.device_answers was log turn anew device_answers) keeps

-- the reply that was made is the one that is due
pub datagram_is : (c : Control) (reply : Option (Room ℕ)) → IsReplyOf c reply → datagram_to_send c.cookie c.body reply ≡ c.reply
datagram_is c None is = sym is.1
datagram_is c (Some text) is = is.1

-- where memory ran out, the reply says so
pub short_reply : (config : Config) (h : List BoardEntry) (moment : ℕ) (request : Request) (pairs : Option Entries) (chosen : List (Option CryptoLine)) (device_answers : DeviceAnswers)
    → kept_reply h request.source request.cookie.now moment ≡ None → device_answers ≡ OutOfMemory
    → (control_of config h moment (record_as request pairs chosen device_answers)).reply ≡ fault_datagram request.cookie.now request.body.now E17
short_reply config h moment request pairs chosen device_answers none is =
    ap (λ (given : DeviceAnswers). (control_of config h moment (record_as request pairs chosen given)).reply) is
    ∙ ap (λ (a : Answered). a.bytes) (out_of_memory_due config h moment (unanswered (record_as request pairs chosen OutOfMemory)) none refl)
    ∙ sym (fault_is config request.cookie.now request.body.now E17)

-- a kept reply is the reply
repeat_reply : (config : Config) (h : List BoardEntry) (moment : ℕ) (request : Request) (pairs : Option Entries) (chosen : List (Option CryptoLine)) (bytes : List ℕ)
    → kept_reply h request.source request.cookie.now moment ≡ Some bytes
    → (control_of config h moment (record_as request pairs chosen Nothing)).reply ≡ bytes
repeat_reply config h moment request pairs chosen bytes is =
    ap (λ (a : Answered). a.bytes) (repeated_due config h moment (unanswered (record_as request pairs chosen Nothing)) bytes is)

-- the same, where no device was called
pub repeated_reply : (config : Config) (h : List BoardEntry) (moment : ℕ) (request : Request) (pairs : Option Entries) (chosen : List (Option CryptoLine)) (device_answers : DeviceAnswers)
    (bytes : List ℕ) → kept_reply h request.source request.cookie.now moment ≡ Some bytes → device_answers ≡ Nothing
    → (control_of config h moment (record_as request pairs chosen device_answers)).reply ≡ bytes
repeated_reply config h moment request pairs chosen device_answers bytes kept_is uncalled =
    ap (λ (given : DeviceAnswers). (control_of config h moment (record_as request pairs chosen given)).reply) uncalled
    ∙ repeat_reply config h moment request pairs chosen bytes kept_is

-- what the board finds is the reply that is kept
pub is_kept_now : (h : List BoardEntry) (moment : ℕ) (source : Addr) (cookie : List ℕ) (o : Option (List ℕ)) → board_last_moment h ≤ moment
    → cache.kept (keepings h) source cookie (moment_used (keepings h) moment) ≡ o → kept_reply h source cookie moment ≡ o
is_kept_now h moment source cookie o late is = ap (λ (m : ℕ). cache.kept (keepings h) source cookie m) (sym (used_now h moment late)) ∙ is

-- a request for which the board finds no reply
pub anew : (config : Config) (h : List BoardEntry) (moment : ℕ) (request : Request) (board : Board) → board_last_moment h ≤ moment → BoardMatches config board (view_at_moment (view_of config h) moment)
    → IsRequest request
    → ((config : Config) (v : View) → BoardMatches config board v → cache.kept v.keepings request.source request.cookie.now (moment_used v.keepings moment) ≡ None)
    → IsAnew h moment request
anew config h moment request board late shows is finds = record {
  cookie = is.cookie;
  framed = is.framed;
  length_is = is.length_is;
  not_kept = is_kept_now h moment request.source request.cookie.now None late (finds config (view_at_moment (view_of config h) moment) shows);
}
