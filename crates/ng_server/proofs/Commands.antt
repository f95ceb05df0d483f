-- Commands that owe nothing: those that fail before they are known, pings and lists.
use Rattle.std.proofs.Common.{◌≡◌, ◌<◌, ◌≤◌, ◌^◌, ◌∙◌, refl, sym, subst, ℕ, Bool, true, false, List, [], ◌∷◌, ◌++◌, map, length, length-append, Option, Ok, Err, ap, arith}
use Rattle.std.proofs.lemmas.Bool.Decides.{nat_tests}
use Rattle.std.specs.Prelude.{nat_lt, take, Result, IfOk}
use Rattle.relay_outside.specs.declared.ports.PortCall.{PortCall}
use Rattle.relay_outside.specs.declared.settings.Config.{Config}
use Rattle.turn_table.specs.declared.hands.Turns.{Turns}
use Rattle.turn_table.specs.declared.hands.Hand.{Hand}
use Rattle.ng_bencode.specs.Tree.{Entries}
use Rattle.ng_command.specs.Meanings as said
use Rattle.ng_command.specs.declared.command.Command.{Command}
use Rattle.ng_reply.specs.declared.code.ErrorCode.{ErrorCode}
use Rattle.sdes_lines.specs.declared.crypto_line.CryptoLine.{CryptoLine}
use Rattle.call_board.specs.declared.board.Board.{Board}
use Rattle.call_board.specs.Acts as act
use Rattle.call_board.specs.Acts.{Call, BoardEntry}
use Rattle.call_board.specs.Requests.{ReadsBody, command_in}
use Rattle.call_board.specs.Boards.{BoardMatches}
use Rattle.call_board.specs.Calls.{live}
use Rattle.call_board.specs.Fits.{ReadsRequest}
use Rattle.call_board.specs.Replies.{Fault, Pong, Listed, reply_datagram}
use Rattle.call_board.specs.Views.{View, CallView, call_view, view_of, view_at_moment}
use Rattle.call_board.proofs.Done.{with_reply, failed_due, ping_due, listed_due}
use Rattle.relay_core.specs.declared.part.Part.{Part}
use Rattle.relay_core.specs.Entries.{board_history}
use Rattle.relay_core.specs.Records.{Made}
use Rattle.relay_core.specs.Turns.{made_by}
use Rattle.board_turns.specs.declared.board_turn.BoardEntryId.{BoardEntryId}
use Rattle.board_turns.specs.Acts.{InTurn}
use Rattle.control_messages.specs.declared.request.Request.{Request}
use Rattle.control_messages.specs.Bodies.{said_by, description_in}
use Rattle.board_turns.specs.declared.device_answers.DeviceAnswers.TheVariants.{Nothing}
use Rattle.board_turns.specs.declared.command_outcome.CommandOutcome.{CommandOutcome}
use Rattle.board_turns.specs.Controls.{unanswered}
use Rattle.board_turns.specs.Commands.{record_as, record_by, ExecutesCommand}
use Rattle.board_turns.specs.PlainReplies.{IsAnew, IsAsking, Tells}
use Rattle.board_turns.proofs.Asking.{asks_so, asks_faulty}
use Rattle.board_turns.proofs.Tellings.{tells_carries}

not_below : (m n : ℕ) → nat_lt m n ≡ false → n ≤ m
not_below m n t = grind (arith, nat_tests)

-- the body of a datagram that isn't too long
body_short : (cookie body : List ℕ) (long : Bool) → long ≡ nat_lt 16384 (length (cookie ++ 32 ∷ body)) → long ≡ false → length body ≤ 16384
body_short cookie body long is short =
    let whole = length-append cookie (32 ∷ body) in
    let fits = not_below 16384 (length (cookie ++ 32 ∷ body)) (sym is ∙ short) in
    omega (arith, whole, fits)

-- a datagram whose command is known isn't too long
not_long : (long : Bool) (pairs : Option Entries) (says : said.Said) → command_in long pairs ≡ Ok says → long ≡ false
not_long true pairs says is = absurd cc
not_long false pairs says is = refl

pub is_asking : (request : Request) (pairs : Option Entries) (says : said.Said) → (request.too_long ≡ false → ReadsBody request.body.now pairs) → command_in request.too_long pairs ≡ Ok says
    → IsAsking request pairs says
is_asking request pairs says reads is =
    let short = not_long request.too_long pairs says is in
    record { short = short; reads = reads short; command = subst (λ (long : Bool). command_in long pairs ≡ Ok says) short is }

-- what it asks is told with its input
pub is_asking_with : {A : Type 0} (says : A → said.Said) (request given : Request) (input handed : A) (pairs : Option Entries) → given ≡ request → handed ≡ input
    → IsAsking request pairs (says input) → IsAsking given pairs (says handed)
is_asking_with says request given input handed pairs same alike asks =
    subst (λ (r : Request). IsAsking r pairs (says handed)) (sym same) (subst (λ a. IsAsking request pairs (says a)) (sym alike) asks)

-- its description is shorter than any that memory is had for
description_small : (request : Request) (command : Result Command ErrorCode) (says : said.Said) → length request.body.now ≤ 16384
    → IfOk command (λ (asks : Command). length (description_in (said.said asks)) ≤ length request.body.now) → said_by command ≡ Ok says → length (description_in says) < 2 ^ 31
description_small request (Ok asks) says short small is =
    let same : said.said asks ≡ says = cc in
    let fits = subst (λ (s : said.Said). length (description_in s) ≤ length request.body.now) same small in
    omega (arith, fits, short)
description_small request (Err code) says short small is = absurd cc

pub small_asked : (request : Request) (pairs : Option Entries) (command : Result Command ErrorCode) (says : said.Said)
    → request.too_long ≡ nat_lt 16384 (length (request.cookie.now ++ 32 ∷ request.body.now))
    → IfOk command (λ (asks : Command). length (description_in (said.said asks)) ≤ length request.body.now)
    → command_in request.too_long pairs ≡ said_by command → said_by command ≡ Ok says → length (description_in says) < 2 ^ 31
small_asked request pairs command says length_is small is asked =
    description_small request command says
    (body_short request.cookie.now request.body.now request.too_long length_is (not_long request.too_long pairs says (is ∙ asked))) small asked

-- the board keeps the call-ids of the live calls
call_ids : (h : List BoardEntry) (calls : List Call) → map (λ (c : CallView). c.of.id) (map (call_view h) calls) ≡ map (λ (c : Call). c.id) calls
call_ids h [] = refl
call_ids h (c ∷ calls) = ap (λ (ids : List (List ℕ)). c.id ∷ ids) (call_ids h calls)

module _ {M I O T : Type 0} {g : _} where
  -- the reply to a datagram that is too long, or whose dictionary or keys are faulty, is its error
  pub faulty_carries : (config : Config) (turns : Turns M (Part I O) Made T) (hand : Hand M (Part I O) Made T g) (entry_id : BoardEntryId) (request : Request) (pairs : Option Entries)
      (chosen : List (Option CryptoLine)) (code : ErrorCode) (done : CommandOutcome) (board : Board) (log : Option (List PortCall))
      → InTurn config turns hand entry_id board log → IsAnew (board_history (made_by hand) entry_id.number) entry_id.moment request
      → (request.too_long ≡ false → ReadsBody request.body.now pairs) → command_in request.too_long pairs ≡ Err code
      → Tells chosen (reply_datagram config request.cookie.now request.body.now (Fault code)) done
      → ExecutesCommand config hand hand entry_id (record_by request pairs done) done.reply board log
  faulty_carries config turns hand entry_id request pairs chosen code done board log turn anew reads is tells =
      let h = board_history (made_by hand) entry_id.number in
      let c = unanswered (record_as request pairs chosen Nothing) in
      let is_asked = asks_faulty config request.too_long pairs code is in
      tells_carries config turns hand entry_id request pairs chosen (with_reply config c (Fault code) (act.Failed code)) done board log turn anew reads
      (failed_due config h entry_id.moment c code (record { nothing_kept = anew.not_kept; not_out_of_memory = refl; is_asked = is_asked })) refl refl
      (λ heard. subst (λ r. ReadsRequest h c r) (sym is_asked) tt) tells

  -- the reply to a ping
  pub ping_carries : (config : Config) (turns : Turns M (Part I O) Made T) (hand : Hand M (Part I O) Made T g) (entry_id : BoardEntryId) (request : Request) (pairs : Option Entries)
      (chosen : List (Option CryptoLine)) (done : CommandOutcome) (board : Board) (log : Option (List PortCall))
      → InTurn config turns hand entry_id board log → IsAnew (board_history (made_by hand) entry_id.number) entry_id.moment request
      → (request.too_long ≡ false → ReadsBody request.body.now pairs) → command_in request.too_long pairs ≡ Ok said.Ping
      → Tells chosen (reply_datagram config request.cookie.now request.body.now Pong) done
      → ExecutesCommand config hand hand entry_id (record_by request pairs done) done.reply board log
  ping_carries config turns hand entry_id request pairs chosen done board log turn anew reads is tells =
      let h = board_history (made_by hand) entry_id.number in
      let c = unanswered (record_as request pairs chosen Nothing) in
      tells_carries config turns hand entry_id request pairs chosen (with_reply config c Pong act.Told) done board log turn anew reads
      (ping_due config h entry_id.moment c (record { nothing_kept = anew.not_kept; not_out_of_memory = refl; is_asked = asks_so config request.too_long pairs said.Ping is refl })) refl refl
      (λ heard. absurd (let k : false ≡ true = heard in cc)) tells

  -- the reply to a list
  pub list_carries : (config : Config) (turns : Turns M (Part I O) Made T) (hand : Hand M (Part I O) Made T g) (entry_id : BoardEntryId) (request : Request) (pairs : Option Entries)
      (limit : ℕ) (done : CommandOutcome) (board : Board) (log : Option (List PortCall))
      → InTurn config turns hand entry_id board log → IsAnew (board_history (made_by hand) entry_id.number) entry_id.moment request
      → (request.too_long ≡ false → ReadsBody request.body.now pairs) → command_in request.too_long pairs ≡ Ok (said.Listing limit)
      → ((config : Config) (v : View) → BoardMatches config board v → Tells [] (reply_datagram config request.cookie.now request.body.now (Listed (take limit (map (λ (c : CallView). c.of.id) v.calls)))) done)
      → ExecutesCommand config hand hand entry_id (record_by request pairs done) done.reply board log
  list_carries config turns hand entry_id request pairs limit done board log turn anew reads is tells =
      let h = board_history (made_by hand) entry_id.number in
      let c = unanswered (record_as request pairs [] Nothing) in
      let ids : List (List ℕ) = take limit (map (λ (call : Call). call.id) (live h)) in
      tells_carries config turns hand entry_id request pairs [] (with_reply config c (Listed ids) act.Told) done board log turn anew reads
      (listed_due config h entry_id.moment c limit (record { nothing_kept = anew.not_kept; not_out_of_memory = refl; is_asked = asks_so config request.too_long pairs (said.Listing limit) is refl })) refl refl
      (λ heard. absurd (let k : false ≡ true = heard in cc))
      (subst (λ (names : List (List ℕ)). Tells [] (reply_datagram config request.cookie.now request.body.now (Listed (take limit names))) done) (call_ids h (live h))
      (tells config (view_at_moment (view_of config h) entry_id.moment) turn.shows))
