-- Commands that change nothing but the reply that is kept: that their turn does what is due.
use Rattle.std.proofs.Common.{◌≡◌, refl, sym, subst, ℕ, Bool, true, false, not, List, Option, Some, None}
use Rattle.std.specs.Prelude.{◌&&◌}
use Rattle.relay_outside.specs.declared.ports.PortCall.{PortCall}
use Rattle.relay_outside.specs.declared.settings.Config.{Config}
use Rattle.turn_table.specs.declared.hands.Turns.{Turns}
use Rattle.turn_table.specs.declared.hands.Hand.{Hand}
use Rattle.ng_bencode.specs.Room.{Room}
use Rattle.ng_bencode.specs.Tree.{Entries}
use Rattle.ng_reply.specs.declared.code.ErrorCode.TheVariants.{E17}
use Rattle.sdes_lines.specs.declared.crypto_line.CryptoLine.{CryptoLine}
use Rattle.offer_answer.specs.Rounds.{Demand}
use Rattle.call_board.specs.declared.board.Board.{Board}
use Rattle.call_board.specs.Acts as act
use Rattle.call_board.specs.Acts.{Act, Given, Control, BoardEntry}
use Rattle.call_board.specs.Answers.{Answered}
use Rattle.call_board.specs.Requests.{ReadsBody, asked}
use Rattle.call_board.specs.Fits.{GivesNothing, GivesFor, ReadsRequest, is_request_read, is_repeat, demanded}
use Rattle.call_board.specs.KeptReplies.{is_kept}
use Rattle.call_board.specs.Replies.{Fault}
use Rattle.call_board.proofs.Done.{IsDue, with_reply, due_fits, out_of_memory_due}
use Rattle.control_messages.proofs.Datagrams.{fault_is}
use Rattle.relay_core.specs.declared.part.Part.{Part}
use Rattle.relay_core.specs.Entries.{board_history}
use Rattle.relay_core.specs.Records.{Made}
use Rattle.relay_core.specs.Turns.{made_by}
use Rattle.board_turns.specs.declared.board_turn.BoardEntryId.{BoardEntryId}
use Rattle.board_turns.specs.Acts.{InTurn}
use Rattle.control_messages.specs.declared.request.Request.{Request}
use Rattle.board_turns.specs.declared.device_answers.DeviceAnswers.{DeviceAnswers}
use Rattle.board_turns.specs.declared.device_answers.DeviceAnswers.TheVariants.{Nothing, OutOfMemory}
use Rattle.board_turns.specs.declared.command_outcome.CommandOutcome.{CommandOutcome}
use Rattle.board_turns.specs.Controls.{unanswered}
use Rattle.board_turns.specs.DeviceAnswers.{given_by}
use Rattle.board_turns.specs.Commands.{record_as, record_by, ExecutesCommand}
use Rattle.board_turns.specs.PlainReplies.{IsAnew, RanOutOfMemory, Tells, TellsBy}
use Rattle.board_turns.proofs.Plain.{is_plain, carries_due, does_nothing}

-- a datagram that is read is short enough
read_short : (a long b : Bool) → ((a && not long) && b) ≡ true → long ≡ false
read_short a false b t = refl
read_short true true b t = absurd (let k : false ≡ true = t in cc)
read_short false true b t = absurd (let k : false ≡ true = t in cc)

-- where memory ran out, it was not read
not_read : (a b : Bool) → ((a && b) && false) ≡ true → ⊥
not_read true true t = let k : false ≡ true = t in cc
not_read true false t = let k : false ≡ true = t in cc
not_read false b t = let k : false ≡ true = t in cc

pub gives_plain : (d : Demand) (given : Given) (a : Act) → is_plain a ≡ true → GivesNothing given → given.report ≡ None → given.out_of_memory ≡ false → GivesFor d given a
gives_plain d given act.Repeated t nothing none fed = (nothing, none, fed)
gives_plain d given act.OutOfMemory t nothing none fed = nothing
gives_plain d given (act.Failed code) t nothing none fed = (nothing, none)
gives_plain d given act.Told t nothing none fed = (nothing, none)
gives_plain d given (act.Delayed of seconds) t nothing none fed = absurd (let k : false ≡ true = t in cc)
gives_plain d given (act.Undone code leases draws) t nothing none fed = absurd (let k : false ≡ true = t in cc)
gives_plain d given (act.Offered o) t nothing none fed = absurd (let k : false ≡ true = t in cc)
gives_plain d given (act.Answered a) t nothing none fed = absurd (let k : false ≡ true = t in cc)
gives_plain d given (act.Deleted of) t nothing none fed = absurd (let k : false ≡ true = t in cc)
gives_plain d given (act.Queried of) t nothing none fed = absurd (let k : false ≡ true = t in cc)

module _ {M I O T : Type 0} {g : _} where
  out_of_memory_carries : (config : Config) (turns : Turns M (Part I O) Made T) (hand : Hand M (Part I O) Made T g) (entry_id : BoardEntryId) (request : Request) (pairs : Option Entries)
      (chosen : List (Option CryptoLine)) (board : Board) (log : Option (List PortCall))
      → InTurn config turns hand entry_id board log → IsAnew (board_history (made_by hand) entry_id.number) entry_id.moment request
      → ExecutesCommand config hand hand entry_id (record_as request pairs chosen OutOfMemory) None board log
  out_of_memory_carries config turns hand entry_id request pairs chosen board log turn anew =
      let h = board_history (made_by hand) entry_id.number in
      let x = record_as request pairs chosen OutOfMemory in
      let c = unanswered x in
      let due = with_reply config c (Fault E17) act.OutOfMemory in
      let is = out_of_memory_due config h entry_id.moment c anew.not_kept refl in
      carries_due config hand hand entry_id x due None board log is
      (due_fits config h entry_id.moment c due is anew.framed anew.length_is
      (λ read. absurd (not_read true (not request.too_long) read)) (λ heard. absurd (let k : false ≡ true = heard in cc))
      (record { no_opens = refl; no_draws = refl; none_failed = refl }) (λ s t. refl))
      (does_nothing config turns hand entry_id x due board log turn.shows turn.opens refl refl) (refl, sym (fault_is config request.cookie.now request.body.now E17))

  -- memory ran out
  pub short_carries : (config : Config) (turns : Turns M (Part I O) Made T) (hand : Hand M (Part I O) Made T g) (entry_id : BoardEntryId) (request : Request) (pairs : Option Entries)
      (chosen : List (Option CryptoLine)) (device_answers : DeviceAnswers) (board : Board) (log : Option (List PortCall))
      → InTurn config turns hand entry_id board log → IsAnew (board_history (made_by hand) entry_id.number) entry_id.moment request → device_answers ≡ OutOfMemory
      → ExecutesCommand config hand hand entry_id (record_as request pairs chosen device_answers) None board log
  short_carries config turns hand entry_id request pairs chosen device_answers board log turn anew is =
      subst (λ (given : DeviceAnswers). ExecutesCommand config hand hand entry_id (record_as request pairs chosen given) None board log) (sym is)
      (out_of_memory_carries config turns hand entry_id request pairs chosen board log turn anew)

  -- the same of a command that was carried out so
  pub is_short_carries : (config : Config) (turns : Turns M (Part I O) Made T) (hand : Hand M (Part I O) Made T g) (entry_id : BoardEntryId) (request : Request) (pairs : Option Entries)
      (done : CommandOutcome) (board : Board) (log : Option (List PortCall))
      → InTurn config turns hand entry_id board log → IsAnew (board_history (made_by hand) entry_id.number) entry_id.moment request → RanOutOfMemory done
      → ExecutesCommand config hand hand entry_id (record_by request pairs done) done.reply board log
  is_short_carries config turns hand entry_id request pairs done board log turn anew short =
      subst (λ (reply : Option (Room ℕ)). ExecutesCommand config hand hand entry_id (record_by request pairs done) reply board log) (sym short.without)
      (short_carries config turns hand entry_id request pairs done.chosen_lines done.device_answers board log turn anew short.answers_are)

  plain_carries : (config : Config) (turns : Turns M (Part I O) Made T) (hand : Hand M (Part I O) Made T g) (entry_id : BoardEntryId) (request : Request) (pairs : Option Entries)
      (chosen : List (Option CryptoLine)) (due : Answered) (text : Room ℕ) (board : Board) (log : Option (List PortCall))
      → InTurn config turns hand entry_id board log → IsAnew (board_history (made_by hand) entry_id.number) entry_id.moment request
      → (request.too_long ≡ false → ReadsBody request.body.now pairs)
      → IsDue config (board_history (made_by hand) entry_id.number) entry_id.moment (unanswered (record_as request pairs chosen Nothing)) due
      → is_plain due.act ≡ true → is_kept due.act ≡ true
      → (is_request_read due.act ≡ true → ReadsRequest (board_history (made_by hand) entry_id.number) (unanswered (record_as request pairs chosen Nothing)) (asked config request.too_long pairs))
      → text.list ≡ due.bytes
      → ExecutesCommand config hand hand entry_id (record_as request pairs chosen Nothing) (Some text) board log
  plain_carries config turns hand entry_id request pairs chosen due text board log turn anew reads is plain kept hears bytes =
      let h = board_history (made_by hand) entry_id.number in
      let x = record_as request pairs chosen Nothing in
      let c = unanswered x in
      carries_due config hand hand entry_id x due (Some text) board log is
      (due_fits config h entry_id.moment c due is anew.framed anew.length_is
      (λ read. reads (read_short (not (is_repeat due.act)) request.too_long true read)) hears
      (gives_plain (demanded config h c) (given_by Nothing) due.act plain (record { no_opens = refl; no_draws = refl; none_failed = refl }) refl refl) (λ s t. refl))
      (does_nothing config turns hand entry_id x due board log turn.shows turn.opens refl plain) (kept, bytes)

  tells_case : (config : Config) (turns : Turns M (Part I O) Made T) (hand : Hand M (Part I O) Made T g) (entry_id : BoardEntryId) (request : Request) (pairs : Option Entries)
      (chosen : List (Option CryptoLine)) (due : Answered) (done : CommandOutcome) (reply : Option (Room ℕ)) (board : Board) (log : Option (List PortCall))
      → InTurn config turns hand entry_id board log → IsAnew (board_history (made_by hand) entry_id.number) entry_id.moment request
      → (request.too_long ≡ false → ReadsBody request.body.now pairs)
      → IsDue config (board_history (made_by hand) entry_id.number) entry_id.moment (unanswered (record_as request pairs chosen Nothing)) due
      → is_plain due.act ≡ true → is_kept due.act ≡ true
      → (is_request_read due.act ≡ true → ReadsRequest (board_history (made_by hand) entry_id.number) (unanswered (record_as request pairs chosen Nothing)) (asked config request.too_long pairs))
      → TellsBy chosen due.bytes done reply
      → ExecutesCommand config hand hand entry_id (record_by request pairs done) reply board log
  tells_case config turns hand entry_id request pairs chosen due done None board log turn anew reads is plain kept hears tells =
      short_carries config turns hand entry_id request pairs done.chosen_lines done.device_answers board log turn anew tells
  tells_case config turns hand entry_id request pairs chosen due done (Some text) board log turn anew reads is plain kept hears tells =
      subst (λ (lines : List (Option CryptoLine)). ExecutesCommand config hand hand entry_id (record_as request pairs lines done.device_answers) (Some text) board log) (sym tells.0)
      (subst (λ (device_answers : DeviceAnswers). ExecutesCommand config hand hand entry_id (record_as request pairs chosen device_answers) (Some text) board log) (sym tells.1)
      (plain_carries config turns hand entry_id request pairs chosen due text board log turn anew reads is plain kept hears tells.2))

  -- A command that changes nothing got the reply that is due, where these crypto lines were chosen in its description, or memory
  -- ran out.
  pub tells_carries : (config : Config) (turns : Turns M (Part I O) Made T) (hand : Hand M (Part I O) Made T g) (entry_id : BoardEntryId) (request : Request) (pairs : Option Entries)
      (chosen : List (Option CryptoLine)) (due : Answered) (done : CommandOutcome) (board : Board) (log : Option (List PortCall))
      → InTurn config turns hand entry_id board log → IsAnew (board_history (made_by hand) entry_id.number) entry_id.moment request
      → (request.too_long ≡ false → ReadsBody request.body.now pairs)
      → IsDue config (board_history (made_by hand) entry_id.number) entry_id.moment (unanswered (record_as request pairs chosen Nothing)) due
      → is_plain due.act ≡ true → is_kept due.act ≡ true
      → (is_request_read due.act ≡ true → ReadsRequest (board_history (made_by hand) entry_id.number) (unanswered (record_as request pairs chosen Nothing)) (asked config request.too_long pairs))
      → Tells chosen due.bytes done
      → ExecutesCommand config hand hand entry_id (record_by request pairs done) done.reply board log
  tells_carries config turns hand entry_id request pairs chosen due done board log turn anew reads is plain kept hears tells =
      tells_case config turns hand entry_id request pairs chosen due done done.reply board log turn anew reads is plain kept hears tells
