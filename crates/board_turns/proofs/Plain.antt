-- A command that owes nothing and changes nothing but the reply that is kept.
use Rattle.std.proofs.Common.{◌≡◌, refl, sym, ◌∙◌, ap, subst, ℕ, Bool, true, false, List, [], ◌∷◌, Option, Some, None, Result, Ok, Err}
use Rattle.relay_outside.specs.declared.ports.PortCall.{PortCall}
use Rattle.relay_outside.specs.declared.settings.Config.{Config}
use Rattle.turn_table.specs.declared.hands.Turns.{Turns}
use Rattle.turn_table.specs.declared.hands.Hand.{Hand}
use Rattle.ng_bencode.specs.Room.{Room}
use Rattle.ng_command.specs.Meanings as said
use Rattle.ng_command.specs.Meanings.{Said}
use Rattle.ng_reply.specs.declared.code.ErrorCode.{ErrorCode}
use Rattle.port_pool.specs.declared.holder.Holder.{Holder}
use Rattle.call_board.specs.declared.board.Board.{Board}
use Rattle.call_board.specs.Acts as act
use Rattle.call_board.specs.Acts.{Act, Call, Control, Turn, BoardEntry}
use Rattle.call_board.specs.Answers.{Answered}
use Rattle.call_board.specs.Requests.{asked}
use Rattle.call_board.specs.Boards.{BoardMatches}
use Rattle.call_board.specs.Calls.{find_call}
use Rattle.call_board.specs.Fits.{FitsControl, FitsBoard}
use Rattle.call_board.specs.Pairs.{held}
use Rattle.call_board.specs.Views.{View, view_of, view_at_moment}
use Rattle.call_board.proofs.Idle.{idle_changes_nothing, is_idle}
use Rattle.call_board.proofs.Done.{IsDue}
use Rattle.relay_core.specs.declared.part.Part.{Part}
use Rattle.relay_core.specs.Entries.{board_history}
use Rattle.relay_core.specs.Records.{Made}
use Rattle.relay_core.specs.Scripts.{Owed, script_of_act, reading, reading_out_of_memory}
use Rattle.relay_core.specs.Turns.{GainsNested, made_by}
use Rattle.media_ports.specs.OpenPorts.{LogsHeld}
use Rattle.board_turns.specs.declared.board_turn.BoardEntryId.{BoardEntryId}
use Rattle.board_turns.proofs.Nesting.{gains_nothing}
use Rattle.board_turns.specs.CallEnds.{leg_pairs}
use Rattle.board_turns.specs.Acts.{acted, DoesAct}
use Rattle.board_turns.specs.Controls.{RequestRecord, unanswered, with_answer, entry_with}
use Rattle.board_turns.specs.Commands.{IsReplyOf, ExecutesCommand}

-- acts of commands that change nothing, without a report
abbrev pub is_plain : Act → Bool
is_plain act.Repeated = true
is_plain act.OutOfMemory = true
is_plain (act.Failed code) = true
is_plain act.Told = true
is_plain _ = false

plain_idle : (a : Act) → is_plain a ≡ true → is_idle a ≡ true
plain_idle act.Repeated t = refl
plain_idle act.OutOfMemory t = refl
plain_idle (act.Failed code) t = refl
plain_idle act.Told t = refl
plain_idle (act.Delayed of seconds) t = absurd (let k : false ≡ true = t in cc)
plain_idle (act.Undone code leases draws) t = absurd (let k : false ≡ true = t in cc)
plain_idle (act.Offered o) t = absurd (let k : false ≡ true = t in cc)
plain_idle (act.Answered a) t = absurd (let k : false ≡ true = t in cc)
plain_idle (act.Deleted of) t = absurd (let k : false ≡ true = t in cc)
plain_idle (act.Queried of) t = absurd (let k : false ≡ true = t in cc)

-- without a report nothing is read
nothing_read : (o : Option Call) → reading o None ≡ []
nothing_read None = refl
nothing_read (Some c) = refl

no_reading : (h : List BoardEntry) (c : Control) (r : Result Said ErrorCode) → c.given.report ≡ None → reading_out_of_memory h c r ≡ []
no_reading h c (Err code) none = refl
no_reading h c (Ok said.Ping) none = refl
no_reading h c (Ok (said.Offer id from_tag sdp options)) none = refl
no_reading h c (Ok (said.Answer id from_tag to_tag sdp options)) none = refl
no_reading h c (Ok (said.Delete id from_tag fatal seconds)) none = refl
no_reading h c (Ok (said.Query id)) none = ap (reading (find_call h id)) none ∙ nothing_read (find_call h id)
no_reading h c (Ok (said.Listing limit)) none = refl

owes_nothing : (config : Config) (h : List BoardEntry) (e : BoardEntry) (c : Control) (a : Act) → c.given.report ≡ None → is_plain a ≡ true
    → script_of_act config h e c a ≡ []
owes_nothing config h e c act.Repeated none t = refl
owes_nothing config h e c act.OutOfMemory none t = no_reading h c (asked config c.too_long c.pairs) none
owes_nothing config h e c (act.Failed code) none t = refl
owes_nothing config h e c act.Told none t = refl
owes_nothing config h e c (act.Delayed of seconds) none t = absurd (let k : false ≡ true = t in cc)
owes_nothing config h e c (act.Undone code leases draws) none t = absurd (let k : false ≡ true = t in cc)
owes_nothing config h e c (act.Offered o) none t = absurd (let k : false ≡ true = t in cc)
owes_nothing config h e c (act.Answered a) none t = absurd (let k : false ≡ true = t in cc)
owes_nothing config h e c (act.Deleted of) none t = absurd (let k : false ≡ true = t in cc)
owes_nothing config h e c (act.Queried of) none t = absurd (let k : false ≡ true = t in cc)

acts_nothing : (h : List BoardEntry) (e : BoardEntry) (a : Act) (v : View) → is_plain a ≡ true → acted h e a v ≡ v
acts_nothing h e act.Repeated v t = refl
acts_nothing h e act.OutOfMemory v t = refl
acts_nothing h e (act.Failed code) v t = refl
acts_nothing h e act.Told v t = refl
acts_nothing h e (act.Delayed of seconds) v t = absurd (let k : false ≡ true = t in cc)
acts_nothing h e (act.Undone code leases draws) v t = absurd (let k : false ≡ true = t in cc)
acts_nothing h e (act.Offered o) v t = absurd (let k : false ≡ true = t in cc)
acts_nothing h e (act.Answered a) v t = absurd (let k : false ≡ true = t in cc)
acts_nothing h e (act.Deleted of) v t = absurd (let k : false ≡ true = t in cc)
acts_nothing h e (act.Queried of) v t = absurd (let k : false ≡ true = t in cc)

holds_same : (config : Config) (h : List BoardEntry) (moment : ℕ) (x : RequestRecord) (a : Answered) → is_plain a.act ≡ true → held (entry_with moment x a ∷ h) ≡ held h
holds_same config h moment x a t =
    (idle_changes_nothing config (entry_with moment x a) h a.act (record { control = with_answer x a; is_turn = refl; acts = refl }) (plain_idle a.act t)).same_held

module _ {M I O T : Type 0} {g : _} where
  -- with this answer, in place of the one that is due
  record CarriesAs (config : Config) (old new : Hand M (Part I O) Made T g) (entry_id : BoardEntryId) (x : RequestRecord) (a : Answered) (reply : Option (Room ℕ)) (board : Board) (log : Option (List PortCall)) : Type 0 where
    fits : FitsBoard config (board_history (made_by old) entry_id.number) (entry_with entry_id.moment x a)
    does : DoesAct config old new entry_id (entry_with entry_id.moment x a) board log
    replies : IsReplyOf (with_answer x a) reply

  -- what is carried out with the answer that is due
  pub carries_due : (config : Config) (old new : Hand M (Part I O) Made T g) (entry_id : BoardEntryId) (x : RequestRecord) (due : Answered) (reply : Option (Room ℕ)) (board : Board) (log : Option (List PortCall))
      → IsDue config (board_history (made_by old) entry_id.number) entry_id.moment (unanswered x) due
      → FitsControl config (board_history (made_by old) entry_id.number) entry_id.moment (with_answer x due)
      → DoesAct config old new entry_id (entry_with entry_id.moment x due) board log
      → IsReplyOf (with_answer x due) reply
      → ExecutesCommand config old new entry_id x reply board log
  carries_due config old new entry_id x due reply board log is fits does replies =
      let c = subst (λ (a : Answered). CarriesAs config old new entry_id x a reply board log) (sym is) (record { fits = fits; does = does; replies = replies }) in
      record { fits = c.fits; does = c.does; replies = c.replies }

  -- nothing is done
  pub does_nothing : (config : Config) (turns : Turns M (Part I O) Made T) (hand : Hand M (Part I O) Made T g) (entry_id : BoardEntryId) (x : RequestRecord) (a : Answered) (board : Board) (log : Option (List PortCall))
      → BoardMatches config board (view_at_moment (view_of config (board_history (made_by hand) entry_id.number)) entry_id.moment)
      → LogsHeld config log (leg_pairs (held (board_history (made_by hand) entry_id.number)))
      → x.given.report ≡ None → is_plain a.act ≡ true
      → DoesAct config hand hand entry_id (entry_with entry_id.moment x a) board log
  does_nothing config turns hand entry_id x a board log shows opens none t =
      let h = board_history (made_by hand) entry_id.number in
      let e = entry_with entry_id.moment x a in
      let v = view_at_moment (view_of config h) entry_id.moment in
      record {
        gained = subst (λ (owed : List Owed). GainsNested entry_id.number entry_id.moment owed hand hand) (sym (owes_nothing config h e (with_answer x a) a.act none t))
            (gains_nothing entry_id.number entry_id.moment hand);
        shows = subst (λ (w : View). BoardMatches config board w) (sym (acts_nothing h e a.act v t)) shows;
        opens = subst (λ (legs : List Holder). LogsHeld config log (leg_pairs legs)) (sym (holds_same config h entry_id.moment x a t)) opens;
      }
