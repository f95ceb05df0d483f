-- A delete with a delay, as the marking of one call.
use Rattle.std.proofs.Common.{◌≡◌, ◌∙◌, sym, ap, subst, ℕ, List, [], ◌∷◌, Option, arith}
use Rattle.relay_outside.specs.declared.ports.PortCall.{PortCall}
use Rattle.relay_outside.specs.declared.settings.Config.{Config}
use Rattle.turn_table.specs.declared.hands.Turns.{Turns}
use Rattle.turn_table.specs.declared.hands.Hand.{Hand}
use Rattle.port_pool.specs.declared.holder.Holder.{Holder}
use Rattle.call_board.specs.declared.board.Board.{Board}
use Rattle.call_board.specs.Acts as act
use Rattle.call_board.specs.Acts.{Call, Act, Turn, Tick, Stop, BoardEvent, BoardEntry, act_in, act}
use Rattle.call_board.specs.Boards.{BoardMatches, KeepsReplies}
use Rattle.call_board.specs.Calls.{due_after}
use Rattle.call_board.specs.Pairs.{held}
use Rattle.call_board.specs.Shapes.{board_shape}
use Rattle.call_board.specs.Views.{View, view_of, view_at_moment}
use Rattle.call_board.specs.Whole.{with_due_call}
use Rattle.call_board.proofs.Repeats.{repeat_alike}
use Rattle.relay_core.specs.declared.part.Part.{Part}
use Rattle.relay_core.specs.Entries.{board_history}
use Rattle.relay_core.specs.KeptAfter.{IsWholeWith}
use Rattle.relay_core.specs.Records.{Made}
use Rattle.relay_core.specs.Scripts.{Owed, script, script_of, script_of_act}
use Rattle.relay_core.specs.Turns.{GainsNested, made_by}
use Rattle.media_ports.specs.OpenPorts.{LogsHeld}
use Rattle.turn_table.specs.Hands.{entries}
use Rattle.board_turns.specs.declared.board_turn.BoardEntryId.{BoardEntryId}
use Rattle.board_turns.specs.declared.board_turn.BoardTurn.{BoardTurn}
use Rattle.board_turns.specs.declared.board_turn.MainHand.{MainHand}
use Rattle.board_turns.specs.CallEnds.{leg_pairs}
use Rattle.board_turns.specs.Acts.{acted, InTurn, DoesAct}
use Rattle.board_turns.specs.Ties.{PortsFollowRows}
use Rattle.board_turns.specs.BoardTurns.{Begins, Nests, Works}
use Rattle.board_turns.proofs.Nesting.{gains_nothing}
use Rattle.board_turns.proofs.Staying.{nests_none}
use Rattle.board_turns.proofs.Tying.{ties_none}
use Rattle.board_turns.proofs.Wholeness.{same_shape}

-- It owes nothing.

owes_by : (config : Config) (h : List BoardEntry) (e : BoardEntry) (v : BoardEvent) (of : Call) (seconds : ℕ) → act_in v ≡ act.Delayed of seconds → script_of config h e v ≡ []
owes_by config h e (Turn c) of seconds is = ap (script_of_act config h e c) is
owes_by config h e (Tick calls) of seconds is = absurd (let q = is in cc)
owes_by config h e (Stop calls) of seconds is = absurd (let q = is in cc)

pub delayed_owes : (config : Config) (h : List BoardEntry) (e : BoardEntry) (of : Call) (seconds : ℕ) → act e ≡ act.Delayed of seconds → script config h e ≡ []
delayed_owes config h e of seconds is = owes_by config h e e.event of seconds is

-- It closes nothing.

held_by : (config : Config) (h : List BoardEntry) (moment : ℕ) (v : BoardEvent) (of : Call) (seconds : ℕ) → act_in v ≡ act.Delayed of seconds
    → held (record { moment = moment; event = v } ∷ h) ≡ held h
held_by config h moment (Turn c) of seconds is =
    ap (λ (a : Act). held (record { moment = moment; event = Turn (record c { act = a }) } ∷ h)) is ∙ (repeat_alike config moment c h).same_held
held_by config h moment (Tick calls) of seconds is = absurd (let q = is in cc)
held_by config h moment (Stop calls) of seconds is = absurd (let q = is in cc)

pub delayed_held : (config : Config) (h : List BoardEntry) (e : BoardEntry) (of : Call) (seconds : ℕ) → act e ≡ act.Delayed of seconds → held (e ∷ h) ≡ held h
delayed_held config h e of seconds is = held_by config h e.moment e.event of seconds is

-- It makes its call ending.

-- the board was told when the call of this number ends, by the moment of the entry and the delay
marked : (h : List BoardEntry) (e : BoardEntry) (of : Call) (seconds moment call due : ℕ) (v : View) → act e ≡ act.Delayed of seconds → of.number ≡ call → e.moment ≡ moment
    → due ≡ due_after moment seconds → with_due_call call due v ≡ acted h e (act e) v
marked h e of seconds moment call due v is number_is moment_is due_is =
    ap (λ (n : ℕ). with_due_call n due v) (sym number_is)
    ∙ ap (λ (m : ℕ). with_due_call of.number m v) (due_is ∙ ap (λ (m : ℕ). due_after m seconds) (sym moment_is))
    ∙ ap (λ (a : Act). acted h e a v) (sym is)

module _ {M I O T : Type 0} {g : _} where
  -- so the entry is made by a board that was told so, in a turn in which nothing else was done
  pub delayed_does : (config : Config) (turns : Turns M (Part I O) Made T) (hand : Hand M (Part I O) Made T g) (entry_id : BoardEntryId) (was now : Board) (log : Option (List PortCall))
      (e : BoardEntry) (of : Call) (seconds call due : ℕ) → InTurn config turns hand entry_id was log → act e ≡ act.Delayed of seconds → of.number ≡ call
      → e.moment ≡ entry_id.moment → due ≡ due_after entry_id.moment seconds
      → ((config : Config) (v : View) → BoardMatches config was v → BoardMatches config now (with_due_call call due v)) → DoesAct config hand hand entry_id e now log
  delayed_does config turns hand entry_id was now log e of seconds call due turn is number_is moment_is due_is marks =
      let h = board_history (made_by hand) entry_id.number in
      let v = view_at_moment (view_of config h) entry_id.moment in
      record {
        gained = subst (λ (owed : List Owed). GainsNested entry_id.number entry_id.moment owed hand hand) (sym (delayed_owes config h e of seconds is))
            (gains_nothing entry_id.number entry_id.moment hand);
        shows = subst (λ (w : View). BoardMatches config now w) (marked h e of seconds entry_id.moment call due v is number_is moment_is due_is) (marks config v turn.shows);
        opens = subst (λ (legs : List Holder). LogsHeld config log (leg_pairs legs)) (sym (delayed_held config h e of seconds is)) turn.opens;
      }

module _ {P I O : Type 0} {g : _} (log : P → Option (List PortCall)) (faults : P → ℕ) where
  -- in the turn all else stays
  pub delay_works : (old now : BoardTurn P I O g) → Begins log old → now.main ≡ old.main → now.board.ghost_name ≡ old.board.ghost_name → now.ports ≡ old.ports → now.gone ≡ old.gone
      → KeepsReplies old.board.now now.board.now → board_shape now.board.now ≡ board_shape old.board.now → Works log faults old now
  delay_works old now begins main_is board_is ports_are gone_is replies shape_is =
      let faulty = ap (λ ports. faults ports.now) ports_are in
      record {
        stays = record {
          nests = subst (λ (main : MainHand I O g). Nests old.main main) (sym main_is) (nests_none old.main begins.in_turn.may);
          devices = record { board_is = board_is; ports_are = ap (λ ports. ports.ghost_name) ports_are; gone_is = ap (λ gone. gone.ghost_name) gone_is };
          replies = replies;
          later = omega (arith, faulty);
        };
        ties = subst (λ (main : MainHand I O g). PortsFollowRows old.main.config.now (log old.ports.now) (log now.ports.now) (entries old.main.hand.now) (entries main.hand.now)) (sym main_is)
            (subst (λ (told : Option (List PortCall)). PortsFollowRows old.main.config.now (log old.ports.now) told (entries old.main.hand.now) (entries old.main.hand.now))
            (sym (ap (λ ports. log ports.now) ports_are)) (ties_none old.main.config.now (log old.ports.now) (entries old.main.hand.now)));
        empty = ap (λ gone. gone.now) gone_is ∙ begins.empty;
        whole = λ w.
            subst (λ (main : MainHand I O g). IsWholeWith main.config.now main.hand.now (board_shape now.board.now)) (sym main_is)
            (same_shape old.main.config.now old.main.hand.now old.board.now now.board.now shape_is w);
      }
