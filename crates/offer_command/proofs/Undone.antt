-- An offer that is undone did what its entry owes.
use Rattle.std.proofs.Common.{◌≡◌, ◌∙◌, refl, sym, ap, subst, ℕ, true, cond, not, filter, List, [], ◌∷◌, ◌++◌, map, length, Option}
use Rattle.relay_outside.specs.declared.ports.PortCall.{PortCall}
use Rattle.relay_outside.specs.declared.settings.Config.{Config}
use Rattle.ng_reply.specs.declared.code.ErrorCode.{ErrorCode}
use Rattle.turn_table.specs.declared.hands.Hand.{Hand}
use Rattle.histories.specs.Words.{has}
use Rattle.port_pool.specs.declared.holder.Holder.{Holder}
use Rattle.offer_answer.specs.Rounds.{OfferAsk}
use Rattle.call_board.specs.Acts as act
use Rattle.call_board.specs.Acts.{Act, Call, Lease, BoardEvent, Turn, Tick, Stop, BoardEntry}
use Rattle.call_board.specs.Calls.{ended_by_act}
use Rattle.call_board.specs.Pairs.{held, closes_leg_act, legs_of_act}
use Rattle.call_board.specs.declared.board.Board.{Board}
use Rattle.call_board.specs.Views.{View, view_of, view_at_moment}
use Rattle.call_board.specs.Boards.{BoardMatches}
use Rattle.call_board.proofs.FreeAfter.{pairs_leased}
use Rattle.relay_core.specs.Entries.{board_history}
use Rattle.relay_core.specs.Records.{Made}
use Rattle.relay_core.specs.Scripts.{Owed, script, script_of_act}
use Rattle.relay_core.specs.Turns.{GainsNested, made_by}
use Rattle.relay_core.specs.declared.part.Part.{Part}
use Rattle.media_ports.specs.OpenPorts.{LogsHeld}
use Rattle.board_turns.specs.declared.board_turn.BoardEntryId.{BoardEntryId}
use Rattle.board_turns.proofs.Nesting.{gains_nothing}
use Rattle.board_turns.specs.Acts.{DoesAct, acted}
use Rattle.board_turns.specs.CallEnds.{leg_pairs}
use Rattle.offer_command.specs.Undo.{with_undone}
use Rattle.offer_command.specs.Offers.{pairs_for, undone_leases}

abbrev entry_at : ℕ → BoardEvent → BoardEntry
entry_at now event = record { moment = now; event = event }

all_stay : (legs : List Holder) → filter (λ leg. true) legs ++ [] ≡ legs
all_stay [] = refl
all_stay (leg ∷ legs) = ap (λ (ls : List Holder). leg ∷ ls) (all_stay legs)

-- it closes no leg
held_case : (h : List BoardEntry) (now : ℕ) (event : BoardEvent) (code : ErrorCode) (leases : List Lease) (draws : List (List ℕ)) → act.act (entry_at now event) ≡ act.Undone code leases draws →
    held (entry_at now event ∷ h) ≡ held h
held_case h now (Turn c) code leases draws is =
    ap (λ (a : Act). filter (λ (leg : Holder). not (cond (has (map (λ (of : Call). of.number) (ended_by_act a)) leg.call) true (closes_leg_act a leg))) (held h) ++ legs_of_act a) is ∙ all_stay (held h)
held_case h now (Tick calls) code leases draws is = absurd (let e = is in cc)
held_case h now (Stop calls) code leases draws is = absurd (let e = is in cc)

script_case : (config : Config) (h : List BoardEntry) (now : ℕ) (event : BoardEvent) (code : ErrorCode) (leases : List Lease) (draws : List (List ℕ)) →
    act.act (entry_at now event) ≡ act.Undone code leases draws → script config h (entry_at now event) ≡ []
script_case config h now (Turn c) code leases draws is = ap (λ (a : Act). script_of_act config h (entry_at now (Turn c)) c a) is
script_case config h now (Tick calls) code leases draws is = absurd (let e = is in cc)
script_case config h now (Stop calls) code leases draws is = absurd (let e = is in cc)

module _ {M I O T : Type 0} {g : _} where
  pub does_undone : (config : Config) (hand : Hand M (Part I O) Made T g) (entry_id : BoardEntryId) (e : BoardEntry) (board : Board) (log : Option (List PortCall)) (id : List ℕ) (ask : OfferAsk) (code : ErrorCode)
      (draws : List (List ℕ)) (pairs : List ℕ) → act.act e ≡ act.Undone code (undone_leases config (board_history (made_by hand) entry_id.number) id ask) draws →
      pairs_for config (board_history (made_by hand) entry_id.number) id ask ≡ pairs →
      BoardMatches config board (with_undone (view_at_moment (view_of config (board_history (made_by hand) entry_id.number)) entry_id.moment) pairs (length draws)) →
      LogsHeld config log (leg_pairs (held (board_history (made_by hand) entry_id.number))) → DoesAct config hand hand entry_id e board log
  does_undone config hand entry_id e board log id ask code draws pairs acts pairs_are shows opens = record {
    gained = subst (λ (ws : List Owed). GainsNested entry_id.number entry_id.moment ws hand hand)
        (sym (script_case config h e.moment e.event code (undone_leases config h id ask) draws acts)) (gains_nothing entry_id.number entry_id.moment hand);
    shows = subst (λ (w : View). BoardMatches config board w) (sym same) shows;
    opens = subst (λ (legs : List Holder). LogsHeld config log (leg_pairs legs)) (sym (held_case h e.moment e.event code (undone_leases config h id ask) draws acts)) opens;
  }
    where
      h : List BoardEntry
      h = board_history (made_by hand) entry_id.number

      v : View
      v = view_at_moment (view_of config h) entry_id.moment

      leases_pairs : map (λ (lease : Lease). lease.pair) (undone_leases config h id ask) ≡ pairs
      leases_pairs = pairs_leased h (pairs_for config h id ask) ∙ pairs_are

      same : acted h e (act.act e) v ≡ with_undone v pairs (length draws)
      same = ap (λ (a : Act). acted h e a v) acts ∙ ap (λ (ps : List ℕ). with_undone v ps (length draws)) leases_pairs
