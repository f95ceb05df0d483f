-- What an answer's turn does is what its entry owes.
use Rattle.std.proofs.Common.{◌≡◌, ◌∙◌, refl, sym, ap, subst, ℕ, List, [], ◌∷◌, Option, map}
use Rattle.relay_outside.specs.declared.ports.PortCall.{PortCall}
use Rattle.relay_outside.specs.declared.settings.Config.{Config}
use Rattle.turn_table.specs.declared.hands.Hand.{Hand}
use Rattle.port_pool.specs.declared.holder.Holder.{Holder}
use Rattle.port_pool.specs.declared.pairs.Lease.{Lease}
use Rattle.port_pool.specs.declared.signal.SectionSignal.{SectionSignal}
use Rattle.call_cell.specs.Cells.{Commit}
use Rattle.offer_answer.specs.Rounds.{AnswerAsk}
use Rattle.offer_answer.specs.Rounds as round
use Rattle.call_board.specs.Acts.{Call, BoardEntry}
use Rattle.call_board.specs.Boards.{BoardMatches, pairs_in}
use Rattle.call_board.specs.Fits.{IsFitting}
use Rattle.call_board.specs.Pairs.{held, closed_of}
use Rattle.call_board.specs.Views.{View, view_of, view_at_moment, with_returned}
use Rattle.call_board.specs.Whole.{with_more, with_closed}
use Rattle.call_board.specs.declared.board.Board.{Board}
use Rattle.call_board.specs.declared.board_plan.BoardPlan.{BoardPlan}
use Rattle.call_board.proofs.Outs.{ended_return}
use Rattle.relay_core.specs.declared.part.Part.{Part}
use Rattle.relay_core.specs.Entries.{Entry, board_history}
use Rattle.relay_core.specs.Legal.{Orderly}
use Rattle.relay_core.specs.Records.{Made}
use Rattle.relay_core.specs.Scripts.{Owed, closing, in_cell}
use Rattle.relay_core.specs.Turns.{IsAbove, GainsNested, made_by}
use Rattle.relay_core.proofs.Histories.{good_history}
use Rattle.relay_core.proofs.LegsHeld.{answer_closes}
use Rattle.media_ports.specs.Addresses.{AreLeased}
use Rattle.media_ports.specs.OpenPorts.{LogsHeld}
use Rattle.board_turns.specs.declared.board_turn.BoardEntryId.{BoardEntryId}
use Rattle.board_turns.specs.InCells.{in_cell_of}
use Rattle.board_turns.specs.Departures.{AreLeasesOf, RejectedRemoved}
use Rattle.board_turns.proofs.Nesting.{gains_more}
use Rattle.board_turns.specs.Acts.{DoesAct}
use Rattle.board_turns.specs.Closings.{leases_of_legs, closings_of, pairs_left}
use Rattle.board_turns.specs.CallEnds.{leg_pairs}
use Rattle.board_turns.proofs.Ended.{may_return_alike, may_be_leased, pairs_are, closings_are}
use Rattle.board_turns.proofs.Lefts.{told_alike}
use Rattle.answer_command.specs.Due.{IsAnswerOf, due_answer}
use Rattle.answer_command.proofs.Rejected.{ends_none, answered_held, answered_owes, answered_acts}

-- the legs that went from the call's cell are those that the entry closes
pub went_closed : {O : Type 0} (config : Config) (l : List Entry) (n moment : ℕ) (e : BoardEntry) (of : Call) (ask : AnswerAsk) (lines : List (List ℕ)) (p : BoardPlan)
    (cell k : ℕ) (signal : List SectionSignal) (gone : List (Lease × O × O)) → Orderly config l → IsAbove l 0 n → IsAnswerOf config (board_history l n) moment e of ask lines p
    → cell ≡ of.cell → signal ≡ (due_answer (board_history l n) of ask).signal → RejectedRemoved config l cell signal gone → IsAbove l cell k
    → AreLeasesOf config gone (closed_of (board_history l n) e of)
went_closed {O} config l n moment e of ask lines p cell k signal gone o above_board d at said went above =
    let a = due_answer (board_history l n) of ask in
    let there_above : IsAbove l of.cell k = subst (λ (c : ℕ). IsAbove l c k) at above in
    let there : RejectedRemoved config l of.cell a.signal gone
    = subst (λ (s : List SectionSignal). RejectedRemoved config l of.cell s gone) said (subst (λ (c : ℕ). RejectedRemoved config l c signal gone) at went) in
    subst (λ (legs : List Holder). AreLeasesOf config gone legs)
    (sym (answer_closes config l o n k e a above_board there_above d.alive d.acts (ends_none e a d.acts)))
    (there k there_above)

-- they had leases of different pairs
pub closed_leased : {O : Type 0} (config : Config) (h : List BoardEntry) (e : BoardEntry) (of : Call) (gone : List (Lease × O × O)) → IsFitting config h →
    AreLeasesOf config gone (closed_of h e of) → AreLeased config (leases_of_legs gone)
closed_leased config h e of gone fits are =
    may_be_leased config (view_of config h) (leases_of_legs gone)
    (may_return_alike config (view_of config h) gone (closed_of h e of) are (ended_return config h e [] of (view_of config h) fits refl refl (λ i. elim i [ ])))

module _ {M I O T : Type 0} {g : _} where
  -- commit, apply and closes make what the entry owes
  pub does_answer : (config : Config) (old mid new : Hand M (Part I O) Made T g) (entry_id : BoardEntryId) (board : Board) (log : Option (List PortCall)) (e : BoardEntry) (of : Call) (ask : AnswerAsk)
      (lines : List (List ℕ)) (p : BoardPlan) (cell : ℕ) (signal : List SectionSignal) (gone : List (Lease × O × O)) → Orderly config (made_by old)
      → IsAnswerOf config (board_history (made_by old) entry_id.number) entry_id.moment e of ask lines p → cell ≡ of.cell
      → signal ≡ (due_answer (board_history (made_by old) entry_id.number) of ask).signal
      → AreLeasesOf config gone (closed_of (board_history (made_by old) entry_id.number) e of)
      → GainsNested entry_id.number entry_id.moment (in_cell_of cell (Commit signal) ∷ []) old mid → GainsNested entry_id.number entry_id.moment (closings_of config gone) mid new
      → BoardMatches config board (with_returned (with_more of (round.Answered ask) entry_id.moment (view_at_moment (view_of config (board_history (made_by old) entry_id.number)) entry_id.moment)) (pairs_in (leases_of_legs gone)))
      → LogsHeld config log (pairs_left (pairs_in (leases_of_legs gone)) (leg_pairs (held (board_history (made_by old) entry_id.number))))
      → DoesAct config old new entry_id e board log
  does_answer config old mid new entry_id board log e of ask lines p cell signal gone o d at said are commits closes shows opens =
      let h = board_history (made_by old) entry_id.number in
      let a = due_answer h of ask in
      let v = view_at_moment (view_of config h) entry_id.moment in
      let legs = closed_of h e of in
      let fits = good_history config (made_by old) o entry_id.number in
      let pairs = pairs_are config gone legs are in
      let owed : in_cell_of cell (Commit signal) ∷ closings_of config gone ≡ in_cell of (Commit a.signal) ∷ map (closing config) legs
      = ap (λ (c : ℕ). in_cell_of c (Commit signal) ∷ closings_of config gone) at
      ∙ ap (λ (s : List SectionSignal). in_cell of (Commit s) ∷ closings_of config gone) said
      ∙ ap (λ (ws : List Owed). in_cell of (Commit a.signal) ∷ ws) (closings_are config gone legs are) in
      record {
        gained = subst (λ (ws : List Owed). GainsNested entry_id.number entry_id.moment ws old new) (owed ∙ sym (answered_owes config h e a d.acts))
            (gains_more entry_id.number entry_id.moment (in_cell_of cell (Commit signal) ∷ []) (closings_of config gone) old mid new commits closes);
        shows = subst (λ (w : View). BoardMatches config board w)
            (ap (λ (ps : List ℕ). with_returned (with_more of (round.Answered ask) entry_id.moment v) ps) pairs
            ∙ ap (λ (now : ℕ). with_closed h e of (with_more of (round.Answered ask) now v)) (sym d.at)
            ∙ sym (answered_acts h e a v d.acts)) shows;
        opens = told_alike config log (pairs_left (leg_pairs legs) (leg_pairs (held h))) (leg_pairs (held (e ∷ h))) (answered_held config h e a fits d.acts)
            (subst (λ (ps : List ℕ). LogsHeld config log (pairs_left ps (leg_pairs (held h)))) pairs opens);
      }
