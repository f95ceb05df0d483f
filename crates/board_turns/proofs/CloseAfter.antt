-- The legs of a call that a board entry closes may be closed when the call's cell has made its step.
use Rattle.std.proofs.Common.{◌≡◌, ap, subst, ℕ, ◌<◌, ◌≤◌, true, List, [], ◌∷◌, Option, arith}
use Rattle.relay_outside.specs.declared.ports.PortCall.{PortCall}
use Rattle.relay_outside.specs.declared.settings.Config.{Config}
use Rattle.turn_table.specs.declared.hands.Hand.{Hand}
use Rattle.turn_table.specs.Hands.{starts}
use Rattle.histories.specs.Words.{In, here, there, has}
use Rattle.histories.proofs.Lists.{maps, mapped, it_has}
use Rattle.port_pool.specs.declared.pairs.Lease.{Lease}
use Rattle.port_pool.specs.declared.holder.Holder.{Holder}
use Rattle.port_pool.specs.Ports.{pair_count}
use Rattle.call_board.specs.declared.board.Board.{Board}
use Rattle.call_board.specs.Acts.{Call, BoardEntry}
use Rattle.call_board.specs.Boards.{BoardMatches, pairs_in}
use Rattle.call_board.specs.Pairs.{held, free, closed_of}
use Rattle.call_board.specs.Shapes.{board_shape}
use Rattle.call_board.specs.Views.{View, times_leased}
use Rattle.call_board.proofs.Free.{held_below}
use Rattle.call_board.proofs.Held.{closed_of_held}
use Rattle.call_board.proofs.Outs.{ended_return, returns_out}
use Rattle.relay_core.specs.declared.part.Part.{Part}
use Rattle.relay_core.specs.Entries.{board_history, box_of}
use Rattle.relay_core.specs.KeptAfter.{IsWholeWith}
use Rattle.relay_core.specs.Legal.{Orderly}
use Rattle.relay_core.specs.Records.{Made}
use Rattle.relay_core.specs.Scripts.{Owed}
use Rattle.relay_core.specs.Turns.{GainsNested, made_by}
use Rattle.relay_core.proofs.Histories.{good_history}
use Rattle.media_ports.specs.OpenPorts.{LogsHeld}
use Rattle.board_turns.specs.NestedSteps.{IsTurnOpen}
use Rattle.board_turns.specs.Departures.{AreLeasesOf}
use Rattle.board_turns.specs.Closings.{CanClose, leases_of_legs}
use Rattle.board_turns.specs.CallEnds.{leg_pairs}
use Rattle.board_turns.proofs.Closed.{still_open}
use Rattle.board_turns.proofs.Ended.{pairs_are, may_return_alike}
use Rattle.board_turns.proofs.TakenPairs.{held_open}

not_box : (config : Config) (cell pair : ℕ) (w : Owed) → w.place ≡ cell → cell ≤ config.max_sessions → (x : Owed) → In x (w ∷ []) → x.place ≡ box_of config pair → ⊥
not_box config cell pair w at high x (here q) is = let same = ap (λ (v : Owed). v.place) q in omega (arith, same, at, is, high)
not_box config cell pair w at high x (there i) is = elim i [ ]

module _ {M I O T : Type 0} {g : _} where
  pub can_close_after : (config : Config) (n moment : ℕ) (old new : Hand M (Part I O) Made T g) (e : BoardEntry) (of : Call) (w : Owed) (before after : Board) (log : Option (List PortCall))
      (u v : View) (gone : List (Lease × O × O)) → Orderly config (made_by old) → IsWholeWith config old (board_shape before) → BoardMatches config before u
      → u.free ≡ free config (board_history (made_by old) n) → starts new ≡ starts old → GainsNested n moment (w ∷ []) old new
      → w.place ≡ of.cell → of.cell ≤ config.max_sessions → AreLeasesOf config gone (closed_of (board_history (made_by old) n) e of) → BoardMatches config after v
      → v.free ≡ free config (board_history (made_by old) n) → v.leases ≡ times_leased (board_history (made_by old) n)
      → LogsHeld config log (leg_pairs (held (board_history (made_by old) n))) → CanClose config new after log gone
  can_close_after config n moment old new e of w before after log u v gone o whole shown was_free same gains at high are shows free_is leases_is opens =
      let h = board_history (made_by old) n in
      let legs = closed_of h e of in
      let fits = good_history config (made_by old) o n in
      let pairs = pairs_are config gone legs are in
      let its = λ (pair : ℕ) (i : In pair (pairs_in (leases_of_legs gone))). mapped (λ (leg : Holder). leg.pair) legs (subst (λ (ps : List ℕ). In pair ps) pairs i) in
      let was_held = λ (leg : Holder) (i : In leg legs). (closed_of_held h e of leg i).0 in
      record {
        out = returns_out config after v (leases_of_legs gone) shows
            (may_return_alike config v gone legs are (ended_return config h e [] of v fits free_is leases_is (λ i. elim i [ ])));
        of_range = λ pair i.
            let m = its pair i in
            subst (λ (p : ℕ). p < pair_count config) m.makes (held_below config h m.from fits (was_held m.from m.is_in));
        boxes_open = λ pair i.
            let m = its pair i in
            subst (λ (p : ℕ). IsTurnOpen config new p) m.makes
            (still_open config n moment m.from.pair (w ∷ []) old new same gains (not_box config of.cell m.from.pair w at high)
            (held_open config old before u h m.from whole shown was_free fits (was_held m.from m.is_in)));
        held = leg_pairs (held h);
        opens = opens;
        are_held = λ pair i.
            let m = its pair i in
            subst (λ (p : ℕ). has (leg_pairs (held h)) p ≡ true) m.makes
            (it_has m.from.pair (leg_pairs (held h)) (maps (λ (x : Holder). x.pair) (held h) (was_held m.from m.is_in)));
      }
