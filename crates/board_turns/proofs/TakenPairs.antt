-- The pairs of a live call's legs are held by the history of a board that stands for one, so their ports are open.
use Rattle.std.proofs.Common.{◌≡◌, ◌∙◌, refl, sym, ap, subst, ℕ, ◌<◌, Bool, true, false, not, List, [], ◌∷◌, ◌++◌, Option, Some, IsSome, map, arith}
use Rattle.std.specs.Prelude.{◌&&◌}
use Rattle.std.specs.List.{flat_map}
use Rattle.std.proofs.lemmas.List.{map-append}
use mathlib.Core.List.{append_assoc}
use Rattle.relay_outside.specs.declared.address.Family.{Family}
use Rattle.relay_outside.specs.declared.address.Family.TheVariants.{V4, V6}
use Rattle.relay_outside.specs.declared.ports.PortCall.{PortCall}
use Rattle.relay_outside.specs.declared.settings.Config.{Config}
use Rattle.relay_outside.specs.DeviceLogs.{WhereLogged}
use Rattle.turn_table.specs.declared.hands.Hand.{Hand}
use Rattle.turn_table.specs.Hands.{starts}
use Rattle.histories.specs.Words.{In, here, there, has}
use Rattle.histories.proofs.Lists.{in_left, in_right, keeps, filtered, maps, it_has, has_it}
use Rattle.port_pool.specs.declared.holder.Holder.{Holder}
use Rattle.port_pool.specs.declared.pairs.Lease.{Lease}
use Rattle.port_pool.specs.Pools.{Pairs, free_pairs, family_in}
use Rattle.port_pool.specs.Ports.{family_eq, pair_count, pair_family, pairs_of_family}
use Rattle.port_pool.proofs.Standing.{same_family}
use Rattle.call_cell.specs.Shapes.{CellLegShape}
use Rattle.call_board.specs.Acts.{Call, BoardEntry}
use Rattle.call_board.specs.declared.board.Board.{Board}
use Rattle.call_board.specs.Boards.{AreOut, BoardMatches, IsLive, IsOut}
use Rattle.call_board.specs.Fits.{IsFitting}
use Rattle.call_board.specs.Pairs.{held, free, closed_of}
use Rattle.call_board.specs.Returns.{leg_lease}
use Rattle.call_board.specs.Shapes.{board_shape}
use Rattle.call_board.specs.Views.{View, without_call}
use Rattle.call_board.specs.Whole.{with_closed, with_ended}
use Rattle.call_board.proofs.Free.{free_not_held, held_below}
use Rattle.call_board.proofs.Leased.{eq_itself}
use Rattle.call_board.proofs.Unheld.{unheld_free}
use Rattle.call_shapes.specs.OfferFits.{cell_holders}
use Rattle.call_shapes.specs.WholeRelay.{held_legs}
use Rattle.call_shapes.proofs.Holders.{leg_with, found_among}
use Rattle.call_shapes.proofs.Needs.{free_is_shut}
use Rattle.call_shapes.proofs.NumberedSteps.{numbered_all_out}
use Rattle.call_shapes.proofs.Pools.{once_times}
use Rattle.call_shapes.proofs.Times.{times, none_times}
use Rattle.relay_core.specs.declared.part.Part.{Part}
use Rattle.relay_core.specs.KeptAfter.{IsWholeWith, relay_after}
use Rattle.relay_core.specs.Records.{Made}
use Rattle.relay_core.specs.Turns.{made_by}
use Rattle.relay_core.proofs.Turns.{false_if}
use Rattle.media_ports.specs.OpenPorts.{OpensHeld}
use Rattle.board_turns.specs.NestedSteps.{IsShut, IsTurnOpen}
use Rattle.board_turns.specs.Departures.{cell_kept}
use Rattle.board_turns.specs.Closings.{pairs_left}
use Rattle.board_turns.specs.CallEnds.{CanEnd, leg_pairs}
use Rattle.board_turns.proofs.Lefts.{has_left}
use Rattle.board_turns.proofs.KeptEnds.{found_agrees}
use Rattle.board_turns.proofs.WholeCalls.{live_found}

-- What isn't free is held.

held_unless : (held__ returned__ : Bool) → (returned__ ≡ true → ⊥) → held__ ≡ true → (not returned__ && held__) ≡ true
held_unless held__ true out is = absurd (out refl)
held_unless held__ false out is = is

pub taken_held : (config : Config) (h : List BoardEntry) (returned : List ℕ) (pair : ℕ) → pair < pair_count config
    → (In pair (free config h ++ returned) → ⊥) → has (pairs_left returned (leg_pairs (held h))) pair ≡ true
taken_held config h returned pair below out =
    has_left returned (leg_pairs (held h)) pair
    ∙ held_unless (has (leg_pairs (held h)) pair) (has returned pair) (λ t. out (in_right (free config h) returned (has_it pair returned t)))
    (by_test (has (leg_pairs (held h)) pair) refl)
  where
    by_test : (t : Bool) → has (leg_pairs (held h)) pair ≡ t → has (leg_pairs (held h)) pair ≡ true
    by_test true is = is
    by_test false is =
        absurd (out (in_left (free config h) returned (unheld_free config h pair below
        (λ i. let wrong : true ≡ false = sym (it_has pair (leg_pairs (held h)) i) ∙ is in cc))))

-- What is out is not free.

out_in : (pool : Pairs) (leases : List Lease) (lease : Lease) → AreOut pool leases → In lease leases → IsOut pool lease
out_in pool [] lease out i = elim i [ ]
out_in pool (first ∷ leases) lease out (here q) = subst (λ (l : Lease). IsOut pool l) (sym q) out.0
out_in pool (first ∷ leases) lease out (there i) = out_in pool leases lease out.2 i

out_not_free : (config : Config) (board : Board) (v : View) (lease : Lease) → BoardMatches config board v → IsOut board.pool lease → In lease.pair v.free → ⊥
out_not_free config board v lease shows out i =
    let family = family_in board.pool lease.pair in
    let same : pair_family config lease.pair ≡ family = sym (same_family config v.free v.leases board.pool lease.pair shows.pool_for) in
    let passes : family_eq (pair_family config lease.pair) family ≡ true = ap (λ (f : Family). family_eq f family) same ∙ eq_itself family in
    let among : has (pairs_of_family config v.free family) lease.pair ≡ true
    = it_has lease.pair (pairs_of_family config v.free family) (keeps (λ p. family_eq (pair_family config p) family) v.free i passes) in
    let wrong : true ≡ false = sym among ∙ ap (λ (ps : List ℕ). has ps lease.pair) (sym (shows.pool_for.free_is family)) ∙ out.not_free in
    cc

module _ {M I O T : Type 0} {g : _} where
  -- by a board that stands for a history, but for what came back, the live call of a number may be ended
  pub may_end : (config : Config) (hand : Hand M (Part I O) Made T g) (board : Board) (log : Option (List PortCall)) (number : ℕ) (h : List BoardEntry) (returned : List ℕ)
      (v : View) → IsWholeWith config hand (board_shape board) → BoardMatches config board v → v.free ≡ free config h ++ returned → IsLive board number
      → WhereLogged log (λ calls. OpensHeld config calls (pairs_left returned (leg_pairs (held h)))) → CanEnd config hand board log number
  may_end config hand board log number h returned v whole shows free_is live opens =
      let k = live_found board number live in
      let relay = relay_after config (starts hand) (made_by hand) (board_shape board) in
      let agrees = found_agrees config relay number k.0 whole k.1 in
      let all = numbered_all_out config relay number k.0 whole k.1 in
      record {
        whole = whole;
        live = k.0;
        found = k.1;
        held = pairs_left returned (leg_pairs (held h));
        opens = opens;
        are_held = λ leg i.
            let holder = maps (λ (l : CellLegShape). l.holder) (cell_kept config hand k.0.cell).legs i in
            let out = out_in board.pool (map (leg_lease config) (cell_holders (cell_kept config hand k.0.cell))) (leg_lease config leg.holder) all
            (maps (leg_lease config) (cell_holders (cell_kept config hand k.0.cell)) holder) in
            taken_held config h returned leg.holder.pair (agrees.legs leg i).pair
            (λ j. out_not_free config board v (leg_lease config leg.holder) shows out (subst (λ (ps : List ℕ). In leg.holder.pair ps) (sym free_is) j));
      }

-- A pair that isn't free is held by a leg, for which its box is open.

some_leg : (o : Option Holder) (leg : Holder) → o ≡ Some leg → IsSome o
some_leg o leg is = subst (λ (x : Option Holder). IsSome x) (sym is) refl

none_free : (config : Config) (board : Board) (v : View) (family : Family) (pair : ℕ) → BoardMatches config board v → (In pair v.free → ⊥)
    → times pair (free_pairs board.pool family) ≡ 0
none_free config board v family pair shows out =
    none_times pair (free_pairs board.pool family)
    (false_if (has (free_pairs board.pool family) pair) (λ t.
    let among = subst (λ (ps : List ℕ). In pair ps) (shows.pool_for.free_is family) (has_it pair (free_pairs board.pool family) t) in
    out (filtered (λ p. family_eq (pair_family config p) family) v.free among).0))

module _ {M I O T : Type 0} {g : _} where
  untaken_open : (config : Config) (hand : Hand M (Part I O) Made T g) (board : Board) (v : View) (pair : ℕ) → IsWholeWith config hand (board_shape board)
      → BoardMatches config board v → pair < pair_count config → (In pair v.free → ⊥) → IsTurnOpen config hand pair
  untaken_open config hand board v pair whole shows below out =
      let relay = relay_after config (starts hand) (made_by hand) (board_shape board) in
      let held_ = held_legs relay.cells relay.board.calls in
      let one = once_times config board.pool held_ whole.pool pair below in
      let four = none_free config board v V4 pair shows out in
      let six = none_free config board v V6 pair shows out in
      let leg = leg_with pair held_ (omega (arith, one, four, six)) in
      some_leg (relay.holders pair) leg.leg (whole.held pair below ∙ found_among pair held_ leg.leg leg.is_in leg.pair_is (omega (arith, one)))

  -- so the box of a pair that the history of the board holds is open
  pub held_open : (config : Config) (hand : Hand M (Part I O) Made T g) (board : Board) (v : View) (h : List BoardEntry) (leg : Holder) → IsWholeWith config hand (board_shape board)
      → BoardMatches config board v → v.free ≡ free config h → IsFitting config h → In leg (held h) → IsTurnOpen config hand leg.pair
  held_open config hand board v h leg whole shows free_is fits i =
      untaken_open config hand board v leg.pair whole shows (held_below config h leg fits i)
      (λ j. free_not_held config h leg.pair leg (subst (λ (ps : List ℕ). In leg.pair ps) free_is j) i refl)

  -- and that of a free pair is shut
  pub free_shut : (config : Config) (hand : Hand M (Part I O) Made T g) (board : Board) (v : View) (pair : ℕ) → IsWholeWith config hand (board_shape board)
      → BoardMatches config board v → In pair v.free → IsShut config hand pair
  free_shut config hand board v pair whole shows i =
      let relay = relay_after config (starts hand) (made_by hand) (board_shape board) in
      let family = pair_family config pair in
      let among : has (free_pairs board.pool family) pair ≡ true
      = ap (λ (ps : List ℕ). has ps pair) (shows.pool_for.free_is family)
      ∙ it_has pair (pairs_of_family config v.free family) (keeps (λ p. family_eq (pair_family config p) family) v.free i (eq_itself family)) in
      free_is_shut config (board_shape board) relay.cells relay.holders family pair whole among

-- the pairs that came back while calls ended one after the other
pub ended_free : (h : List BoardEntry) (e : BoardEntry) (gone : List Call) (v : View) → (with_ended h e gone v).free ≡ v.free ++ leg_pairs (flat_map (closed_of h e) gone)
ended_free h e [] v = sym (no_more v.free)
  where
    no_more : (xs : List ℕ) → xs ++ [] ≡ xs
    no_more [] = refl
    no_more (x ∷ xs) = ap (λ (ys : List ℕ). x ∷ ys) (no_more xs)
ended_free h e (of ∷ gone) v =
    ended_free h e gone (with_closed h e of (without_call v of.number))
    ∙ append_assoc v.free (leg_pairs (closed_of h e of)) (leg_pairs (flat_map (closed_of h e) gone))
    ∙ ap (λ (ps : List ℕ). v.free ++ ps) (sym (map-append (λ (leg : Holder). leg.pair) (closed_of h e of) (flat_map (closed_of h e) gone)))
