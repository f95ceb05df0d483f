-- The legs that an offer brings and those that it drops, where what the board, the cells and the boxes keep goes together.
use Rattle.std.proofs.Common.{◌≡◌, ◌∙◌, refl, sym, ap, subst, ℕ, ◌+◌, ◌<◌, ◌≤◌, Bool, true, false, cond, List, [], ◌∷◌, ◌++◌, map, filter, length, Option, Some, None, ◌==◌, arith}
use Rattle.std.specs.Prelude.{option_map}
use Rattle.relay_outside.specs.declared.settings.Config.{Config}
use Rattle.histories.specs.Words.{In, here, there, has, first}
use Rattle.histories.proofs.Lists.{in_left, in_right, has_it, mapped, filtered, first_is_in, spreads, maps, equal_if}
use Rattle.port_pool.specs.declared.holder.Holder.{Holder}
use Rattle.port_pool.specs.declared.pairs.Lease.{Lease}
use Rattle.port_pool.specs.Ports.{pair_count, pair_port}
use Rattle.port_pool.specs.Pools.{Pairs}
use Rattle.offer_answer.specs.Rounds.{NewLeg}
use Rattle.call_cell.specs.Shapes.{CellLegShape, CellShape}
use Rattle.call_board.specs.Acts.{Call}
use Rattle.call_board.specs.Boards.{pairs_in}
use Rattle.call_board.specs.Returns.{leg_lease}
use Rattle.call_board.specs.Whole.{holders_of_new_legs}
use Rattle.call_board.specs.Shapes.{LiveShape, LeasesLegs, live_shape, live_shapes}
use Rattle.call_board.specs.declared.live_call.LiveCall.{LiveCall}
use Rattle.call_shapes.specs.WholeRelay.{PoolHolds, held_legs}
use Rattle.call_shapes.specs.OfferFits.{cell_holders, dropped_holders, ports_leased}
use Rattle.call_shapes.specs.Turns.{RelayShape, IsWholeRelay, LegsLeased, holders_of, pairs_held}
use Rattle.call_shapes.proofs.BoardOffers.{leased_of_range}
use Rattle.call_shapes.proofs.Holders.{leg_stands, same_leg}
use Rattle.call_shapes.proofs.Moved.{once_held}
use Rattle.call_shapes.proofs.NewHolders.{as_many_leases, leases_follow, new_holders_leased}
use Rattle.call_shapes.proofs.Pools.{leases_hold, pairs_times}
use Rattle.call_shapes.proofs.Relays.{legs_in}
use Rattle.call_shapes.proofs.Times.{times}
use Rattle.relay_core.specs.Scripts.{Owed, closing}
use Rattle.relay_core.proofs.KeptScripts.{HaveOwnPairs}
use Rattle.board_turns.specs.Closings.{closings_of, leases_of_legs}
use Rattle.board_turns.specs.NestedSteps.{closing_of}
use Rattle.board_turns.specs.Departures.{leases_going}
use Rattle.offer_command.specs.Brings.{rtp_ports}

-- The live call of a number.

found_case : (number : ℕ) (c : LiveCall) (calls : List LiveCall) (call : LiveCall) (b : Bool)
    → (first (filter (λ (x : LiveCall). x.number == number) calls) ≡ Some call
    → first (filter (λ (x : LiveShape). x.number == number) (live_shapes calls)) ≡ Some (live_shape call))
    → first (cond b (c ∷ filter (λ (x : LiveCall). x.number == number) calls) (filter (λ (x : LiveCall). x.number == number) calls)) ≡ Some call
    → first (cond b (live_shape c ∷ filter (λ (x : LiveShape). x.number == number) (live_shapes calls)) (filter (λ (x : LiveShape). x.number == number) (live_shapes calls))) ≡ Some (live_shape call)
found_case number c calls call true rest is =
    let same : c ≡ call = (let e : Some c ≡ Some call = is in cc) in
    ap (λ (x : LiveCall). Some (live_shape x)) same
found_case number c calls call false rest is = rest is

pub live_found : (number : ℕ) (calls : List LiveCall) (call : LiveCall) → first (filter (λ (x : LiveCall). x.number == number) calls) ≡ Some call
    → first (filter (λ (x : LiveShape). x.number == number) (live_shapes calls)) ≡ Some (live_shape call)
live_found number [] call is = absurd (let e : None ≡ Some call = is in cc)
live_found number (c ∷ calls) call is = found_case number c calls call (c.number == number) (live_found number calls call) is

-- Legs that go.

going_case : (goes : Holder → Bool) (leg : CellLegShape) (legs : List CellLegShape) → leg.lease.pair ≡ leg.holder.pair
    → pairs_in (map (λ (l : CellLegShape). l.lease) (filter (λ (l : CellLegShape). goes l.holder) legs)) ≡ pairs_held (filter goes (holders_of legs))
    → (b : Bool)
    → pairs_in (map (λ (l : CellLegShape). l.lease) (cond b (leg ∷ filter (λ (l : CellLegShape). goes l.holder) legs) (filter (λ (l : CellLegShape). goes l.holder) legs)))
    ≡ pairs_held (cond b (leg.holder ∷ filter goes (holders_of legs)) (filter goes (holders_of legs)))
going_case goes leg legs same rest true = ap (λ (p : ℕ). p ∷ pairs_in (map (λ (l : CellLegShape). l.lease) (filter (λ (l : CellLegShape). goes l.holder) legs))) same ∙ ap (λ (ps : List ℕ). leg.holder.pair ∷ ps) rest
going_case goes leg legs same rest false = rest

-- where each leg holds its pair by its lease, the leases of the legs that go are of their pairs
pub going_pairs : (goes : Holder → Bool) (legs : List CellLegShape) → ((leg : CellLegShape) → In leg legs → leg.lease.pair ≡ leg.holder.pair)
    → pairs_in (map (λ (l : CellLegShape). l.lease) (filter (λ (l : CellLegShape). goes l.holder) legs)) ≡ pairs_held (filter goes (holders_of legs))
going_pairs goes [] same = refl
going_pairs goes (leg ∷ legs) same = going_case goes leg legs (same leg (here refl)) (going_pairs goes legs (λ l i. same l (there i))) (goes leg.holder)

closings_by_pairs : {O : Type 0} (config : Config) (gone : List (Lease × O × O)) → closings_of config gone ≡ map (closing_of config) (pairs_in (leases_of_legs gone))
closings_by_pairs config [] = refl
closings_by_pairs config (leg ∷ gone) = ap (λ (ws : List Owed). closing_of config leg.0.pair ∷ ws) (closings_by_pairs config gone)

closings_by_legs : (config : Config) (legs : List Holder) → map (closing_of config) (pairs_held legs) ≡ map (closing config) legs
closings_by_legs config [] = refl
closings_by_legs config (leg ∷ legs) = ap (λ (ws : List Owed). closing config leg ∷ ws) (closings_by_legs config legs)

-- the closings of legs that went are those of the legs with these pairs
pub closings_are : {O : Type 0} (config : Config) (gone : List (Lease × O × O)) (legs : List Holder) → pairs_in (leases_of_legs gone) ≡ pairs_held legs
    → closings_of config gone ≡ map (closing config) legs
closings_are config gone legs same = closings_by_pairs config gone ∙ ap (λ (ps : List ℕ). map (closing_of config) ps) same ∙ closings_by_legs config legs

-- Legs that come.

ports_by_legs : (config : Config) (legs : List Holder) → rtp_ports (map (leg_lease config) legs) ≡ ports_leased config (map (leg_lease config) legs)
ports_by_legs config [] = refl
ports_by_legs config (leg ∷ legs) = ap (λ (ps : List ℕ). pair_port config leg.pair ∷ ps) (ports_by_legs config legs)

module _ (config : Config) (old : RelayShape) (whole : IsWholeRelay config old) (of : Call) (legs : List NewLeg) (leases : List Lease) (between : Pairs)
    (leased : LeasesLegs old.board.pool legs leases between) where
  so : LegsLeased old.board.pool (holders_of_new_legs of leases legs) between
  so = new_holders_leased of old.board.pool between legs leases leased

  all : PoolHolds config between (holders_of_new_legs of leases legs ++ held_legs old.cells old.board.calls)
  all = leases_hold config old.board.pool between (holders_of_new_legs of leases legs) (held_legs old.cells old.board.calls) whole.pool so

  came_below : (leg : Holder) → In leg (holders_of_new_legs of leases legs) → leg.pair < pair_count config
  came_below leg i = (all.generations leg (in_left (holders_of_new_legs of leases legs) (held_legs old.cells old.board.calls) i)).0

  most : (leg : Holder) → In leg (holders_of_new_legs of leases legs)
      → times leg.pair (pairs_held (holders_of_new_legs of leases legs ++ held_legs old.cells old.board.calls)) ≤ 1
  most leg i = once_held config old.board.pool between (holders_of_new_legs of leases legs) (held_legs old.cells old.board.calls) whole.pool so leg.pair (came_below leg i)

  -- no two of them have one pair
  pub came_own : HaveOwnPairs (holders_of_new_legs of leases legs)
  came_own a b i j same =
      let one = most a i in
      let both = pairs_times a.pair (holders_of_new_legs of leases legs) (held_legs old.cells old.board.calls) in
      same_leg a.pair (holders_of_new_legs of leases legs) a b i j refl (sym same) (omega (arith, one, both))

  held_not : (gone : List Holder) → ((leg : Holder) → In leg gone → In leg (held_legs old.cells old.board.calls))
      → (leg : Holder) → In leg (holders_of_new_legs of leases legs) → (b : Bool) → has (pairs_held gone) leg.pair ≡ b → b ≡ false
  held_not gone from leg i true is =
      let m = mapped (λ (l : Holder). l.pair) gone (has_it leg.pair (pairs_held gone) is) in
      let one = most leg i in
      let both = pairs_times leg.pair (holders_of_new_legs of leases legs) (held_legs old.cells old.board.calls) in
      let first = leg_stands leg.pair (holders_of_new_legs of leases legs) leg i refl in
      let second = leg_stands leg.pair (held_legs old.cells old.board.calls) m.from (from m.from m.is_in) m.makes in
      absurd (omega (arith, one, both, first, second))
  held_not gone from leg i false is = refl

  -- and none has the pair of a leg that was held
  pub came_apart : (gone : List Holder) → ((leg : Holder) → In leg gone → In leg (held_legs old.cells old.board.calls))
      → (leg : Holder) → In leg (holders_of_new_legs of leases legs) → has (pairs_held gone) leg.pair ≡ false
  came_apart gone from leg i = held_not gone from leg i (has (pairs_held gone) leg.pair) refl

  -- the leases are of pairs of the range
  pub leases_within : (lease : Lease) → In lease leases → lease.pair < pair_count config
  leases_within lease i = leased_of_range of legs leases (pair_count config) (as_many_leases old.board.pool between legs leases leased) came_below lease i

  -- with the ports of their pairs
  pub ports_follow : rtp_ports leases ≡ ports_leased config leases
  ports_follow =
      let follow = leases_follow config of old.board.pool between (held_legs old.cells old.board.calls) legs leases whole.pool leased in
      ap rtp_ports follow ∙ ports_by_legs config (holders_of_new_legs of leases legs) ∙ ap (ports_leased config) (sym follow)

-- the legs of a live call are held
pub call_held : (old : RelayShape) (call : LiveShape) → In call old.board.calls → (goes : Holder → Bool) (leg : Holder) → In leg (filter goes (cell_holders (old.cells call.cell)))
    → In leg (held_legs old.cells old.board.calls)
call_held old call live goes leg i = spreads (legs_in old.cells) old.board.calls live (filtered goes (cell_holders (old.cells call.cell)) i).0
