-- What holds of a live call where the board, the cells and the boxes go together: its legs may be closed when it has ended.
use Rattle.std.proofs.Common.{◌≡◌, ◌∙◌, refl, sym, ap, subst, ℕ, ◌<◌, ◌≤◌, ◌==◌, Bool, true, false, List, [], ◌∷◌, Option, Some, None, IsSome, map, filter, cond, arith}
use Rattle.std.specs.Prelude.{◌||◌}
use Rattle.std.specs.List.{list_any}
use Rattle.relay_outside.specs.declared.ports.PortCall.{PortCall}
use Rattle.relay_outside.specs.declared.settings.Config.{Config}
use Rattle.turn_table.specs.declared.hands.Hand.{Hand}
use Rattle.turn_table.specs.Hands.{starts}
use Rattle.histories.specs.Words.{In, here, there, has, first}
use Rattle.histories.proofs.Lists.{in_right, mapped}
use Rattle.port_pool.specs.declared.holder.Holder.{Holder}
use Rattle.port_pool.specs.declared.pairs.Lease.{Lease}
use Rattle.port_pool.specs.Pools.{Pairs}
use Rattle.port_pool.specs.Ports.{pair_count}
use Rattle.call_cell.specs.Cells.{End}
use Rattle.call_cell.specs.Shapes.{CellLegShape, IsSmall}
use Rattle.call_board.specs.declared.board.Board.{Board}
use Rattle.call_board.specs.declared.live_call.LiveCall.{LiveCall}
use Rattle.call_board.specs.Boards.{AreOut, IsLive, pairs_in}
use Rattle.call_board.specs.Returns.{leg_lease}
use Rattle.call_board.specs.Shapes.{BoardShape, LiveShape, ShapeEnds, board_shape, live_shape, live_shapes, shape_numbered}
use Rattle.call_shapes.specs.Agreement.{IsLegOf}
use Rattle.call_shapes.specs.OfferFits.{cell_holders}
use Rattle.call_shapes.proofs.Needs.{leg_is_open, cell_within, cell_is_small}
use Rattle.call_shapes.proofs.NumberedSteps.{numbered_all_out}
use Rattle.call_shapes.proofs.Numbered.{numbered}
use Rattle.relay_core.specs.declared.part.Part.{Part}
use Rattle.relay_core.specs.Entries.{box_of}
use Rattle.relay_core.specs.KeptAfter.{relay_after}
use Rattle.relay_core.specs.Records.{Made}
use Rattle.relay_core.specs.Scripts.{Owed}
use Rattle.relay_core.specs.Turns.{GainsNested, made_by}
use Rattle.media_ports.specs.Addresses.{AreLeased}
use Rattle.board_turns.specs.InCells.{in_cell_of}
use Rattle.board_turns.specs.Departures.{AllHaveEnds, cell_kept}
use Rattle.board_turns.specs.Closings.{CanClose, leases_of_legs}
use Rattle.board_turns.specs.CallEnds.{CanEnd}
use Rattle.board_turns.proofs.Closed.{still_open}
use Rattle.board_turns.proofs.KeptEnds.{found_agrees}

-- The live call of a number.

pub found_in : (board : BoardShape) (number : ℕ) (call : LiveShape) → shape_numbered board number ≡ Some call → In call board.calls
found_in board number call found =
    let n = numbered number call.dialog board.calls call found in
    subst (λ (calls : List LiveShape). In call calls) (sym n.calls_are) (in_right n.front (call ∷ n.back) (here refl))

-- a call that is live has a shape
abbrev LiveIn : ℕ → List LiveCall → Type 0
LiveIn number calls = (call : LiveShape) × (first (filter (λ (c : LiveShape). c.number == number) (live_shapes calls)) ≡ Some call)

live_case : (number : ℕ) (call : LiveCall) (calls : List LiveCall) → (list_any (λ (c : LiveCall). c.number == number) calls ≡ true → LiveIn number calls)
    → (t : Bool) → (call.number == number) ≡ t → list_any (λ (c : LiveCall). c.number == number) (call ∷ calls) ≡ true → LiveIn number (call ∷ calls)
live_case number call calls rest true q is =
    let others = filter (λ (c : LiveShape). c.number == number) (live_shapes calls) in
    (live_shape call, ap (λ (b : Bool). first (cond b (live_shape call ∷ others) others)) q)
live_case number call calls rest false q is =
    let others = filter (λ (c : LiveShape). c.number == number) (live_shapes calls) in
    let found = rest (sym (ap (λ (b : Bool). b || list_any (λ (c : LiveCall). c.number == number) calls) q) ∙ is) in
    (found.0, ap (λ (b : Bool). first (cond b (live_shape call ∷ others) others)) q ∙ found.1)

live_in : (number : ℕ) (calls : List LiveCall) → list_any (λ (call : LiveCall). call.number == number) calls ≡ true → LiveIn number calls
live_in number [] is = absurd (let e : false ≡ true = is in cc)
live_in number (call ∷ calls) is = live_case number call calls (live_in number calls) (call.number == number) refl is

pub live_found : (board : Board) (number : ℕ) → IsLive board number → (call : LiveShape) × (shape_numbered (board_shape board) number ≡ Some call)
live_found board number is = live_in number board.calls.list is

-- and what has a shape is live
find_case : (number : ℕ) (c : LiveCall) (calls : List LiveCall) (call : LiveShape)
    → (first (filter (λ (x : LiveShape). x.number == number) (live_shapes calls)) ≡ Some call → list_any (λ (x : LiveCall). x.number == number) calls ≡ true)
    → (t : Bool) → (c.number == number) ≡ t → first (filter (λ (x : LiveShape). x.number == number) (live_shapes (c ∷ calls))) ≡ Some call
    → list_any (λ (x : LiveCall). x.number == number) (c ∷ calls) ≡ true
find_case number c calls call rest true q is = ap (λ (b : Bool). b || list_any (λ (x : LiveCall). x.number == number) calls) q
find_case number c calls call rest false q is =
    let others = filter (λ (x : LiveShape). x.number == number) (live_shapes calls) in
    ap (λ (b : Bool). b || list_any (λ (x : LiveCall). x.number == number) calls) q
    ∙ rest (sym (ap (λ (b : Bool). first (cond b (live_shape c ∷ others) others)) q) ∙ is)

find_live : (number : ℕ) (calls : List LiveCall) (call : LiveShape) → first (filter (λ (x : LiveShape). x.number == number) (live_shapes calls)) ≡ Some call
    → list_any (λ (x : LiveCall). x.number == number) calls ≡ true
find_live number [] call is = absurd (let wrong : None ≡ Some call = is in cc)
find_live number (c ∷ calls) call is = find_case number c calls call (λ q. find_live number calls call q) (c.number == number) refl is

pub found_live : (board : Board) (number : ℕ) (call : LiveShape) → shape_numbered (board_shape board) number ≡ Some call → IsLive board number
found_live board number call is = find_live number board.calls.list call is

-- Its legs.

-- the leases of a cell's legs are those by which the legs hold their pairs
leases_by_holders : (config : Config) (cell call : ℕ) (legs : List CellLegShape) → ((leg : CellLegShape) → In leg legs → IsLegOf config cell call leg)
    → map (λ (leg : CellLegShape). leg.lease) legs ≡ map (leg_lease config) (map (λ (leg : CellLegShape). leg.holder) legs)
leases_by_holders config cell call [] are = refl
leases_by_holders config cell call (leg ∷ legs) are =
    ap (λ (l : Lease). l ∷ map (λ (x : CellLegShape). x.lease) legs) (are leg (here refl)).lease_is
    ∙ ap (λ (ls : List Lease). leg_lease config leg.holder ∷ ls) (leases_by_holders config cell call legs (λ l i. are l (there i)))

some_is : (o : Option Holder) (leg : Holder) → o ≡ Some leg → IsSome o
some_is o leg is = subst (λ (x : Option Holder). IsSome x) (sym is) refl

at_cell : (config : Config) (cell pair : ℕ) → cell ≤ config.max_sessions → (w : Owed) → In w (in_cell_of cell End ∷ []) → w.place ≡ box_of config pair → ⊥
at_cell config cell pair high w (here q) at = let is = ap (λ (v : Owed). v.place) q in omega (arith, is, at, high)
at_cell config cell pair high w (there i) at = elim i [ ]

-- leases that are out and of pairs of the range are of different pairs of it
pub out_leased : (config : Config) (pool : Pairs) (leases : List Lease) → AreOut pool leases → ((pair : ℕ) → In pair (pairs_in leases) → pair < pair_count config)
    → AreLeased config leases
out_leased config pool [] out below = record { differ = tt }
out_leased config pool (lease ∷ leases) out below =
    record { differ = (below lease.pair (here refl), out.1, (out_leased config pool leases out.2 (λ pair i. below pair (there i))).differ) }

module _ {M I O T : Type 0} {g : _} where
  -- its cell is one of the table's, and has few legs
  pub ending_cell : (config : Config) (hand : Hand M (Part I O) Made T g) (before after : Board) (log : Option (List PortCall)) (call cell : ℕ)
      → CanEnd config hand before log call → ShapeEnds call cell (board_shape before) (board_shape after)
      → (1 ≤ cell) × (cell ≤ config.max_sessions) × IsSmall (cell_kept config hand cell).legs
  ending_cell config hand before after log call cell can ends =
      let k = can.live in
      let board = board_shape before in
      let relay = relay_after config (starts hand) (made_by hand) board in
      let found_both : Some ends.call ≡ Some k = sym ends.found ∙ can.found in
      let one : ends.call ≡ k = cc in
      let cell_is : cell ≡ k.cell = ends.cell_is ∙ ap (λ (c : LiveShape). c.cell) one in
      let alive = found_in board call k can.found in
      let within = cell_within config board relay.cells relay.holders k can.whole alive in
      let low = within.0 in
      let high = within.1 in (
        omega (arith, low, cell_is),
        omega (arith, high, cell_is),
        subst (λ (c : ℕ). IsSmall (cell_kept config hand c).legs) (sym cell_is) (cell_is_small config board relay.cells relay.holders k can.whole alive),
      )

  -- they may be closed when it has ended
  pub ended_can : (config : Config) (number moment : ℕ) (old new : Hand M (Part I O) Made T g) (before after : Board) (log : Option (List PortCall)) (call cell : ℕ)
      (gone : List (Lease × O × O)) → CanEnd config old before log call → ShapeEnds call cell (board_shape before) (board_shape after) → starts new ≡ starts old
      → GainsNested number moment (in_cell_of cell End ∷ []) old new
      → (AllHaveEnds (cell_kept config old cell) → leases_of_legs gone ≡ map (λ (leg : CellLegShape). leg.lease) (cell_kept config old cell).legs)
      → CanClose config new after log gone
  ended_can config number moment old new before after log call cell gone can ends same gains left =
      let k = can.live in
      let board = board_shape before in
      let relay = relay_after config (starts old) (made_by old) board in
      let found_both : Some ends.call ≡ Some k = sym ends.found ∙ can.found in
      let one : ends.call ≡ k = cc in
      let cell_is : cell ≡ k.cell = ends.cell_is ∙ ap (λ (c : LiveShape). c.cell) one in
      let alive = found_in board call k can.found in
      let agrees = found_agrees config relay call k can.whole can.found in
      let within = cell_within config board relay.cells relay.holders k can.whole alive in
      let high = within.1 in
      let legs = (cell_kept config old k.cell).legs in
      let leases : leases_of_legs gone ≡ map (λ (leg : CellLegShape). leg.lease) legs
      = subst (λ (c : ℕ). AllHaveEnds (cell_kept config old c) → leases_of_legs gone ≡ map (λ (leg : CellLegShape). leg.lease) (cell_kept config old c).legs)
      cell_is left (λ leg i. (agrees.legs leg i).has_ends) in
      let held : leases_of_legs gone ≡ map (leg_lease config) (cell_holders (cell_kept config old k.cell))
      = leases ∙ leases_by_holders config k.cell k.number legs agrees.legs in
      let pool : after.pool ≡ before.pool = ap (λ (shape : BoardShape). shape.pool) ends.shape_is in
      let its = λ (pair : ℕ) (i : In pair (pairs_in (leases_of_legs gone))).
      (let lease = mapped (λ (l : Lease). l.pair) (leases_of_legs gone) i in
      let leg = mapped (λ (l : CellLegShape). l.lease) legs (subst (λ (ls : List Lease). In lease.from ls) leases lease.is_in) in
      let pair_is : leg.from.holder.pair ≡ pair
      = sym (ap (λ (l : Lease). l.pair) (agrees.legs leg.from leg.is_in).lease_is) ∙ ap (λ (l : Lease). l.pair) leg.makes ∙ lease.makes in
      let found : (l : CellLegShape) × (In l legs × (l.holder.pair ≡ pair)) = (leg.from, (leg.is_in, pair_is)) in found) in
      record {
        out = subst (λ (p : Pairs). AreOut p (leases_of_legs gone)) (sym pool)
            (subst (λ (ls : List Lease). AreOut before.pool ls) (sym held) (numbered_all_out config relay call k can.whole can.found));
        of_range = λ pair i. (let l = its pair i in let below = (agrees.legs l.0 l.1.0).pair in let is = l.1.1 in omega (arith, below, is));
        boxes_open = λ pair i.
            let l = its pair i in
            still_open config number moment pair (in_cell_of cell End ∷ []) old new same gains (at_cell config cell pair (omega (arith, high, cell_is)))
            (subst (λ (p : ℕ). IsSome (relay.holders p)) l.1.1
            (some_is (relay.holders l.0.holder.pair) l.0.holder (leg_is_open config board relay.cells relay.holders k l.0 can.whole alive l.1.0)));
        held = can.held;
        opens = can.opens;
        are_held = λ pair i. (let l = its pair i in subst (λ (p : ℕ). has can.held p ≡ true) l.1.1 (can.are_held l.0 l.1.0));
      }
