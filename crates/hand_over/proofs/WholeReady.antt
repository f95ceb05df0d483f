-- Of whole parts all calls are ready to be closed.
use Rattle.std.proofs.Common.{◌≡◌, ◌∙◌, sym, ap, subst, refl, ◌<◌, ◌≤◌, ◌+◌, ℕ, Bool, true, false, List, [], ◌∷◌, ◌++◌, map, Option, Some, None, arith}
use Rattle.std.specs.Prelude.{slice_get}
use Rattle.std.proofs.lemmas.List.{map-append}
use Rattle.relay_outside.specs.declared.ports.InCall.{InCall}
use Rattle.relay_outside.specs.declared.ports.OutCall.{OutCall}
use Rattle.relay_outside.specs.declared.ports.PortCall.{PortCall}
use Rattle.relay_outside.specs.declared.address.Addr.{Addr}
use Rattle.relay_outside.specs.declared.settings.Config.{Config}
use Rattle.relay_outside.specs.DeviceLogs.{EndLog, WhereLogged}
use Rattle.rtp_packet.specs.declared.head.Half.TheVariants.{Rtp}
use Rattle.histories.specs.Words.{In, here, there, has}
use Rattle.histories.proofs.Lists.{in_left, in_right, it_has, maps, mapped, spreads, spread, keeps, equal}
use Rattle.port_pool.specs.declared.holder.Holder.{Holder}
use Rattle.port_pool.specs.declared.boxes.Opened.{Opened}
use Rattle.port_pool.specs.PairBoxes.{holder_in, holder_of, pair_ends, at_of}
use Rattle.port_pool.specs.Pools.{Pairs, AreFree, AreFrom}
use Rattle.port_pool.specs.Ports.{AreOfPair, pair_count, port_address}
use Rattle.call_cell.specs.declared.leg.Leg.{Leg}
use Rattle.call_cell.specs.Shapes.{CellLegShape, cell_shape, cell_leg_shape}
use Rattle.call_board.specs.Shapes.{LiveShape, board_shape}
use Rattle.call_shapes.specs.Agreement.{CallAgrees}
use Rattle.call_shapes.specs.WholeRelay.{PoolHolds, cells_of_calls, held_legs, holder_among}
use Rattle.call_shapes.specs.Turns.{pairs_held}
use Rattle.call_shapes.proofs.Times.{times, times_none, stands}
use Rattle.call_shapes.proofs.Pools.{once_times}
use Rattle.call_shapes.proofs.Holders.{found_among}
use Rattle.media_ports.specs.Addresses.{pair_addresses}
use Rattle.media_ports.specs.Calls.{AllOpen}
use Rattle.media_ports.proofs.Telling.{told_less}
use Rattle.relay_core.specs.declared.part.Part.{Part}
use Rattle.relay_core.specs.declared.part.Part.TheVariants as part
use Rattle.relay_core.specs.Entries.{box_of}
use Rattle.relay_core.specs.PlaceHistories.{AreHome, LegsHome}
use Rattle.relay_core.specs.WholeParts.{AreWholeParts, shape_of_part, cell_shape_at, holder_of_part}
use Rattle.hand_over.specs.Closings.{legs_there, legs_at, pairs_of_all_legs}
use Rattle.hand_over.specs.ClosingSteps.{IsPairOpen, pairs_of_legs, HoldsEnds, AreReady, IsCellReady}
use Rattle.relay_core.specs.Homes.{AreEndsHome}
use Rattle.hand_over.proofs.OneClosed.{legs_of_cell}
use Rattle.hand_over.proofs.RestCalls.{AreRest}

-- Numbers of which each stands once.

pub free_from : (count : ℕ) (xs : List ℕ) → ((n : ℕ) → In n xs → n < count) → ((n : ℕ) → n < count → times n xs ≤ 1) → AreFree count xs
free_from count [] low once = tt
free_from count (x ∷ xs) low once =
    let mine = low x (here refl) in
    let one = once x mine in
    let self = stands x (x ∷ []) (here refl) in
    (mine, times_none x xs (omega (arith, one, self)), free_from count xs (λ n i. low n (there i)) (λ n b. let o = once n b in omega (arith, o)))

pub free_left : (count : ℕ) (xs ys : List ℕ) → AreFree count (xs ++ ys) → AreFree count xs
free_left count [] ys free = tt
free_left count (x ∷ xs) ys free = (free.0, by (has xs x) refl, free_left count xs ys free.2)
  where
    by : (b : Bool) → has xs x ≡ b → has xs x ≡ false
    by false is = is
    by true is = absurd (let f = sym (it_has x (xs ++ ys) (in_left xs ys (Rattle.histories.proofs.Lists.has_it x xs is))) ∙ free.1 in cc)

pub free_right : (count : ℕ) (xs ys : List ℕ) → AreFree count (xs ++ ys) → AreFree count ys
free_right count [] ys free = free
free_right count (x ∷ xs) ys free = free_right count xs ys free.2

pub free_apart : (count : ℕ) (xs ys : List ℕ) → AreFree count (xs ++ ys) → (n : ℕ) → In n xs → In n ys → ⊥
free_apart count [] ys free n i j = elim i [ ]
free_apart count (x ∷ xs) ys free n (here same) j = absurd (let f = sym (it_has x (xs ++ ys) (in_right xs ys (subst (λ (m : ℕ). In m ys) same j))) ∙ free.1 in cc)
free_apart count (x ∷ xs) ys free n (there i) j = free_apart count xs ys free.2 n i j

-- The ports of one of several pairs.

pub open_one : (config : Config) (pairs : List ℕ) (pair : ℕ) (calls : List PortCall) → In pair pairs → AllOpen (pair_addresses config pairs) calls → AllOpen (pair_addresses config (pair ∷ [])) calls
open_one config [] pair calls among opened = elim among [ ]
open_one config (p ∷ pairs) pair calls (here same) opened =
    subst (λ (q : ℕ). AllOpen (pair_addresses config (q ∷ [])) calls) (sym same) (opened.0, (opened.1.0, tt))
open_one config (p ∷ pairs) pair calls (there more) opened = open_one config pairs pair calls more opened.1.1

-- The legs of a cell, by its shape.

module _ {O : Type 0} where
  pairs_shaped : (legs : List (Leg O)) → map (λ (leg : Holder). leg.pair) (map (λ (leg : CellLegShape). leg.holder) (map (λ (leg : Leg O). cell_leg_shape leg) legs)) ≡ map (λ (leg : Leg O). leg.holder.pair) legs
  pairs_shaped [] = refl
  pairs_shaped (leg ∷ legs) = ap (λ (ps : List ℕ). leg.holder.pair ∷ ps) (pairs_shaped legs)

module _ {I O : Type 0} where
  pairs_in_shape : (config : Config) (o : Option (Part I O)) → pairs_held (map (λ (leg : CellLegShape). leg.holder) (shape_of_part config o).legs) ≡ pairs_of_legs (legs_there o)
  pairs_in_shape config None = refl
  pairs_in_shape config (Some (part.Board b)) = refl
  pairs_in_shape config (Some (part.Cell c)) = pairs_shaped c.legs.items
  pairs_in_shape config (Some (part.Pair p)) = refl

  pairs_of_call : (config : Config) (parts : List (Part I O)) (calls : List LiveShape) → pairs_held (held_legs (cell_shape_at config parts) calls) ≡ pairs_of_all_legs parts calls
  pairs_of_call config parts [] = refl
  pairs_of_call config parts (call ∷ calls) =
      map-append (λ (leg : Holder). leg.pair) (map (λ (leg : CellLegShape). leg.holder) (cell_shape_at config parts call.cell).legs) (held_legs (cell_shape_at config parts) calls)
      ∙ ap (λ (ps : List ℕ). ps ++ pairs_held (held_legs (cell_shape_at config parts) calls)) (pairs_in_shape config (slice_get parts call.cell))
      ∙ ap (λ (ps : List ℕ). pairs_of_legs (legs_at parts call.cell) ++ ps) (pairs_of_call config parts calls)

  -- the pairs of all legs differ
  pub pairs_free : (config : Config) (parts : List (Part I O)) (pool : Pairs) (calls : List LiveShape) → PoolHolds config pool (held_legs (cell_shape_at config parts) calls)
      → AreFree (pair_count config) (pairs_of_all_legs parts calls)
  pairs_free config parts pool calls holds =
      let held = held_legs (cell_shape_at config parts) calls in
      subst (λ (ps : List ℕ). AreFree (pair_count config) ps) (pairs_of_call config parts calls)
      (free_from (pair_count config) (pairs_held held)
      (λ n i. let m = mapped (λ (leg : Holder). leg.pair) held i in subst (λ (k : ℕ). k < pair_count config) m.makes (holds.generations m.from m.is_in).0)
      (λ n b. let one = once_times config pool held holds n b in omega (arith, one)))

-- an open box has ends
module _ {I : Type 0} where
  ends_by : (o : Option (Opened I)) (leg : Holder) → holder_of o ≡ Some leg → (ends : I × I) × (pair_ends o ≡ Some ends)
  ends_by None leg is = absurd (let q = is in cc)
  ends_by (Some opened) leg is = ((opened.rtp, opened.rtcp), refl)

-- One call.

pub from_low : (calls : List LiveShape) (call : LiveShape) → In call calls → AreFrom 1 (cells_of_calls calls) → 1 ≤ call.cell
from_low [] call i low = elim i [ ]
from_low (c ∷ calls) call (here same) low = subst (λ (x : LiveShape). 1 ≤ x.cell) (sym same) low.0
from_low (c ∷ calls) call (there i) low = from_low calls call i low.1

pub below_free : (count : ℕ) (calls : List LiveShape) (call : LiveShape) → In call calls → AreFree count (cells_of_calls calls) → call.cell < count
below_free count [] call i free = elim i [ ]
below_free count (c ∷ calls) call (here same) free = subst (λ (x : LiveShape). x.cell < count) (sym same) free.0
below_free count (c ∷ calls) call (there i) free = below_free count calls call i free.2

module _ {I O : Type 0} (taken : I → EndLog InCall) (sent : O → EndLog OutCall) where
  -- the box of a held pair has its ends, at home
  box_ready : (config : Config) (parts : List (Part I O)) (whole : AreWholeParts config parts) → AreEndsHome taken sent config parts → (leg : Holder)
      → In leg (held_legs (cell_shape_at config parts) (board_shape whole.board).calls)
      → (ends : I × I) × HoldsEnds parts (box_of config leg.pair) ends × AreOfPair taken (port_address config leg.pair Rtp) ends.0 ends.1
  box_ready config parts whole home leg among =
      let held = held_legs (cell_shape_at config parts) (board_shape whole.board).calls in
      let pool = whole.whole.pool in
      let below = (pool.generations leg among).0 in
      let has = whole.boxes leg.pair below in
      let one = once_times config (board_shape whole.board).pool held pool leg.pair below in
      let found : holder_among held leg.pair ≡ Some leg = found_among leg.pair held leg among refl (omega (arith, one)) in
      let holder : holder_in has.0 ≡ Some leg = sym (ap (λ (o : Option (Part I O)). holder_of_part o) has.1) ∙ whole.whole.held leg.pair below ∙ found in
      let ends = ends_by has.0.opened leg holder in
      let at_home = home.boxes leg.pair (part.Pair has.0) below has.1 in (
        ends.0,
        record { box = has.0; box_is = has.1; ends_are = ends.1 },
        subst (λ (a : Addr). AreOfPair taken a ends.0.0 ends.0.1) at_home.0 (subst (λ (o : Option (I × I)). AreHome taken (at_of has.0) o) ends.1 at_home.1),
      )

  ready_by : (config : Config) (parts : List (Part I O)) (log : Option (List PortCall)) (pair : ℕ) (ends : Option (O × O)) → AreHome sent (port_address config pair Rtp) ends
      → ((ins : I × I) × HoldsEnds parts (box_of config pair) ins × AreOfPair taken (port_address config pair Rtp) ins.0 ins.1) → IsPairOpen config log pair
      → AreReady taken sent config parts log pair ends
  ready_by config parts log pair None home box_ opened = tt
  ready_by config parts log pair (Some ends) home box_ opened = (home, box_.0, box_.1, box_.2, opened)

  -- a call's cell is ready, where the pairs of its legs differ
  pub call_ready : (config : Config) (parts : List (Part I O)) (log : Option (List PortCall)) (whole : AreWholeParts config parts) → AreEndsHome taken sent config parts
      → WhereLogged log (AllOpen (pair_addresses config (pairs_of_all_legs parts (board_shape whole.board).calls)))
      → (call : LiveShape) → In call (board_shape whole.board).calls → AreFree (pair_count config) (pairs_of_legs (legs_at parts call.cell)) → IsCellReady taken sent config parts log call.cell
  call_ready config parts log whole home opened call among free =
      let calls = (board_shape whole.board).calls in
      let low = from_low calls call among whole.whole.low in
      let high = below_free (config.max_sessions + 1) calls call among whole.whole.apart in
      let has = whole.cells call.cell low (omega (arith, high)) in
      let c = has.0 in
      let agrees : CallAgrees config call.cell call.number call.dialog (cell_shape c) =
      subst (λ (o : Option (Part I O)). CallAgrees config call.cell call.number call.dialog (shape_of_part config o)) has.1 (whole.whole.calls call among) in
      let legs_are = legs_of_cell parts call.cell c has.1 in
      let at_home : LegsHome sent config c.legs.items = (home.cells call.cell (part.Cell c) low (omega (arith, high)) has.1).legs in
      record {
        cell = c;
        cell_is = has.1;
        config_is = agrees.config_is;
        within = omega (arith, high);
        apart = subst (λ (l : List (Leg O)). AreFree (pair_count config) (pairs_of_legs l)) legs_are free;
        legs = λ leg i.
            let is = agrees.legs (cell_leg_shape leg) (maps (λ (l : Leg O). cell_leg_shape l) c.legs.items i) in
            let shape_in : In leg.holder (map (λ (l : CellLegShape). l.holder) (cell_shape_at config parts call.cell).legs) =
            subst (λ (o : Option (Part I O)). In leg.holder (map (λ (l : CellLegShape). l.holder) (shape_of_part config o).legs)) (sym has.1)
            (maps (λ (l : CellLegShape). l.holder) (cell_shape c).legs (maps (λ (l : Leg O). cell_leg_shape l) c.legs.items i)) in
            let held = spreads (λ (one : LiveShape). map (λ (l : CellLegShape). l.holder) (cell_shape_at config parts one.cell).legs) calls among shape_in in
            let pair_in : In leg.holder.pair (pairs_of_all_legs parts calls) =
            spreads (λ (one : LiveShape). map (λ (l : Leg O). l.holder.pair) (legs_at parts one.cell)) calls among
            (subst (λ (l : List (Leg O)). In leg.holder.pair (pairs_of_legs l)) (sym legs_are) (maps (λ (l : Leg O). l.holder.pair) c.legs.items i)) in
            record {
              lease_is = is.lease_is;
              ready = ready_by config parts log leg.holder.pair leg.sending.ends (at_home leg i) (box_ready config parts whole home leg.holder held)
                  (told_less log (AllOpen (pair_addresses config (pairs_of_all_legs parts calls))) (AllOpen (pair_addresses config (leg.holder.pair ∷ [])))
                  (λ more o. open_one config (pairs_of_all_legs parts calls) leg.holder.pair more pair_in o) opened);
            };
      }

  pub rest_at_first : (config : Config) (parts : List (Part I O)) (log : Option (List PortCall)) (calls : List LiveShape)
      → ((call : LiveShape) → In call calls → AreFree (pair_count config) (pairs_of_legs (legs_at parts call.cell)) → IsCellReady taken sent config parts log call.cell)
      → (count : ℕ) → AreFree count (cells_of_calls calls) → AreFree (pair_count config) (pairs_of_all_legs parts calls) → AreRest taken sent config parts log calls
  rest_at_first config parts log [] ready count cells pairs = tt
  rest_at_first config parts log (call ∷ calls) ready count cells pairs =
      let mine = pairs_of_legs (legs_at parts call.cell) in (
        ready call (here refl) (free_left (pair_count config) mine (pairs_of_all_legs parts calls) pairs),
        (λ other i. record {
          differ = λ same. absurd (let f = sym (subst (λ (n : ℕ). has (cells_of_calls calls) n ≡ true) same
              (it_has other.cell (cells_of_calls calls) (maps (λ (c : LiveShape). c.cell) calls i))) ∙ cells.1 in cc);
          pairs = λ pair x y. free_apart (pair_count config) mine (pairs_of_all_legs parts calls) pairs pair x
              (spreads (λ (one : LiveShape). map (λ (l : Leg O). l.holder.pair) (legs_at parts one.cell)) calls i y);
        }),
        rest_at_first config parts log calls (λ c i. ready c (there i)) count cells.2 (free_right (pair_count config) mine (pairs_of_all_legs parts calls) pairs),
      )
