-- The ports of the pairs whose boxes are open, while calls are asked and end.
use Rattle.std.proofs.Common.{◌≡◌, ◌∙◌, ◌+◌, refl, sym, ap, subst, ℕ, zero, suc, ◌<◌, ◌==◌, Bool, true, false, cond, not, List, [], ◌∷◌, ◌++◌, Option, Some, None, map, filter, length, append-nil, arith}
use Rattle.std.specs.Prelude.{◌&&◌, ◌||◌, IsSome, slice_get}
use Rattle.std.specs.List.{list_any}
use Rattle.relay_outside.specs.declared.ports.PortCall.{PortCall}
use Rattle.relay_outside.specs.declared.settings.Config.{Config}
use Rattle.relay_outside.specs.DeviceLogs.{WhereLogged}
use Rattle.turn_table.specs.declared.hands.Hand.{Hand}
use Rattle.turn_table.specs.Hands.{starts}
use Rattle.histories.specs.Words.{In, has, first}
use Rattle.histories.proofs.Lists.{equal}
use Rattle.port_pool.specs.declared.holder.Holder.{Holder}
use Rattle.port_pool.specs.declared.holder.Side.TheVariants.{A}
use Rattle.port_pool.specs.declared.pairs.Lease.{Lease}
use Rattle.port_pool.specs.Ports.{pair_count}
use Rattle.call_cell.specs.Cells.{CellEvent, Expire, End}
use Rattle.call_board.specs.Acts.{BoardEntry}
use Rattle.call_board.specs.declared.board.Board.{Board}
use Rattle.call_board.specs.declared.live_call.LiveCall.{LiveCall}
use Rattle.call_board.specs.Boards.{BoardMatches, IsLive, pairs_in}
use Rattle.call_board.specs.Pairs.{held, free}
use Rattle.call_board.specs.Shapes.{BoardShape, LiveShape, ShapeEnds, board_shape, live_shape, live_shapes, without_live}
use Rattle.call_board.specs.Views.{View}
use Rattle.call_shapes.specs.Turns.{pairs_held}
use Rattle.call_shapes.proofs.Needs.{leg_is_open}
use Rattle.relay_core.specs.declared.part.Part.{Part}
use Rattle.relay_core.specs.Entries.{box_of}
use Rattle.relay_core.specs.KeptAfter.{IsWholeWith, holders_after, relay_after}
use Rattle.relay_core.specs.Records.{Made}
use Rattle.relay_core.specs.Scripts.{Owed}
use Rattle.relay_core.specs.Turns.{GainsNested, made_by}
use Rattle.relay_core.proofs.KeptGained.{hand_holders}
use Rattle.relay_core.proofs.KeptScripts.{closed_all}
use Rattle.media_ports.specs.OpenPorts.{OpensHeld, LogsHeld}
use Rattle.board_turns.specs.NestedSteps.{holder_now}
use Rattle.board_turns.specs.InCells.{in_cell_of}
use Rattle.board_turns.specs.Closings.{closings_of, leases_of_legs, pairs_left}
use Rattle.board_turns.specs.CallEnds.{CanEnd, HoldsOpen, leg_pairs}
use Rattle.board_turns.proofs.Expiring.{question}
use Rattle.board_turns.proofs.KeptEnds.{closings_alike, found_agrees}
use Rattle.board_turns.proofs.Lefts.{has_left, left_none, told_alike}
use Rattle.board_turns.proofs.TakenPairs.{taken_held, free_shut}
use Rattle.board_turns.proofs.WholeCalls.{found_in, live_found}

-- A list of calls that one leaves.

without_case : (number : ℕ) (c : LiveShape) (calls : List LiveShape) (call : LiveShape)
    → (first (filter (λ (x : LiveShape). x.number == number) calls) ≡ Some call → length calls ≡ suc (length (without_live number calls)))
    → (t : Bool) → (c.number == number) ≡ t → first (filter (λ (x : LiveShape). x.number == number) (c ∷ calls)) ≡ Some call
    → length (c ∷ calls) ≡ suc (length (without_live number (c ∷ calls)))
without_case number c calls call rest true q is = ap (λ (b : Bool). suc (length (cond b calls (c ∷ without_live number calls)))) (sym q)
without_case number c calls call rest false q is =
    let others = filter (λ (x : LiveShape). x.number == number) calls in
    ap suc (rest (sym (ap (λ (b : Bool). first (cond b (c ∷ others) others)) q) ∙ is))
    ∙ ap (λ (b : Bool). suc (length (cond b calls (c ∷ without_live number calls)))) (sym q)

without_fewer : (number : ℕ) (calls : List LiveShape) (call : LiveShape) → first (filter (λ (x : LiveShape). x.number == number) calls) ≡ Some call
    → length calls ≡ suc (length (without_live number calls))
without_fewer number [] call is = absurd (let wrong : None ≡ Some call = is in cc)
without_fewer number (c ∷ calls) call is = without_case number c calls call (λ q. without_fewer number calls call q) (c.number == number) refl is

pub ended_fewer : (number cell : ℕ) (old new : BoardShape) → ShapeEnds number cell old new → length old.calls ≡ length new.calls + 1
ended_fewer number cell old new ends =
    let one = without_fewer number old.calls ends.call ends.found in
    let is = ap (λ (s : BoardShape). length s.calls) ends.shape_is in
    omega (arith, one, is)

-- One that is kept at a place is live.

or_true : (b : Bool) → (b || true) ≡ true
or_true true = refl
or_true false = refl

live_there : (calls : List LiveCall) (i : ℕ) (call : LiveShape) → slice_get (live_shapes calls) i ≡ Some call
    → list_any (λ (c : LiveCall). c.number == call.number) calls ≡ true
live_there [] i call at = absurd (let wrong = at in cc)
live_there (c ∷ calls) zero call at =
    let is : Some (live_shape c) ≡ Some call = at in
    let same : live_shape c ≡ call = cc in
    ap (λ (s : LiveShape). (c.number == s.number) || list_any (λ (x : LiveCall). x.number == s.number) calls) (sym same)
    ∙ ap (λ (b : Bool). b || list_any (λ (x : LiveCall). x.number == c.number) calls) (equal c.number c.number refl)
live_there (c ∷ calls) (suc i) call at =
    ap (λ (b : Bool). (c.number == call.number) || b) (live_there calls i call at) ∙ or_true (c.number == call.number)

pub kept_live : (board : Board) (i : ℕ) (call : LiveShape) → slice_get (board_shape board).calls i ≡ Some call → IsLive board call.number
kept_live board i call at = live_there board.calls.list i call at

-- The boxes.

either : (t : Bool) (o : Option Holder) → cond t o o ≡ o
either true o = refl
either false o = refl

module _ {O : Type 0} where
  -- legs with these pairs
  abbrev with_pair : Lease × O × O → Holder
  with_pair leg = record { cell = 0; call = 0; section = 0; side = A; pair = leg.0.pair; generation = 0 }

  their_pairs : (gone : List (Lease × O × O)) → pairs_in (leases_of_legs gone) ≡ pairs_held (map with_pair gone)
  their_pairs [] = refl
  their_pairs (leg ∷ gone) = ap (λ (ps : List ℕ). leg.0.pair ∷ ps) (their_pairs gone)

  module _ {M I T : Type 0} {g : _} (config : Config) (number moment : ℕ) (old new : Hand M (Part I O) Made T g) (same : starts new ≡ starts old) where
    -- a cell's event leaves them as they are
    cell_leaves : (cell : ℕ) (event : CellEvent) → GainsNested number moment (in_cell_of cell event ∷ []) old new → (pair : ℕ)
        → holder_now config new pair ≡ holder_now config old pair
    cell_leaves cell event gains pair =
        hand_holders config number moment (in_cell_of cell event ∷ []) old new same gains pair
        ∙ either (cell == box_of config pair) (holder_now config old pair)

    pub holds_after : (log : Option (List PortCall)) → ((pair : ℕ) → holder_now config new pair ≡ holder_now config old pair) → HoldsOpen config old log → HoldsOpen config new log
    holds_after log are holds = record {
      held = holds.held;
      opens = holds.opens;
      are_held = λ pair below is_open. holds.are_held pair below (subst (λ (o : Option Holder). IsSome o) (are pair) is_open);
    }

    pub holds_asked : (log : Option (List PortCall)) (cell : ℕ) (due : Bool) → GainsNested number moment (in_cell_of cell (Expire due) ∷ []) old new
        → HoldsOpen config old log → HoldsOpen config new log
    holds_asked log cell due gains = holds_after log (λ pair. cell_leaves cell (Expire due) gains pair)

    pub holds_question : (log : Option (List PortCall)) (cell : ℕ) (overdue : Bool) → GainsNested number moment (question cell overdue) old new
        → HoldsOpen config old log → HoldsOpen config new log
    holds_question log cell true gains = holds_after log (λ pair. hand_holders config number moment [] old new same gains pair)
    holds_question log cell false gains = holds_asked log cell true gains

    -- the end of a call shuts those of its legs
    ended_boxes : (cell : ℕ) (gone : List (Lease × O × O)) → GainsNested number moment (in_cell_of cell End ∷ closings_of config gone) old new → (pair : ℕ)
        → holder_now config new pair ≡ cond (has (pairs_in (leases_of_legs gone)) pair) None (holder_now config old pair)
    ended_boxes cell gone gains pair =
        let legs = map with_pair gone in
        let ps = pairs_in (leases_of_legs gone) in
        let pairs_are = their_pairs gone in
        let mid : ℕ → Option Holder = holders_after config (in_cell_of cell End ∷ []) (holder_now config old) in
        hand_holders config number moment (in_cell_of cell End ∷ closings_of config gone) old new same gains pair
        ∙ ap (λ (ws : List Owed). holders_after config ws mid pair) (closings_alike config gone legs pairs_are)
        ∙ closed_all config legs mid pair
        ∙ ap (λ (qs : List ℕ). cond (has qs pair) None (mid pair)) (sym pairs_are)
        ∙ ap (λ (o : Option Holder). cond (has ps pair) None o) (either (cell == box_of config pair) (holder_now config old pair))

    pub holds_ended : (log after : Option (List PortCall)) (cell : ℕ) (gone : List (Lease × O × O)) → GainsNested number moment (in_cell_of cell End ∷ closings_of config gone) old new
        → ((held : List ℕ) → WhereLogged log (λ calls. OpensHeld config calls held)
        → WhereLogged after (λ calls. OpensHeld config calls (pairs_left (pairs_in (leases_of_legs gone)) held)))
        → HoldsOpen config old log → HoldsOpen config new after
    holds_ended log after cell gone gains closes holds = record {
      held = pairs_left (pairs_in (leases_of_legs gone)) holds.held;
      opens = closes holds.held holds.opens;
      are_held = λ pair below is_open.
          has_left (pairs_in (leases_of_legs gone)) holds.held pair
          ∙ by_pair pair below (has (pairs_in (leases_of_legs gone)) pair) (subst (λ (o : Option Holder). IsSome o) (ended_boxes cell gone gains pair) is_open);
    }
      where
        by_pair : (pair : ℕ) → pair < pair_count config → (t : Bool) → IsSome (cond t None (holder_now config old pair)) → (not t && has holds.held pair) ≡ true
        by_pair pair below true is_open = absurd (let wrong : false ≡ true = is_open in cc)
        by_pair pair below false is_open = holds.are_held pair below is_open

some_held : (o : Option Holder) (leg : Holder) → o ≡ Some leg → IsSome o
some_held o leg is = subst (λ (x : Option Holder). IsSome x) (sym is) refl

module _ {M I O T : Type 0} {g : _} where
  -- so each live call may be ended
  pub holds_can : (config : Config) (hand : Hand M (Part I O) Made T g) (board : Board) (log : Option (List PortCall)) (number : ℕ) → IsWholeWith config hand (board_shape board)
      → HoldsOpen config hand log → IsLive board number → CanEnd config hand board log number
  holds_can config hand board log number whole holds live =
      let k = live_found board number live in
      let relay = relay_after config (starts hand) (made_by hand) (board_shape board) in
      let agrees = found_agrees config relay number k.0 whole k.1 in
      let alive = found_in (board_shape board) number k.0 k.1 in
      record {
        whole = whole;
        live = k.0;
        found = k.1;
        held = holds.held;
        opens = holds.opens;
        are_held = λ leg i. holds.are_held leg.holder.pair (agrees.legs leg i).pair
            (some_held (relay.holders leg.holder.pair) leg.holder (leg_is_open config (board_shape board) relay.cells relay.holders k.0 leg whole alive i));
      }

  -- the ports of held pairs are those of the boxes that are open, by a board that stands for a history but for what came back
  pub history_holds : (config : Config) (hand : Hand M (Part I O) Made T g) (board : Board) (log : Option (List PortCall)) (h : List BoardEntry) (returned : List ℕ) (v : View)
      → IsWholeWith config hand (board_shape board) → BoardMatches config board v → v.free ≡ free config h ++ returned
      → WhereLogged log (λ calls. OpensHeld config calls (pairs_left returned (leg_pairs (held h)))) → HoldsOpen config hand log
  history_holds config hand board log h returned v whole shows free_is opens = record {
    held = pairs_left returned (leg_pairs (held h));
    opens = opens;
    are_held = λ pair below is_open.
        taken_held config h returned pair below (λ i. none_open
        (subst (λ (o : Option Holder). IsSome o) (free_shut config hand board v pair whole shows (subst (λ (ps : List ℕ). In pair ps) (sym free_is) i)) is_open));
  }
    where
      none_open : IsSome {T = Holder} None → ⊥
      none_open is = absurd (let wrong : false ≡ true = is in cc)

  -- of all that it holds
  pub board_holds : (config : Config) (hand : Hand M (Part I O) Made T g) (board : Board) (log : Option (List PortCall)) (h : List BoardEntry) (v : View)
      → IsWholeWith config hand (board_shape board) → BoardMatches config board v → v.free ≡ free config h → LogsHeld config log (leg_pairs (held h)) → HoldsOpen config hand log
  board_holds config hand board log h v whole shows free_is opens =
      history_holds config hand board log h [] v whole shows (free_is ∙ sym (append-nil (free config h)))
      (told_alike config log (leg_pairs (held h)) (pairs_left [] (leg_pairs (held h))) (left_none (leg_pairs (held h))) opens)
