-- What the board, the cells and the boxes keep goes together after calls ended, and after an offer was undone.
use Rattle.std.proofs.Common.{◌≡◌, ◌∙◌, refl, sym, ap, subst, ℕ, ◌+◌, ◌≤◌, ◌⊎◌, inl, inr, Bool, false, List, [], ◌∷◌, ◌++◌, arith}
use Rattle.std.proofs.lemmas.Bool.{cases_eq}
use Rattle.relay_outside.specs.declared.settings.Config.{Config}
use Rattle.histories.specs.Words.{In, here, there, has}
use Rattle.histories.proofs.Lists.{in_append, in_left, in_right, maps}
use Rattle.port_pool.specs.declared.holder.Holder.{Holder}
use Rattle.port_pool.specs.Pools.{AreFree, AreFrom}
use Rattle.call_cell.specs.Shapes.{CellShape, ended_shape}
use Rattle.call_board.specs.Shapes.{LiveShape}
use Rattle.call_shapes.specs.Agreement.{CallAgrees}
use Rattle.call_shapes.specs.WholeRelay.{AreWhole, PoolHolds, AreMarked, ShapesRise, cells_of_calls, held_legs, holder_among}
use Rattle.call_shapes.specs.Turns.{RelayShape, CallLeaves, CallsLeave, none_more, one_more, OfferIsUndone, PoolMoves, holders_of, pairs_held}
use Rattle.call_shapes.proofs.Places.{flat_append, flat_alike}
use Rattle.call_shapes.proofs.Moved.{Moved, moved_around, moved_pool, moved_boxes}
use Rattle.call_shapes.proofs.Rising.{rises_without, cells_around, cells_without, nowhere_else, free_without, from_without, has_other, marked_by, cell_low, cell_high}
use Rattle.call_shapes.proofs.Relays.{legs_in, held_around, same_held, still_agrees, apart_in}
use Rattle.call_shapes.proofs.Times.{times, times_none, times_append}

abbrev Apart : (config : Config) (old new : RelayShape) → CallLeaves config old new → Type 0
Apart config old new step = AreFree (config.max_sessions + 1) (cells_of_calls step.front ++ step.call.cell ∷ cells_of_calls step.back)

apart : (config : Config) (old new : RelayShape) (step : CallLeaves config old new) → AreWhole config old.board old.cells old.holders → Apart config old new step
apart config old new step whole = apart_in config old step.front step.call step.back whole step.calls_were

agrees_by : (config : Config) (old new : RelayShape) (step : CallLeaves config old new) → AreWhole config old.board old.cells old.holders
    → (call : LiveShape) → In call step.front ⊎ In call step.back → CallAgrees config call.cell call.number call.dialog (new.cells call.cell)
agrees_by config old new step whole call (inl i) =
    let none = nowhere_else (config.max_sessions + 1) step.call.cell (cells_of_calls step.front) (cells_of_calls step.back) (apart config old new step whole) in
    still_agrees config old.cells new.cells step.call.cell step.front step.others none.0 call i
    (whole.calls call (subst (λ (l : List LiveShape). In call l) (sym step.calls_were) (in_left step.front (step.call ∷ step.back) i)))
agrees_by config old new step whole call (inr i) =
    let none = nowhere_else (config.max_sessions + 1) step.call.cell (cells_of_calls step.front) (cells_of_calls step.back) (apart config old new step whole) in
    still_agrees config old.cells new.cells step.call.cell step.back step.others none.1 call i
    (whole.calls call (subst (λ (l : List LiveShape). In call l) (sym step.calls_were) (in_right step.front (step.call ∷ step.back) (there i))))

went_moved : (gone old : List Holder) → gone ≡ old → Moved [] gone old []
went_moved gone old is = record {
  from = λ leg i. elim i [ ];
  went = λ leg i. subst (λ (l : List Holder). In leg l) is i;
  counts = λ pair. (let same = ap (λ (l : List Holder). times pair (pairs_held l)) is in omega (arith, same));
}

pub ends_moved : (config : Config) (old new : RelayShape) (step : CallLeaves config old new) → AreWhole config old.board old.cells old.holders
    → Moved [] step.gone (held_legs old.cells old.board.calls) (held_legs new.cells new.board.calls)
ends_moved config old new step whole =
    let none = nowhere_else (config.max_sessions + 1) step.call.cell (cells_of_calls step.front) (cells_of_calls step.back) (apart config old new step whole) in
    let front = held_legs old.cells step.front in
    let back = held_legs old.cells step.back in
    let moved = moved_around front back [] step.gone (legs_in old.cells step.call) [] (went_moved step.gone (legs_in old.cells step.call) step.legs) in
    let were : held_legs old.cells old.board.calls ≡ front ++ (legs_in old.cells step.call ++ back) =
    ap (held_legs old.cells) step.calls_were ∙ held_around old.cells step.front step.call step.back in
    let are : held_legs new.cells new.board.calls ≡ front ++ back =
    ap (held_legs new.cells) step.calls_are ∙ flat_append (legs_in new.cells) step.front step.back
    ∙ ap (λ (l : List Holder). l ++ held_legs new.cells step.back) (same_held old.cells new.cells step.call.cell step.front step.others none.0)
    ∙ ap (λ (l : List Holder). front ++ l) (same_held old.cells new.cells step.call.cell step.back step.others none.1) in
    subst (λ (l : List Holder). Moved [] step.gone l (held_legs new.cells new.board.calls)) (sym were)
    (subst (λ (l : List Holder). Moved [] step.gone (front ++ (legs_in old.cells step.call ++ back)) l) (sym are) moved)

returned : (config : Config) (old new : RelayShape) (step : CallLeaves config old new) → PoolMoves [] step.gone old.board.pool new.board.pool
returned config old new step = record { between = old.board.pool; leases = refl; returns = step.pool }

empty_by : (config : Config) (old new : RelayShape) (step : CallLeaves config old new) → AreWhole config old.board old.cells old.holders
    → (k : ℕ) → 1 ≤ k → k ≤ config.max_sessions → has (cells_of_calls step.front ++ cells_of_calls step.back) k ≡ false
    → (k ≡ step.call.cell) ⊎ (k ≡ step.call.cell → ⊥) → new.cells k ≡ ended_shape config
empty_by config old new step whole k low high out (inl same) = ap new.cells same ∙ step.ended
empty_by config old new step whole k low high out (inr other) =
    let was : has (cells_of_calls old.board.calls) k ≡ false =
    ap (λ (l : List ℕ). has l k) (ap cells_of_calls step.calls_were ∙ cells_around step.front step.call step.back)
    ∙ has_other k step.call.cell (cells_of_calls step.front) (cells_of_calls step.back) (λ e. other (sym e)) ∙ out in
    step.others k other ∙ whole.empty k low high was

-- the cell of a live call
in_cells : (config : Config) (old new : RelayShape) (step : CallLeaves config old new) → In step.call.cell (cells_of_calls old.board.calls)
in_cells config old new step =
    maps (λ (call : LiveShape). call.cell) old.board.calls
    (subst (λ (l : List LiveShape). In step.call l) (sym step.calls_were) (in_right step.front (step.call ∷ step.back) (here refl)))

-- a live call ended
pub ends_whole : (config : Config) (old new : RelayShape) → AreWhole config old.board old.cells old.holders → CallLeaves config old new → AreWhole config new.board new.cells new.holders
ends_whole config old new whole step =
    let moved = ends_moved config old new step whole in
    let front = cells_of_calls step.front in
    let back = cells_of_calls step.back in
    let cell = step.call.cell in
    let are : cells_of_calls new.board.calls ≡ front ++ back = ap cells_of_calls step.calls_are ∙ cells_without step.front step.back in
    let were : cells_of_calls old.board.calls ≡ front ++ cell ∷ back = ap cells_of_calls step.calls_were ∙ cells_around step.front step.call step.back in
    let none = nowhere_else (config.max_sessions + 1) cell front back (apart config old new step whole) in
    let low = cell_low 1 (cells_of_calls old.board.calls) whole.low cell (in_cells config old new step) in
    let high = cell_high (config.max_sessions + 1) (cells_of_calls old.board.calls) whole.apart cell (in_cells config old new step) in
    let out : has (front ++ back) cell ≡ false = times_none cell (front ++ back) (let both = times_append cell front back in omega (arith, both, none.0, none.1)) in
    record {
      families = whole.families;
      config_is = step.config_is ∙ whole.config_is;
      numbers = subst (λ (l : List LiveShape). ShapesRise 0 l new.board.begun) (sym step.calls_are)
          (rises_without 0 new.board.begun step.front step.call step.back
          (subst (ShapesRise 0 (step.front ++ step.call ∷ step.back)) (sym step.begun_is) (subst (λ (l : List LiveShape). ShapesRise 0 l old.board.begun) step.calls_were whole.numbers)));
      apart = subst (AreFree (config.max_sessions + 1)) (sym are) (free_without (config.max_sessions + 1) cell front back (subst (AreFree (config.max_sessions + 1)) were whole.apart));
      low = subst (AreFrom 1) (sym are) (from_without 1 cell front back (subst (AreFrom 1) were whole.low));
      marked = subst (λ cells. AreMarked config.max_sessions new.board.taken cells) (sym are)
          (subst (λ (l : List Bool). AreMarked config.max_sessions l (front ++ back)) (sym step.taken_is)
          (marked_by cell config.max_sessions old.board.taken false (front ++ cell ∷ back) (front ++ back) low (omega (arith, high))
          (subst (AreMarked config.max_sessions old.board.taken) were whole.marked) (sym out) (λ n other. sym (has_other n cell front back other))));
      calls = λ call i. agrees_by config old new step whole call (in_append step.front step.back (subst (λ (l : List LiveShape). In call l) step.calls_are i));
      empty = λ k from_one to gone. empty_by config old new step whole k from_one to (ap (λ (l : List ℕ). has l k) (sym are) ∙ gone) (cases_eq k cell);
      pool = moved_pool config old.board.pool new.board.pool [] step.gone (held_legs old.cells old.board.calls) (held_legs new.cells new.board.calls)
          whole.pool (returned config old new step) moved;
      held = moved_boxes config old.board.pool new.board.pool [] step.gone (held_legs old.cells old.board.calls) (held_legs new.cells new.board.calls)
          old.holders new.holders whole.pool (returned config old new step) moved step.boxes whole.held;
    }

-- several did, in turn
pub all_end_whole : (config : Config) (old new : RelayShape) → AreWhole config old.board old.cells old.holders → CallsLeave config old new → AreWhole config new.board new.cells new.holders
all_end_whole config old new whole none_more = whole
all_end_whole config old new whole (one_more {between} more step) = ends_whole config between new (all_end_whole config old between whole more) step

-- An offer was undone.

undone_moved : (legs held : List Holder) → Moved legs legs held held
undone_moved legs held = record {
  from = λ leg i. in_right legs held i;
  went = λ leg i. in_left legs held i;
  counts = λ pair. refl;
}

pub undone_whole : (config : Config) (old new : RelayShape) → AreWhole config old.board old.cells old.holders → OfferIsUndone old new → AreWhole config new.board new.cells new.holders
undone_whole config old new whole step =
    let same = ap cells_of_calls step.calls_are in
    let held : held_legs new.cells new.board.calls ≡ held_legs old.cells old.board.calls =
    ap (held_legs new.cells) step.calls_are
    ∙ flat_alike (legs_in new.cells) (legs_in old.cells) old.board.calls (λ call i. ap (λ (shape : CellShape). holders_of shape.legs) (step.cells_are call.cell)) in
    record {
      families = whole.families;
      config_is = step.config_is ∙ whole.config_is;
      numbers = subst (λ (l : List LiveShape). ShapesRise 0 l new.board.begun) (sym step.calls_are) (subst (ShapesRise 0 old.board.calls) (sym step.begun_is) whole.numbers);
      apart = subst (AreFree (config.max_sessions + 1)) (sym same) whole.apart;
      low = subst (AreFrom 1) (sym same) whole.low;
      marked = subst (λ cells. AreMarked config.max_sessions new.board.taken cells) (sym same)
          (subst (λ (l : List Bool). AreMarked config.max_sessions l (cells_of_calls old.board.calls)) (sym step.taken_is) whole.marked);
      calls = λ call i. subst (λ (shape : CellShape). CallAgrees config call.cell call.number call.dialog shape) (sym (step.cells_are call.cell))
          (whole.calls call (subst (λ (l : List LiveShape). In call l) step.calls_are i));
      empty = λ k low high out. step.cells_are k ∙ whole.empty k low high (ap (λ (l : List ℕ). has l k) (sym same) ∙ out);
      pool = subst (PoolHolds config new.board.pool) (sym held)
          (moved_pool config old.board.pool new.board.pool step.legs step.legs (held_legs old.cells old.board.calls) (held_legs old.cells old.board.calls) whole.pool step.pool
          (undone_moved step.legs (held_legs old.cells old.board.calls)));
      held = λ pair below. step.holders_are pair ∙ whole.held pair below ∙ ap (λ (l : List Holder). holder_among l pair) (sym held);
    }
