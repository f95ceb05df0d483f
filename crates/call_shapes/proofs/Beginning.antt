-- What the board, the cells and the boxes keep goes together after a call began.
use Rattle.std.proofs.Common.{◌≡◌, ◌∙◌, sym, ap, subst, ℕ, ◌+◌, Bool, true, false, List, [], ◌∷◌, ◌++◌, arith}
use Rattle.std.proofs.lemmas.List.{append-nil}
use Rattle.relay_outside.specs.declared.settings.Config.{Config}
use Rattle.histories.specs.Words.{In, has}
use Rattle.histories.proofs.Lists.{in_left}
use Rattle.port_pool.specs.declared.holder.Holder.{Holder}
use Rattle.port_pool.specs.Pools.{AreFree, AreFrom}
use Rattle.port_pool.proofs.Queue.{one_behind, later_behind}
use Rattle.call_board.specs.Shapes.{LiveShape}
use Rattle.call_shapes.specs.Agreement.{CallAgrees}
use Rattle.call_shapes.specs.WholeRelay.{AreWhole, AreMarked, ShapesRise, cells_of_calls, held_legs}
use Rattle.call_shapes.specs.Turns.{RelayShape, CallComes}
use Rattle.call_shapes.proofs.Places.{Placed, before, there_, behind, placed}
use Rattle.call_shapes.proofs.Moved.{Moved, moved_around, moved_pool, moved_boxes}
use Rattle.call_shapes.proofs.Rising.{rises_more, cells_around, has_other, has_here, marked_by, spare_cell}
use Rattle.call_shapes.proofs.Relays.{legs_in, held_around, same_held, still_agrees, not_there}
use Rattle.call_shapes.proofs.Times.{none_times}

-- the cell of a call that begins is no other call's
no_other : (config : Config) (old new : RelayShape) (step : CallComes config old new) → AreWhole config old.board old.cells old.holders
    → has (cells_of_calls old.board.calls) step.call.cell ≡ false
no_other config old new step whole = spare_cell step.call.cell config.max_sessions old.board.taken (cells_of_calls old.board.calls) step.cell_is whole.marked

cells_are : (config : Config) (old new : RelayShape) (step : CallComes config old new) → cells_of_calls new.board.calls ≡ cells_of_calls old.board.calls ++ step.call.cell ∷ []
cells_are config old new step = ap cells_of_calls step.calls_are ∙ cells_around old.board.calls step.call []

agrees_by : (config : Config) (old new : RelayShape) (step : CallComes config old new) → AreWhole config old.board old.cells old.holders
    → (call : LiveShape) → Placed call old.board.calls step.call [] → CallAgrees config call.cell call.number call.dialog (new.cells call.cell)
agrees_by config old new step whole call (before i) =
    still_agrees config old.cells new.cells step.call.cell old.board.calls step.others
    (none_times step.call.cell (cells_of_calls old.board.calls) (no_other config old new step whole)) call i (whole.calls call i)
agrees_by config old new step whole call (there_ e) =
    subst (λ (c : LiveShape). CallAgrees config c.cell c.number c.dialog (new.cells c.cell)) (sym e) step.agrees
agrees_by config old new step whole call (behind i) = elim i [ ]

came_moved : (came : List Holder) → Moved came [] [] came
came_moved came = record {
  from = λ leg i. in_left came [] i;
  went = λ leg i. elim i [ ];
  counts = λ pair. omega arith;
}

begins_moved : (config : Config) (old new : RelayShape) (step : CallComes config old new) → AreWhole config old.board old.cells old.holders
    → Moved step.came [] (held_legs old.cells old.board.calls) (held_legs new.cells new.board.calls)
begins_moved config old new step whole =
    let none = none_times step.call.cell (cells_of_calls old.board.calls) (no_other config old new step whole) in
    let held = held_legs old.cells old.board.calls in
    let moved = moved_around held [] step.came [] [] step.came (came_moved step.came) in
    let are : held_legs new.cells new.board.calls ≡ held ++ (step.came ++ []) =
    ap (held_legs new.cells) step.calls_are ∙ held_around new.cells old.board.calls step.call []
    ∙ ap (λ (l : List Holder). l ++ (legs_in new.cells step.call ++ [])) (same_held old.cells new.cells step.call.cell old.board.calls step.others none)
    ∙ ap (λ (l : List Holder). held ++ (l ++ [])) step.legs in
    subst (λ (l : List Holder). Moved step.came [] l (held_legs new.cells new.board.calls)) (append-nil held)
    (subst (λ (l : List Holder). Moved step.came [] (held ++ []) l) (sym are) moved)

-- a call began
pub begins_whole : (config : Config) (old new : RelayShape) → AreWhole config old.board old.cells old.holders → CallComes config old new → AreWhole config new.board new.cells new.holders
begins_whole config old new whole step =
    let same = cells_are config old new step in
    let moved = begins_moved config old new step whole in
    let were = cells_of_calls old.board.calls in
    let cell = step.call.cell in
    let free = no_other config old new step whole in
    let low = step.cell_is.from_one in
    let high = step.cell_is.within in
    let others = λ (n : ℕ) (other : cell ≡ n → ⊥). has_other n cell were [] other ∙ ap (λ (l : List ℕ). has l n) (append-nil were) in
    record {
      families = whole.families;
      config_is = step.config_is ∙ whole.config_is;
      numbers = subst (λ (l : List LiveShape). ShapesRise 0 l new.board.begun) (sym step.calls_are)
          (subst (ShapesRise 0 (old.board.calls ++ step.call ∷ [])) (sym step.begun_is) (rises_more 0 old.board.begun old.board.calls step.call step.number_is whole.numbers));
      apart = subst (AreFree (config.max_sessions + 1)) (sym same) (one_behind (config.max_sessions + 1) were cell whole.apart (omega (arith, high)) free);
      low = subst (AreFrom 1) (sym same) (later_behind 1 were cell whole.low low);
      marked = subst (λ cells. AreMarked config.max_sessions new.board.taken cells) (sym same)
          (subst (λ (l : List Bool). AreMarked config.max_sessions l (were ++ cell ∷ [])) (sym step.taken_is)
          (marked_by cell config.max_sessions old.board.taken true were (were ++ cell ∷ []) low high whole.marked (sym (has_here cell were [])) others));
      calls = λ call i. agrees_by config old new step whole call (placed old.board.calls step.call [] (subst (λ (l : List LiveShape). In call l) step.calls_are i));
      empty = λ k from_one to out.
          (let now : has (were ++ cell ∷ []) k ≡ false = ap (λ (l : List ℕ). has l k) (sym same) ∙ out in
          let other = not_there (were ++ cell ∷ []) k cell (has_here cell were []) now in
          let was : has were k ≡ false = sym (others k (λ e. other (sym e))) ∙ now in
          step.others k other ∙ whole.empty k from_one to was);
      pool = moved_pool config old.board.pool new.board.pool step.came [] (held_legs old.cells old.board.calls) (held_legs new.cells new.board.calls) whole.pool step.pool moved;
      held = moved_boxes config old.board.pool new.board.pool step.came [] (held_legs old.cells old.board.calls) (held_legs new.cells new.board.calls)
          old.holders new.holders whole.pool step.pool moved step.boxes whole.held;
    }
