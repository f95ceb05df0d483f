-- What the board, the cells and the boxes keep goes together after each turn.
use Rattle.std.proofs.Common.{◌≡◌, ◌∙◌, refl, sym, ap, subst, ℕ, ◌+◌, Bool, true, false, List, ◌∷◌, ◌++◌}
use Rattle.relay_outside.specs.declared.settings.Config.{Config}
use Rattle.histories.specs.Words.{In, there, has}
use Rattle.histories.proofs.Lists.{in_left, in_right}
use Rattle.port_pool.specs.declared.holder.Holder.{Holder}
use Rattle.port_pool.specs.Pools.{AreFree, AreFrom}
use Rattle.call_cell.specs.Shapes.{CellShape}
use Rattle.call_board.specs.Shapes.{LiveShape}
use Rattle.call_shapes.specs.Agreement.{CallAgrees}
use Rattle.call_shapes.specs.WholeRelay.{AreWhole, AreMarked, ShapesRise, cells_of_calls, held_legs}
use Rattle.call_shapes.specs.Turns.{RelayShape, CallChanges, holders_of}
use Rattle.call_shapes.proofs.Places.{flat_append, flat_alike, Placed, before, there_, behind, placed}
use Rattle.call_shapes.proofs.Moved.{Moved, legs_moved, moved_around, moved_pool, moved_boxes}
use Rattle.call_shapes.proofs.Rising.{rises_same, cells_around, nowhere_else, other_cell, has_here}
use Rattle.call_shapes.proofs.Times.{times}

abbrev pub legs_in : (ℕ → CellShape) → LiveShape → List Holder
legs_in cells call = holders_of (cells call.cell).legs

-- the legs of the calls around one
pub held_around : (cells : ℕ → CellShape) (front : List LiveShape) (call : LiveShape) (back : List LiveShape)
    → held_legs cells (front ++ call ∷ back) ≡ held_legs cells front ++ (legs_in cells call ++ held_legs cells back)
held_around cells front call back = flat_append (legs_in cells) front (call ∷ back)

-- calls whose cells didn't change
pub same_held : (old new : ℕ → CellShape) (cell : ℕ) (calls : List LiveShape) → ((k : ℕ) → (k ≡ cell → ⊥) → new k ≡ old k) → times cell (cells_of_calls calls) ≡ 0
    → held_legs new calls ≡ held_legs old calls
same_held old new cell calls others none =
    flat_alike (legs_in new) (legs_in old) calls (λ call i. ap (λ (shape : CellShape). holders_of shape.legs) (others call.cell (other_cell cell calls none call i)))

pub still_agrees : (config : Config) (old new : ℕ → CellShape) (cell : ℕ) (calls : List LiveShape) → ((k : ℕ) → (k ≡ cell → ⊥) → new k ≡ old k) → times cell (cells_of_calls calls) ≡ 0
    → (call : LiveShape) → In call calls → CallAgrees config call.cell call.number call.dialog (old call.cell) → CallAgrees config call.cell call.number call.dialog (new call.cell)
still_agrees config old new cell calls others none call i h =
    subst (λ (shape : CellShape). CallAgrees config call.cell call.number call.dialog shape) (sym (others call.cell (other_cell cell calls none call i))) h

-- where the cell of a call is among the cells of the others
pub apart_in : (config : Config) (relay : RelayShape) (front : List LiveShape) (call : LiveShape) (back : List LiveShape) → AreWhole config relay.board relay.cells relay.holders
    → relay.board.calls ≡ front ++ call ∷ back → AreFree (config.max_sessions + 1) (cells_of_calls front ++ call.cell ∷ cells_of_calls back)
apart_in config relay front call back whole were =
    subst (AreFree (config.max_sessions + 1)) (ap cells_of_calls were ∙ cells_around front call back) whole.apart

-- A call goes on.

goes_on_agrees : (config : Config) (old new : RelayShape) (step : CallChanges config old new) → AreWhole config old.board old.cells old.holders
    → (call : LiveShape) → Placed call step.front (record (step.call) { dialog = step.dialog }) step.back → CallAgrees config call.cell call.number call.dialog (new.cells call.cell)
goes_on_agrees config old new step whole call (before i) =
    let none = nowhere_else (config.max_sessions + 1) step.call.cell (cells_of_calls step.front) (cells_of_calls step.back) (apart_in config old step.front step.call step.back whole step.calls_were) in
    still_agrees config old.cells new.cells step.call.cell step.front step.others none.0 call i
    (whole.calls call (subst (λ (l : List LiveShape). In call l) (sym step.calls_were) (in_left step.front (step.call ∷ step.back) i)))
goes_on_agrees config old new step whole call (there_ e) =
    subst (λ (c : LiveShape). CallAgrees config c.cell c.number c.dialog (new.cells c.cell)) (sym e) step.agrees
goes_on_agrees config old new step whole call (behind i) =
    let none = nowhere_else (config.max_sessions + 1) step.call.cell (cells_of_calls step.front) (cells_of_calls step.back) (apart_in config old step.front step.call step.back whole step.calls_were) in
    still_agrees config old.cells new.cells step.call.cell step.back step.others none.1 call i
    (whole.calls call (subst (λ (l : List LiveShape). In call l) (sym step.calls_were) (in_right step.front (step.call ∷ step.back) (there i))))

same_cells : (config : Config) (old new : RelayShape) → (step : CallChanges config old new) → cells_of_calls new.board.calls ≡ cells_of_calls old.board.calls
same_cells config old new step =
    ap cells_of_calls step.calls_are ∙ cells_around step.front (record (step.call) { dialog = step.dialog }) step.back
    ∙ sym (ap cells_of_calls step.calls_were ∙ cells_around step.front step.call step.back)

pub not_there : (cells : List ℕ) (k cell : ℕ) → has cells cell ≡ true → has cells k ≡ false → k ≡ cell → ⊥
not_there cells k cell taken free same = let at = ap (has cells) same in let wrong : true ≡ false = sym taken ∙ sym at ∙ free in absurd {A = ⊥} (cc)

goes_on_moved : (config : Config) (old new : RelayShape) (step : CallChanges config old new) → AreWhole config old.board old.cells old.holders
    → Moved step.came step.gone (held_legs old.cells old.board.calls) (held_legs new.cells new.board.calls)
goes_on_moved config old new step whole =
    let none = nowhere_else (config.max_sessions + 1) step.call.cell (cells_of_calls step.front) (cells_of_calls step.back) (apart_in config old step.front step.call step.back whole step.calls_were) in
    let moved = moved_around (held_legs old.cells step.front) (held_legs old.cells step.back) step.came step.gone (legs_in old.cells step.call) (legs_in new.cells step.call)
    (legs_moved step.goes step.came step.gone (legs_in old.cells step.call) (legs_in new.cells step.call) step.legs) in
    let were : held_legs old.cells old.board.calls ≡ held_legs old.cells step.front ++ (legs_in old.cells step.call ++ held_legs old.cells step.back) =
    ap (held_legs old.cells) step.calls_were ∙ held_around old.cells step.front step.call step.back in
    let are : held_legs new.cells new.board.calls ≡ held_legs old.cells step.front ++ (legs_in new.cells step.call ++ held_legs old.cells step.back) =
    ap (held_legs new.cells) step.calls_are ∙ held_around new.cells step.front (record (step.call) { dialog = step.dialog }) step.back
    ∙ ap (λ (l : List Holder). l ++ (legs_in new.cells step.call ++ held_legs new.cells step.back)) (same_held old.cells new.cells step.call.cell step.front step.others none.0)
    ∙ ap (λ (l : List Holder). held_legs old.cells step.front ++ (legs_in new.cells step.call ++ l)) (same_held old.cells new.cells step.call.cell step.back step.others none.1) in
    subst (λ (l : List Holder). Moved step.came step.gone l (held_legs new.cells new.board.calls)) (sym were)
    (subst (λ (l : List Holder). Moved step.came step.gone (held_legs old.cells step.front ++ (legs_in old.cells step.call ++ held_legs old.cells step.back)) l) (sym are) moved)

-- a live call took one more offer or answer
pub goes_on_whole : (config : Config) (old new : RelayShape) → AreWhole config old.board old.cells old.holders → CallChanges config old new → AreWhole config new.board new.cells new.holders
goes_on_whole config old new whole step =
    let same = same_cells config old new step in
    let moved = goes_on_moved config old new step whole in
    let front = cells_of_calls step.front in
    let back = cells_of_calls step.back in
    record {
      families = whole.families;
      config_is = step.config_is ∙ whole.config_is;
      numbers = subst (λ (l : List LiveShape). ShapesRise 0 l new.board.begun) (sym step.calls_are)
          (rises_same 0 new.board.begun step.front step.call (record (step.call) { dialog = step.dialog }) step.back refl
          (subst (λ n. ShapesRise 0 (step.front ++ step.call ∷ step.back) n) (sym step.begun_is) (subst (λ (l : List LiveShape). ShapesRise 0 l old.board.begun) step.calls_were whole.numbers)));
      apart = subst (AreFree (config.max_sessions + 1)) (sym same) whole.apart;
      low = subst (AreFrom 1) (sym same) whole.low;
      marked = subst (λ cells. AreMarked config.max_sessions new.board.taken cells) (sym same)
          (subst (λ (l : List Bool). AreMarked config.max_sessions l (cells_of_calls old.board.calls)) (sym step.taken_is) whole.marked);
      calls = λ call i. goes_on_agrees config old new step whole call
          (placed step.front (record (step.call) { dialog = step.dialog }) step.back (subst (λ (l : List LiveShape). In call l) step.calls_are i));
      empty = λ k low high out.
          (let was : has (cells_of_calls old.board.calls) k ≡ false = ap (λ cells. has cells k) (sym same) ∙ out in
          let there__ : has (cells_of_calls old.board.calls) step.call.cell ≡ true =
          ap (λ cells. has cells step.call.cell) (ap cells_of_calls step.calls_were ∙ cells_around step.front step.call step.back) ∙ has_here step.call.cell front back in
          step.others k (not_there (cells_of_calls old.board.calls) k step.call.cell there__ was) ∙ whole.empty k low high was);
      pool = moved_pool config old.board.pool new.board.pool step.came step.gone (held_legs old.cells old.board.calls) (held_legs new.cells new.board.calls) whole.pool step.pool moved;
      held = moved_boxes config old.board.pool new.board.pool step.came step.gone (held_legs old.cells old.board.calls) (held_legs new.cells new.board.calls)
          old.holders new.holders whole.pool step.pool moved step.boxes whole.held;
    }
