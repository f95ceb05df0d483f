-- What the shape of a board says of what the board shows.
use Rattle.std.proofs.Common.{◌≡◌, refl, List, [], ◌∷◌, map}
use Rattle.relay_outside.specs.declared.settings.Config.{Config}
use Rattle.call_board.specs.declared.live_call.LiveCall.{LiveCall}
use Rattle.call_board.specs.declared.board.Board.{Board}
use Rattle.call_board.specs.Views.{CallView, View}
use Rattle.call_board.specs.Boards.{CallsFor, BoardMatches}
use Rattle.call_board.specs.Shapes.{LiveShape, live_shapes, board_shape}
use Rattle.call_board.specs.ShapeViews.{ShapeShows}

numbers_shown : (config : Config) (calls : List LiveCall) (cs : List CallView) → CallsFor config calls cs →
    map (λ (call : LiveShape). call.number) (live_shapes calls) ≡ map (λ (c : CallView). c.of.number) cs
numbers_shown config [] [] s = refl
numbers_shown config [] (c ∷ cs) s = elim s [ ]
numbers_shown config (call ∷ calls) [] s = elim s [ ]
numbers_shown config (call ∷ calls) (c ∷ cs) s = λ i. s.0.number_is i ∷ numbers_shown config calls cs s.1 i

cells_shown : (config : Config) (calls : List LiveCall) (cs : List CallView) → CallsFor config calls cs →
    map (λ (call : LiveShape). call.cell) (live_shapes calls) ≡ map (λ (c : CallView). c.of.cell) cs
cells_shown config [] [] s = refl
cells_shown config [] (c ∷ cs) s = elim s [ ]
cells_shown config (call ∷ calls) [] s = elim s [ ]
cells_shown config (call ∷ calls) (c ∷ cs) s = λ i. s.0.cell_is i ∷ cells_shown config calls cs s.1 i

pub shows : (config : Config) (board : Board) (v : View) → BoardMatches config board v → ShapeShows config v (board_shape board)
shows config board v s = record {
  config_is = s.config_is;
  begun_is = s.begun_is;
  drawn_is = s.drawn_is;
  numbers_are = numbers_shown config board.calls.list v.calls s.calls_for;
  cells_are = cells_shown config board.calls.list v.calls s.calls_for;
  marks_are = s.cells_for.taken_are;
  pool_for = s.pool_for;
}
