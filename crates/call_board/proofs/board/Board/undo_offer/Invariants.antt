use Rattle.std.proofs.Common.{◌≡◌, ◌+◌, ◌++◌, ℕ, List, length}
use Rattle.relay_outside.specs.declared.settings.Config.{Config}
use Rattle.call_board.specs.Views.{View, with_returned}
use Rattle.call_board.specs.Boards.{BoardMatches, KeepsCalls, KeepsReplies, AreOut, pairs_in}
use Rattle.call_board.specs.Shapes.{board_shape, shape_returns}
use Rattle.call_board.proofs.board.Board.undo_offer.Given as goal

abbrev pub invariant-loop-back : goal.invariant-loop-back
invariant-loop-back l = record {
  shows : (config : Config) (v : View) → BoardMatches config l.initial.self v →
      (given : List ℕ) × (given ++ pairs_in l.left.list ≡ pairs_in l.initial.left.list) × BoardMatches config l.self (with_returned v given);
  shape : (given : List ℕ) × (given ++ pairs_in l.left.list ≡ pairs_in l.initial.left.list) × (board_shape l.self ≡ shape_returns given (board_shape l.initial.self));
  out : AreOut l.self.pool l.left.list;
  calls : KeepsCalls l.initial.self l.self;
  replies : KeepsReplies l.initial.self l.self;
  count : length l.left.list + l._back ≡ l._back-end;
}
