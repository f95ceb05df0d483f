use Rattle.std.specs.Prelude.{◌≡◌}
use Rattle.relay_outside.specs.declared.settings.Config.{Config}
use Rattle.call_board.specs.Views.{View}
use Rattle.call_board.specs.Boards.{BoardMatches, KeepsCalls, KeepsReplies}
use Rattle.call_board.specs.Whole.{with_draws}
use Rattle.call_board.specs.Shapes.{board_shape}
use Rattle.offer_command.specs.Shapes.{shape_with_draws}
use Rattle.offer_command.proofs.lease.count_draws.Given as goal

abbrev pub invariant-loop-drawn : goal.invariant-loop-drawn
invariant-loop-drawn l = record {
  drawn : (config : Config) (v : View) → BoardMatches config l.initial.board v → BoardMatches config l.board (with_draws v l._drawn);
  calls : KeepsCalls l.initial.board l.board;
  replies : KeepsReplies l.initial.board l.board;
  shape : board_shape l.board ≡ shape_with_draws l._drawn (board_shape l.initial.board);
}
