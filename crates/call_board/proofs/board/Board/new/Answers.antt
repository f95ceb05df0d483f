use Rattle.call_board.proofs.Fresh.{fresh_pool, no_calls, none_taken}
use Rattle.std.proofs.Common.{refl, ap, sym}
use Rattle.call_board.specs.Shapes.{live_shapes}
use Rattle.call_board.proofs.board.Board.new.Goals as goal

pub returns-clause-stands : goal.returns-clause-stands
returns-clause-stands c = record {
  config_is = refl;
  moment_is = refl;
  begun_is = refl;
  drawn_is = refl;
  calls_for = no_calls c.args.config.now c.new-3.result.list c.new-3.ensures;
  cells_for = none_taken c.args.config.now c.in_ok-taken.taken.items (c.in_ok-taken.ensures.items_if_clones_equal (λ y h. h));
  pool_for = fresh_pool c.args.config.now c.in_ok-pool.pool (c.in_ok-pool.ensures c.args.config.now refl refl (sym c.is_some.ensures));
  replies_for = c.in_ok-replies.ensures;
}

pub returns-clause-shape : goal.returns-clause-shape
returns-clause-shape c = record {
  config_is = refl;
  begun_is = refl;
  drawn_is = refl;
  calls_are = ap live_shapes c.new-3.ensures;
  taken_are = c.in_ok-taken.ensures.items_if_clones_equal (λ y h. h);
  pool_is = c.in_ok-pool.ensures c.args.config.now refl refl (sym c.is_some.ensures);
}
