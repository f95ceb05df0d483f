use Rattle.std.proofs.Common.{◌∙◌, refl, arith}
use Rattle.call_board.specs.Whole.{with_draws}
use Rattle.call_board.proofs.Entries.{draws_keep}
use Rattle.call_board.specs.Shapes.{board_shape}
use Rattle.offer_command.proofs.Numbered.{shows_next}
use Rattle.offer_command.proofs.WholenessPlans.{draws_next, draws_none}
use Rattle.offer_command.proofs.lease.count_draws.Goals as goal

pub loop-drawn-init : goal.loop-drawn-init
loop-drawn-init c = record {
  drawn = λ config v s. s;
  calls = record { calls_are = refl; begun_is = refl };
  replies = refl;
  shape = draws_none (board_shape c.args.board.now);
}

pub count_draw-requires : goal.count_draw-requires
count_draw-requires c =
    let config = c.requires.0 in
    let v = c.requires.1 in
    let k = c.loop-drawn._drawn in
    let here = (c.loop-drawn.invariant.drawn config v c.requires.2).drawn_is in
    let more = (draws_keep v k).drawn_is in
    let low = c.requires.3 in
    omega (arith, here, more, low, c.loop-drawn-test.true)

pub loop-drawn-preserved : goal.loop-drawn-preserved
loop-drawn-preserved c =
    let was = c.loop-drawn.invariant in
    let now = c.count_draw.ensures in
    let k = c.loop-drawn._drawn in
    record {
      drawn = λ config v s. shows_next config c.count_draw.new.self v k (now.drawn config (with_draws v k) (was.drawn config v s)).0;
      calls = record { calls_are = now.calls.calls_are ∙ was.calls.calls_are; begun_is = now.calls.begun_is ∙ was.calls.begun_is };
      replies = now.replies ∙ was.replies;
      shape = draws_next (board_shape c.args.board.now) (board_shape c.loop-drawn.board) (board_shape c.count_draw.new.self) k was.shape now.shape.0;
    }
