use Rattle.std.proofs.Common.{◌≡◌, ◌+◌, ◌≤◌, length}
use Rattle.relay_outside.specs.DeviceLogs.{Gained}
use Rattle.call_board.specs.Shapes.{board_shape}
use Rattle.media_ports.specs.Openings.{NoneOpened}
use Rattle.board_turns.specs.BoardTurns.{Begins, HoldsPorts, Works, past_of}
use Rattle.board_turns.proofs.Ticked.{Asked}
use Rattle.board_turns.proofs.tick.expire_live.Given as goal

abbrev pub invariant-loop-asked : goal.invariant-loop-asked
invariant-loop-asked g l =
    let log = g.P.PortMaker.log in
    let old = l.initial.turn in
    let turn = l.turn in
    record {
      works : Works log g.P.PortMaker.faults old turn;
      asked : Begins log old → Asked old.main.config.now (past_of old.main) old.main.entry_id.number old.main.entry_id.moment old.main.hand.now turn.main.hand.now turn.board.now (log turn.ports.now) l.asked l.ended;
      holds : HoldsPorts log turn;
      left : length (board_shape turn.board.now).calls + l.ended ≡ length (board_shape old.board.now).calls;
      few : l.ended ≤ l.asked;
      closes : Gained (log old.ports.now) (log turn.ports.now) NoneOpened;
    }
