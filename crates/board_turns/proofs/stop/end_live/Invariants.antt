use Rattle.std.proofs.Common.{◌≡◌, ◌+◌, length, take}
use Rattle.std.specs.List.{flat_map}
use Rattle.relay_outside.specs.DeviceLogs.{Gained, WhereLogged}
use Rattle.call_board.specs.Boards.{BoardMatches}
use Rattle.call_board.specs.Calls.{live}
use Rattle.call_board.specs.Shapes.{board_shape}
use Rattle.call_board.specs.Views.{view_of}
use Rattle.call_board.specs.Whole.{with_ended}
use Rattle.relay_core.specs.Scripts.{ending}
use Rattle.media_ports.specs.Openings.{NoneOpened}
use Rattle.media_ports.specs.OpenPorts.{OpensHeld}
use Rattle.board_turns.specs.BoardTurns.{Continues, HoldsPorts, MakesNested, Works, past_of}
use Rattle.board_turns.specs.Stops.{stop_entry, still_held}
use Rattle.board_turns.proofs.stop.end_live.Given as goal

abbrev pub invariant-loop-ended : goal.invariant-loop-ended
invariant-loop-ended g l =
    let log = g.P.PortMaker.log in
    let old = l.initial.turn in
    let turn = l.turn in
    let config = old.main.config.now in
    let h = past_of old.main in
    let e = stop_entry h in
    let gone = take l.ended (live h) in
    record {
      works : Works log g.P.PortMaker.faults old turn;
      holds : HoldsPorts log turn;
      left : length (board_shape turn.board.now).calls + l.ended ≡ length (board_shape old.board.now).calls;
      gained : Continues log old → MakesNested (flat_map (ending config h e) gone) old.main turn.main;
      shows : Continues log old → BoardMatches config turn.board.now (with_ended h e gone (view_of config h));
      opens : Continues log old → WhereLogged (log turn.ports.now) (λ calls. OpensHeld config calls (still_held h e gone));
      closes : Gained (log old.ports.now) (log turn.ports.now) NoneOpened;
    }
