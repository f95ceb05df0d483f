use Rattle.std.proofs.Common.{◌≡◌, ◌++◌, ℕ, List, length}
use Rattle.relay_outside.specs.declared.settings.Config.{Config}
use Rattle.relay_outside.specs.DeviceLogs.{Gained, WhereLogged}
use Rattle.turn_table.specs.Hands.{entries}
use Rattle.port_pool.specs.declared.pairs.Lease.{Lease}
use Rattle.call_board.specs.Boards.{BoardMatches, KeepsCalls, pairs_in}
use Rattle.call_board.specs.Views.{View, with_returned}
use Rattle.call_board.specs.Shapes.{board_shape, shape_returns}
use Rattle.relay_core.specs.PlaceHistories.{GoneHome}
use Rattle.media_ports.specs.OpenPorts.{OpensHeld}
use Rattle.board_turns.specs.BoardTurns.{MakesNested, StaysInTurn}
use Rattle.board_turns.specs.Closings.{CanClose, leases_of_legs, closings_of, ClosesLegs, pairs_left}
use Rattle.board_turns.specs.Ties.{TiesTakes}
use Rattle.board_turns.proofs.gone_legs.close_legs.Given as goal

abbrev pub invariant-loop-leg : goal.invariant-loop-leg
invariant-loop-leg g l =
    let log = g.P.PortMaker.log in
    let old = l.initial.turn in
    let turn = l.turn in
    let config = old.main.config.now in
    record {
      closed : List (Lease × g.row.P-Out.Denot × g.row.P-Out.Denot);
      split : old.gone.now ≡ closed ++ turn.gone.now;
      stays : StaysInTurn log g.P.PortMaker.faults old turn;
      can : CanClose config turn.main.hand.now turn.board.now (log turn.ports.now) turn.gone.now;
      home : GoneHome g.P.Out.OutEnd.log config turn.gone.now;
      gained : MakesNested (closings_of config closed) old.main turn.main;
      returned : (config : Config) (v : View) → BoardMatches config old.board.now v → BoardMatches config turn.board.now (with_returned v (pairs_in (leases_of_legs closed)));
      calls : KeepsCalls old.board.now turn.board.now;
      pool : board_shape turn.board.now ≡ shape_returns (pairs_in (leases_of_legs closed)) (board_shape old.board.now);
      closes : Gained (log old.ports.now) (log turn.ports.now) (ClosesLegs g.P.Out.OutEnd.log config closed);
      opens : (held : List ℕ) → WhereLogged (log old.ports.now) (λ calls. OpensHeld config calls held) →
          WhereLogged (log turn.ports.now) (λ calls. OpensHeld config calls (pairs_left (pairs_in (leases_of_legs closed)) held));
      takes : TiesTakes config (log old.ports.now) (log turn.ports.now) (entries old.main.hand.now) (entries turn.main.hand.now);
    }

abbrev pub decreases-loop-leg : goal.decreases-loop-leg
decreases-loop-leg g l = length l.turn.gone.now
