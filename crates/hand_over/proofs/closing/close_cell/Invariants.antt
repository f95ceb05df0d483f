use Rattle.std.proofs.Common.{◌≡◌, ◌≤◌, length}
use Rattle.hand_over.specs.Closings.{legs_at}
use Rattle.hand_over.specs.ClosingSteps.{ClosesSome, legs_with_ends}
use Rattle.hand_over.proofs.closing.close_cell.Given as goal

abbrev pub invariant-loop : goal.invariant-loop
invariant-loop g l =
    let log = g.P.PortMaker.log in
    record {
      steps : ClosesSome g.P.In.InEnd.log g.P.Out.OutEnd.log l.config l.place l.initial.parts (log l.initial.ports) l.parts (log l.ports);
      place_is : l.place ≡ l.initial.place;
      later : g.P.PortMaker.faults l.initial.ports ≤ g.P.PortMaker.faults l.ports;
    }

abbrev pub decreases-loop : goal.decreases-loop
decreases-loop g l = length (legs_with_ends (legs_at l.parts l.place))
