use Rattle.std.proofs.Common.{◌≡◌, ◌≤◌, ◌++◌, length, take, drop}
use Rattle.relay_outside.specs.DeviceLogs.{Gained}
use Rattle.hand_over.specs.Closings.{call_closings, all_closings, live_calls}
use Rattle.hand_over.specs.ClosingSteps.{LeavesEmptied}
use Rattle.hand_over.proofs.RestCalls.{AreRest}
use Rattle.hand_over.proofs.closing.close_ports.Given as goal

abbrev pub invariant-loop-index : goal.invariant-loop-index
invariant-loop-index g l =
    let log = g.P.PortMaker.log in
    let taken = g.P.In.InEnd.log in
    let sent = g.P.Out.OutEnd.log in
    let calls = live_calls l.initial.parts in
    record {
      rest : AreRest taken sent l.config l.parts (log l.ports) (drop l.index calls);
      closes : Gained (log l.initial.ports) (log l.ports) (λ more. more ++ call_closings taken sent l.config l.parts (drop l.index calls) ≡ all_closings taken sent l.config l.initial.parts);
      left : LeavesEmptied l.config l.initial.parts l.parts (take l.index calls);
      length_is : length l.parts ≡ length l.initial.parts;
      later : g.P.PortMaker.faults l.initial.ports ≤ g.P.PortMaker.faults l.ports;
    }
