use Rattle.std.proofs.Common.{◌≡◌, ◌≤◌, ◌+◌, length, take, drop}
use Rattle.std.specs.List.{AllZip}
use Rattle.relay_outside.specs.DeviceLogs.{Gained, WhereLogged}
use Rattle.media_ports.specs.Addresses.{addresses_of}
use Rattle.media_ports.specs.Calls.{ClosesUncalled, AllOpen}
use Rattle.media_ports.specs.Ends.{ArePairsOpened}
use Rattle.media_ports.proofs.closed_ports.close_opened.Given as goal

abbrev pub invariant-loop-index : goal.invariant-loop-index
invariant-loop-index g l =
    let all = take (length l.initial.opened.list) l.leases.list in
    record {
      closes : Gained (g.P.PortMaker.log l.initial.ports) (g.P.PortMaker.log l.ports) (AllZip ClosesUncalled (addresses_of l.config (take l.index all)));
      still : WhereLogged (g.P.PortMaker.log l.ports) (AllOpen (addresses_of l.config (drop l.index all)));
      count : l.index + length l.opened.list ≡ length l.initial.opened.list;
      opened : ArePairsOpened g.P.In.InEnd.log g.P.Out.OutEnd.log l.config (drop l.index all) l.opened.list;
      room : l.opened.room ≡ l.initial.opened.room;
      later : g.P.PortMaker.faults l.initial.ports ≤ g.P.PortMaker.faults l.ports;
    }
