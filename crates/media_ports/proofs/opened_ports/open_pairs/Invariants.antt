use Rattle.std.proofs.Common.{◌≡◌, ◌≤◌, length, take, drop}
use Rattle.relay_outside.specs.DeviceLogs.{Gained, WhereLogged}
use Rattle.media_ports.specs.Addresses.{addresses_of}
use Rattle.media_ports.specs.Calls.{NoneOpen}
use Rattle.media_ports.specs.Ends.{ArePairsOpened}
use Rattle.media_ports.proofs.Closed.{OpensAll}
use Rattle.media_ports.proofs.opened_ports.open_pairs.Given as goal

abbrev pub invariant-loop-index : goal.invariant-loop-index
invariant-loop-index g l = record {
  opens : Gained (g.P.PortMaker.log l.initial.ports) (g.P.PortMaker.log l.ports) (OpensAll (addresses_of l.config (take l.index l.leases.list)));
  closed : WhereLogged (g.P.PortMaker.log l.ports) (NoneOpen (addresses_of l.config (drop l.index l.leases.list)));
  count : length l.opened.list ≡ l.index;
  opened : ArePairsOpened g.P.In.InEnd.log g.P.Out.OutEnd.log l.config (take l.index l.leases.list) l.opened.list;
  room : l.opened.room ≡ l.initial.opened.room;
  later : g.P.PortMaker.faults l.initial.ports ≤ g.P.PortMaker.faults l.ports;
}
