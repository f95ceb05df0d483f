use Rattle.std.proofs.Common.{◌-◌, ◌≤◌, ◌<◌, ◌^◌, ◌≡◌}
use Rattle.turn_table.specs.Hands.{IsSameHand, entries}
use Rattle.board_turns.specs.Between.{IsBetween}
use Rattle.relay_core.specs.Turns.{made_by}
use Rattle.media_lane.specs.Gates.{AreGated}
use Rattle.media_lane.specs.Totals.{HasTotals}
use Rattle.ng_server.specs.Servers.{OpensJust, history_of}
use Rattle.relay_runs.specs.Devices.{AreSame}
use Rattle.relay_runs.specs.RunStates.{Running}
use Rattle.relay_runs.proofs.control_loop.ControlLoopControlWorkServerMediaDevices.work.Given as goal

abbrev pub invariant-turns : goal.invariant-turns
invariant-turns g l = record {
  devices : AreSame l.fn.devices l.devices;
  same : IsSameHand l.initial.hand l.hand;
  between : IsBetween l.server.config l.server.turns l.hand;
  opens : OpensJust l.server.config (history_of l.hand) (g.P.PortMaker.log l.devices.ports.now);
  running : Running l.server.config l.settings.threads (g.C.Clock.range l.media.clock.now) (entries l.hand) l.counts l.since (record {
    link = g.N.ControlLink.log l.fn.devices.link.now;
    link_now = g.N.ControlLink.log l.devices.link.now;
    timer = g.T.Timer.log l.fn.devices.timer.now;
    timer_now = g.T.Timer.log l.devices.timer.now;
    opened = g.P.PortMaker.log l.fn.devices.ports.now;
    opened_now = g.P.PortMaker.log l.devices.ports.now;
    drew = g.K.KeySource.log l.fn.devices.keys.now;
    drew_now = g.K.KeySource.log l.devices.keys.now;
    port_faults = g.P.PortMaker.faults l.fn.devices.ports.now;
    port_faults_now = g.P.PortMaker.faults l.devices.ports.now;
    key_faults = g.K.KeySource.faults l.fn.devices.keys.now;
    key_faults_now = g.K.KeySource.faults l.devices.keys.now;
  });
  gated : AreGated (g.G.Gate.passed l.media.gate.now) (made_by l.hand);
  totals : HasTotals (made_by l.hand) l.totals;
  later : g.N.ControlLink.faults l.fn.devices.link.now ≤ g.N.ControlLink.faults l.devices.link.now;
  port_later : g.P.PortMaker.faults l.fn.devices.ports.now ≤ g.P.PortMaker.faults l.devices.ports.now;
  key_later : g.K.KeySource.faults l.fn.devices.keys.now ≤ g.K.KeySource.faults l.devices.keys.now;
  replies : l.counts.replies ≤ l.counts.datagrams;
  datagrams : l.counts.datagrams ≤ l.counts.turns;
  below : l.counts.turns ≤ l.settings.turns;
  limit : l.settings.turns < 2 ^ 63;
  config : l.server.config ≡ l.settings.config;
}

abbrev pub decreases-turns : goal.decreases-turns
decreases-turns g l = l.settings.turns - l.counts.turns
