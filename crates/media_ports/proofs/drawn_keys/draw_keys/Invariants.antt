use Rattle.std.proofs.Common.{◌≡◌, ◌≤◌, length}
use Rattle.relay_outside.specs.DeviceLogs.{Gained}
use Rattle.media_ports.specs.Draws.{AreDrawn}
use Rattle.media_ports.proofs.drawn_keys.draw_keys.Given as goal

abbrev pub invariant-loop-drawn : goal.invariant-loop-drawn
invariant-loop-drawn g l = record {
  draws : Gained (g.K.KeySource.log l.initial.keys) (g.K.KeySource.log l.keys) (AreDrawn l.drawn.list);
  count : length l.drawn.list ≡ l._drawn;
  room : l.drawn.room ≡ l.initial.drawn.room;
  later : g.K.KeySource.faults l.initial.keys ≤ g.K.KeySource.faults l.keys;
}
