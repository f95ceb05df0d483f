use Rattle.std.proofs.Common.{◌≡◌, ◌≤◌, length, map}
use Rattle.relay_outside.specs.DeviceLogs.{Gained}
use Rattle.relay_script.specs.Steps.{step_meaning}
use Rattle.replay_devices.specs.Scripts.{ReadsSteps}
use Rattle.replay_devices.proofs.script_reader.read_lines.Given as goal

-- a line was read for each step so far
abbrev pub invariant-loop-line : goal.invariant-loop-line
invariant-loop-line g l = record {
  reads : Gained (g.S.LineSource.log l.initial.source) (g.S.LineSource.log l.source) (ReadsSteps (map step_meaning l.steps.items));
  count : length l.steps.items ≡ l._line;
  later : g.S.LineSource.faults l.initial.source ≤ g.S.LineSource.faults l.source;
}
