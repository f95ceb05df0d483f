use Rattle.std.proofs.Common.{◌≡◌, ◌≤◌, ◌<◌, ◌-◌, ◌%◌, length, take, map, true}
use Rattle.relay_outside.specs.DeviceLogs.{Gained}
use Rattle.state_lines.specs.LineWrites.{line_write}
use Rattle.state_lines.specs.StateLines.{digit_lines}
use Rattle.state_lines.proofs.writer.write_bytes.Given as goal

-- the lines so far were written; they are whole, but the last of all
abbrev pub invariant-lines : goal.invariant-lines
invariant-lines g l = record {
  room : length l.room ≡ 16001;
  within : l.at ≤ length l.text;
  whole : l.at < length l.text → l.at % 8000 ≡ 0;
  lines : Gained (g.O.LineSink.log l.initial.out) (g.O.LineSink.log l.out) (λ calls. calls ≡ map (line_write true) (digit_lines (take l.at l.text)));
  cause : g.O.LineSink.faults l.initial.out ≤ g.O.LineSink.faults l.out;
}

abbrev pub decreases-lines : goal.decreases-lines
decreases-lines g l = length l.text - l.at
