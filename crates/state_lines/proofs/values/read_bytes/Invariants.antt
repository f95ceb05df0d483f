use Rattle.std.proofs.Common.{◌≡◌, ◌≤◌, ◌<◌, ◌+◌, ◌-◌, ◌%◌, length, map}
use Rattle.hex.specs.Hex.{IsBytes}
use Rattle.relay_outside.specs.DeviceLogs.{Gained}
use Rattle.state_lines.specs.LineReads.{text_read}
use Rattle.state_lines.specs.StateLines.{digit_lines}
use Rattle.state_lines.proofs.values.read_bytes.Given as goal

-- the lines so far were read; they are whole, but the last of all
abbrev pub invariant-lines : goal.invariant-lines
invariant-lines g l = record {
  room : length l.room ≡ 16001;
  within : length l.text.items ≤ l.len;
  whole : length l.text.items < l.len → length l.text.items % 8000 ≡ 0;
  bytes : IsBytes l.text.items;
  read : Gained (g.S.LineSource.log l.initial.source) (g.S.LineSource.log l.source) (λ calls. calls ≡ map text_read (digit_lines l.text.items));
  number : l.asked ≡ l.initial.asked + length (digit_lines l.text.items);
  later : g.S.LineSource.faults l.initial.source ≤ g.S.LineSource.faults l.source;
}

abbrev pub decreases-lines : goal.decreases-lines
decreases-lines g l = l.len - length l.text.items
