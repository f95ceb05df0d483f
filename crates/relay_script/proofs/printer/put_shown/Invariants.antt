use Rattle.std.proofs.Common.{◌≡◌, ◌+◌, ◌*◌, ◌≤◌, ◌++◌, length, take}
use Rattle.relay_script.specs.EventLines.{shown_text}
use Rattle.relay_script.proofs.printer.put_shown.Given as goal

-- the bytes so far are shown after the line
abbrev pub invariant-loop-byte : goal.invariant-loop-byte
invariant-loop-byte l = record {
  list : l.line.list ≡ l.initial.line.list ++ shown_text (take l.byte-index l.bytes);
  room : 4 * length l.bytes ≤ l.line.spare + 4 * l.byte-index;
}
