use Rattle.std.proofs.Common.{◌≡◌, ◌+◌, ◌*◌, ◌≤◌, ◌++◌, length, take}
use Rattle.hex.specs.Hex.{encode_lower}
use Rattle.relay_script.proofs.printer.put_hex.Given as goal

-- the digits of the bytes so far are after the line
abbrev pub invariant-loop-byte : goal.invariant-loop-byte
invariant-loop-byte l = record {
  list : l.line.list ≡ l.initial.line.list ++ encode_lower (take l.byte-index l.bytes);
  room : 2 * length l.bytes ≤ l.line.spare + 2 * l.byte-index;
}
