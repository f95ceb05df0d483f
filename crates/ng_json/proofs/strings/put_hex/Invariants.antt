use Rattle.std.proofs.Common.{◌≡◌, ◌+◌, ◌*◌, ◌≤◌, ◌++◌, length, drop}
use Rattle.ng_json.specs.Strings.{hex_text}
use Rattle.ng_json.proofs.strings.put_hex.Given as goal

-- what is written, with the digits of the bytes that are left, is the whole
abbrev pub invariant-loop-byte : goal.invariant-loop-byte
invariant-loop-byte l = record {
  list : l.out.list ++ hex_text (drop l.byte-index l.bytes) ≡ l.initial.out.list ++ hex_text l.bytes;
  room : 2 * length l.bytes ≤ l.out.spare + 2 * l.byte-index;
  kept : l.initial.out.spare ≤ l.out.spare + 2 * l.byte-index;
}
