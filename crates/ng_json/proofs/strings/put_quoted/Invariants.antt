use Rattle.std.proofs.Common.{◌≡◌, ◌+◌, ◌*◌, ◌≤◌, ◌++◌, length, drop}
use Rattle.json.specs.Print.{escape}
use Rattle.ng_json.proofs.strings.put_quoted.Given as goal

-- what is written, with what is left to write, is the whole
abbrev pub invariant-loop-byte : goal.invariant-loop-byte
invariant-loop-byte l = record {
  list : l.out.list ++ escape (drop l.byte-index l.text) ≡ l.initial.out.list ++ escape l.text;
  room : 6 * length l.text + 1 ≤ l.out.spare + 6 * l.byte-index;
  kept : l.initial.out.spare ≤ l.out.spare + 6 * l.byte-index;
}
