use Rattle.std.proofs.Common.{◌≡◌, ◌*◌, ◌++◌, length, drop}
use Rattle.sdp_text.specs.Hosts.{groups_of_bytes}
use Rattle.sdp_text.proofs.written.groups_of.Given as goal

abbrev pub invariant-loop-i : goal.invariant-loop-i
invariant-loop-i l = record {
  read : l.groups ++ groups_of_bytes (drop (2 * l.i) l.bytes) ≡ groups_of_bytes l.bytes;
  count : length l.groups ≡ l.i;
}
