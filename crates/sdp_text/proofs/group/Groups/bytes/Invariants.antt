use Rattle.std.proofs.Common.{◌≡◌, ◌*◌, take, length}
use Rattle.sdp_text.specs.Hosts.{bytes_of_groups}
use Rattle.sdp_text.proofs.group.Groups.bytes.Given as goal

-- the bytes of the groups so far are written
abbrev pub invariant-loop-i : goal.invariant-loop-i
invariant-loop-i l = record {
  written : take (2 * l.i) l.bytes ≡ bytes_of_groups (take l.i l.groups);
  long : length l.bytes ≡ 16;
}
