use Rattle.std.proofs.Common.{◌≡◌, ◌+◌, ◌*◌, ◌≤◌, ◌++◌, length, take}
use Rattle.sdp_text.specs.Hosts.{group_text}
use Rattle.sdp_text.proofs.JoinLemmas.{tail_of}
use Rattle.sdp_text.proofs.written.push_groups.Given as goal

abbrev pub invariant-loop-group : goal.invariant-loop-group
invariant-loop-group l = record {
  written : l.out ≡ l.initial.out ++ tail_of 58 group_text (take l.group-index l.others);
  short : length l.out ≤ length l.fn.out + 4 + 5 * l.group-index;
}
