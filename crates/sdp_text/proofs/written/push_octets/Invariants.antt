use Rattle.std.proofs.Common.{◌≡◌, ◌+◌, ◌*◌, ◌≤◌, ◌++◌, length, take}
use Rattle.sdp_text.specs.Hosts.{octet_text}
use Rattle.sdp_text.proofs.JoinLemmas.{tail_of}
use Rattle.sdp_text.proofs.written.push_octets.Given as goal

abbrev pub invariant-loop-octet : goal.invariant-loop-octet
invariant-loop-octet l = record {
  written : l.out ≡ l.initial.out ++ tail_of 46 octet_text (take l.octet-index l.others);
  short : length l.out ≤ length l.fn.out + 3 + 4 * l.octet-index;
}
