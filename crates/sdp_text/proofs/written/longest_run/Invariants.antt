use Rattle.std.proofs.Common.{◌≡◌, ◌+◌, ◌≤◌, length, drop, eqb}
use Rattle.std.specs.List.{prefix_len}
use Rattle.sdp_text.specs.Hosts.{longest_run}
use Rattle.sdp_text.proofs.written.longest_run.Given as goal

abbrev pub invariant-loop-i : goal.invariant-loop-i
invariant-loop-i l = record {
  within : l.i ≤ length l.groups;
  few : l.i + l.zeros ≤ length l.groups;
  zeros : l.zeros ≡ prefix_len (λ x. eqb x 0) (drop l.i l.groups);
  longest : l.longest ≡ longest_run l.i (drop l.i l.groups);
}

abbrev pub decreases-loop-i : goal.decreases-loop-i
decreases-loop-i l = l.i
