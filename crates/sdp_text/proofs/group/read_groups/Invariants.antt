use Rattle.std.proofs.Common.{◌≡◌, ◌≤◌, length, map}
use Rattle.sdp_text.specs.Hosts.{group, groups, all_some}
use Rattle.sdp_text.specs.Pieces.{pieces}
use Rattle.sdp_text.specs.Limits.{no_longer}
use Rattle.sdp_text.proofs.GroupLists.{with_front}
use Rattle.sdp_text.proofs.group.read_groups.Given as goal

-- the groups so far and those of the rest are those of the text
abbrev pub invariant-loop-group : goal.invariant-loop-group
invariant-loop-group l = record {
  read : no_longer 8 (groups l.text) ≡ no_longer 8 (with_front l.found (all_some (map group (pieces 58 l.rest))));
  few : length l.found ≤ 8;
}

abbrev pub decreases-loop-group : goal.decreases-loop-group
decreases-loop-group l = length l.rest
