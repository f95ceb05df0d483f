use Rattle.std.proofs.Common.{◌≡◌, ◌≤◌, length, map, take}
use Rattle.sdp_text.specs.Lines.{without_empty_end}
use Rattle.sdp_text.proofs.line.filled_len.Given as goal

-- the lines after these are empty
abbrev pub invariant-loop-len : goal.invariant-loop-len
invariant-loop-len l = record {
  within : l.len ≤ length l.lines;
  kept : without_empty_end (take l.len (map (λ x. x.now) l.lines)) ≡ without_empty_end (map (λ x. x.now) l.lines);
}

abbrev pub decreases-loop-len : goal.decreases-loop-len
decreases-loop-len l = l.len
