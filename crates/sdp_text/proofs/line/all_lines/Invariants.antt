use Rattle.std.proofs.Common.{◌≡◌, ◌+◌, ◌++◌, ◌≤◌, length, map}
use Rattle.std.specs.Str.Lines.{lines}
use Rattle.sdp_text.specs.Lines.{size_of}
use Rattle.sdp_text.proofs.line.all_lines.Given as goal

-- the lines so far and those of the rest are those of the text
abbrev pub invariant-loop-more : goal.invariant-loop-more
invariant-loop-more l = record {
  lines : map (λ x. x.now) l.found.items ++ lines l.rest ≡ lines l.text;
  small : size_of (map (λ x. x.now) l.found.items) + length l.rest ≤ length l.text;
  few : length l.found.items + length l.rest ≤ length l.text;
}

abbrev pub decreases-loop-more : goal.decreases-loop-more
decreases-loop-more l = length l.rest
