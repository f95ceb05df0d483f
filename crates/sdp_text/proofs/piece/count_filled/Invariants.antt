use Rattle.std.proofs.Common.{◌≡◌, ◌+◌, ◌≤◌, length}
use Rattle.sdp_text.specs.Pieces.{fields}
use Rattle.sdp_text.proofs.Cuts.{counted}
use Rattle.sdp_text.proofs.piece.count_filled.Given as goal

-- the fields so far and those of the rest are those of the text
abbrev pub invariant-loop-more : goal.invariant-loop-more
invariant-loop-more l = record {
  counted : counted 0 (fields l.text) ≡ counted l.count (fields l.rest);
  short : l.count + length l.rest ≤ length l.text;
}

abbrev pub decreases-loop-more : goal.decreases-loop-more
decreases-loop-more l = length l.rest
