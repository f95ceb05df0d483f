use Rattle.std.proofs.Common.{◌≡◌, ◌+◌, map, drop}
use Rattle.sdp_text.specs.LineFaults.{first_faulty}
use Rattle.sdp_text.proofs.line.faulty_line.Given as goal

-- no line so far is faulty
abbrev pub invariant-loop-line : goal.invariant-loop-line
invariant-loop-line l = record {
  number : l.number ≡ l.line-index + 1;
  none : first_faulty 1 (map (λ x. x.now) l.lines) ≡ first_faulty (l.line-index + 1) (map (λ x. x.now) (drop l.line-index l.lines));
}
