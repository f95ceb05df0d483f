use Rattle.std.proofs.Common.{sym, ◌∙◌, arith}
use Rattle.sdp_text.proofs.EmptyEnds.{drops_line, keeps_line}
use Rattle.sdp_text.proofs.line.filled_len.Goals as goal

pub loop-len-preserved : goal.loop-len-preserved
loop-len-preserved c = record {
  within = omega arith;
  kept = drops_line c.args.lines.now c.loop-len.len _ c.loop-len-test.true c.loop-len.invariant.within (sym c.is_empty.ensures ∙ c.if-is_empty.true) ∙ c.loop-len.invariant.kept;
}

pub returns-else-is_empty-clause-kept : goal.returns-else-is_empty-clause-kept
returns-else-is_empty-clause-kept c =
    keeps_line c.args.lines.now c.loop-len.len _ c.loop-len-test.true c.loop-len.invariant.within (sym c.is_empty.ensures ∙ c.if-is_empty.false) ∙ c.loop-len.invariant.kept
