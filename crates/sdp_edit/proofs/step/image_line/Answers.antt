use Rattle.std.proofs.Common.{length, ap, arith}
use Rattle.sdp_edit.proofs.TextLemmas.{length-with_end}
use Rattle.sdp_edit.proofs.step.image_line.Goals as goal

pub returns-in-Kept-clause-short : goal.returns-in-Kept-clause-short
returns-in-Kept-clause-short c = omega (arith, ap length c.whole.ensures, length-with_end c.args.line.now)
