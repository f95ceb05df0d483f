use Rattle.std.proofs.Common.{arith}
use Rattle.sdp_text.proofs.LineLemmas.{kept_lines, size_cut}
use Rattle.sdp_text.proofs.line.split_lines.Goals as goal

pub returns-in-Ok-clause-lines : goal.returns-in-Ok-clause-lines
returns-in-Ok-clause-lines c = kept_lines c.in-Ok.found.items c.as_slice.result.now c.truncate.new.self.items c.filled_len-len.result c.args.text.now c.as_slice.ensures.value c.truncate.ensures.items c.filled_len-len.ensures.kept c.in-Ok.ensures.lines

pub returns-in-Ok-clause-small : goal.returns-in-Ok-clause-small
returns-in-Ok-clause-small c = omega (arith, c.in-Ok.ensures.small, size_cut c.in-Ok.found.items c.truncate.new.self.items c.filled_len-len.result c.truncate.ensures.items)
