use Rattle.sdes_lines.proofs.LineEnds.{spaces_end, end_is_spaces}
use Rattle.sdes_lines.proofs.read.is_line_end.Goals as goal

pub returns-in-None : goal.returns-in-None
returns-in-None c = (
  λ spaces. spaces_end c.args.text.now (c.is_spaces.ensures.0 spaces),
  λ end. c.is_spaces.ensures.1 (end_is_spaces c.args.text.now c.in-None.ensures end),
)
