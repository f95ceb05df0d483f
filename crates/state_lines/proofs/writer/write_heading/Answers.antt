use Rattle.state_lines.specs.StateLines.{heading}
use Rattle.state_lines.proofs.WrittenLines.{told_one}
use Rattle.state_lines.proofs.writer.write_heading.Goals as goal

pub returns-clause-lines : goal.returns-clause-lines
returns-clause-lines g c = told_one (g.O.LineSink.log c.args.out.now) (g.O.LineSink.log c.write.new.self) heading c.write.result c.write.ensures.log
