use Rattle.state_lines.specs.StateLines.{end_line}
use Rattle.state_lines.proofs.WrittenLines.{told_one}
use Rattle.state_lines.proofs.writer.write_ending.Goals as goal

pub returns-clause-lines : goal.returns-clause-lines
returns-clause-lines g c = told_one (g.O.LineSink.log c.args.out.now) (g.O.LineSink.log c.write.new.self) end_line c.write.result c.write.ensures.log
