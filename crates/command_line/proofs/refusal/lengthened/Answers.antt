use Rattle.std.specs.Prelude.{is_ok}
use Rattle.command_line.proofs.Begins.{goes_on}
use Rattle.command_line.proofs.refusal.lengthened.Goals as goal

pub returns : goal.returns
returns c = λ begun. goes_on c.args.line.bytes.items c.args.part.now c.push_str.new.self.bytes.items (is_ok c.push_str.result) c.push_str.ensures.bytes begun
