use Rattle.command_line.proofs.Refused.{parsed, refused_as, unparsed}
use Rattle.command_line.proofs.read.parse.Goals as goal

pub returns-in-Ok : goal.returns-in-Ok
returns-in-Ok c = parsed _ _ c.in-Ok.matches c.requires.simple (c.in-Ok.ensures.kinds c.requires.simple) c.in-Ok.ensures.matches

pub returns-in-Err : goal.returns-in-Err
returns-in-Err c = refused_as _ _ c.refuse_by.result (unparsed _ _ c.in-Err.error (c.in-Err.ensures.kinds c.requires.simple)) c.refuse_by.ensures
