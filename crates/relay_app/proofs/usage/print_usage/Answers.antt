use Rattle.relay_app.proofs.Refusals.{tells_usage, tells_line}
use Rattle.relay_app.proofs.usage.print_usage.Goals as goal

pub returns-in-Ok-write-clause-printed : goal.returns-in-Ok-write-clause-printed
returns-in-Ok-write-clause-printed g c = tells_usage _ _ _ _ _ _ c.as_bytes.ensures.value c.requires.begins c.in-Ok.ensures.log c.in-Ok-write.ensures.log

pub returns-in-Err-clause-printed : goal.returns-in-Err-clause-printed
returns-in-Err-clause-printed g c = tells_line _ _ _ _ _ _ c.as_bytes.ensures.value c.requires.begins c.in-Ok.ensures.log c.in-Err.ensures.log
