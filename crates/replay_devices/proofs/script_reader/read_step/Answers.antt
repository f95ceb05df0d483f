use Rattle.replay_devices.proofs.Gaining.{text_read}
use Rattle.replay_devices.proofs.script_reader.read_step.Goals as goal

pub returns-in-Ok-Text-clause-read : goal.returns-in-Ok-Text-clause-read
returns-in-Ok-Text-clause-read g c =
    let shown = rw c.in-Ok-Text.field-0-is at c.in-Ok-Text.ensures.log in
    text_read (g.S.LineSource.log c.args.source.now) (g.S.LineSource.log c.line.new.self) _ _ c.find_step.result c.requires shown c.find_step.ensures
