use Rattle.std.proofs.lemmas.Result.{err_from_is_err_and}
use Rattle.replay_devices.proofs.Gaining.{no_line_read}
use Rattle.replay_devices.proofs.script_reader.read_script.Goals as goal

pub returns-in_err-buffer-clause-front : goal.returns-in_err-buffer-clause-front
returns-in_err-buffer-clause-front g c =
    let p = err_from_is_err_and c.from_residual.result c.from_residual.ensures.1 in
    rw p.1 (no_line_read (g.S.LineSource.log c.args.source.now))
