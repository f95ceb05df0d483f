use Rattle.std.proofs.lemmas.Result.{err_from_is_err_and}
use Rattle.state_lines.proofs.WrittenLines.{told_stop, told_value}
use Rattle.state_lines.proofs.writer.StateWriter.write_value.Goals as goal

pub returns-in_err-write_length-clause-lines : goal.returns-in_err-write_length-clause-lines
returns-in_err-write_length-clause-lines g c =
    let p = err_from_is_err_and c.from_residual.result c.from_residual.ensures.1 in
    rw (p.1, p.2)
    (told_stop (g.O.LineSink.log c.args.out.now) (g.O.LineSink.log c.write_length.new.out) c.args.text.now _ c.in_err-write_length.ensures.log)

pub returns-clause-lines : goal.returns-clause-lines
returns-clause-lines g c =
    told_value (g.O.LineSink.log c.args.out.now) (g.O.LineSink.log c.write_length.new.out) (g.O.LineSink.log c.write_bytes.new.out) c.args.text.now c.write_bytes.result
    c.in_ok-write_length.ensures.log c.write_bytes.ensures.lines
