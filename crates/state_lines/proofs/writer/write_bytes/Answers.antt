use Rattle.std.proofs.Common.{◌+◌, arith}
use Rattle.std.proofs.lemmas.Result.{err_from_is_err_and}
use Rattle.state_lines.proofs.WrittenLines.{told_more, told_stopped}
use Rattle.state_lines.proofs.writer.write_bytes.Goals as goal

pub returns-in_err-write_digits-clause-lines : goal.returns-in_err-write_digits-clause-lines
returns-in_err-write_digits-clause-lines g c =
    let p = err_from_is_err_and c.from_residual.result c.from_residual.ensures.1 in
    rw (p.1, p.2)
    (told_stopped (g.O.LineSink.log c.args.out.now) (g.O.LineSink.log c.lines.out) (g.O.LineSink.log c.write_digits.new.out) c.args.text.now c.lines.at (c.lines.at + c.min.result) _
    c.lines-test.true (c.lines.invariant.whole c.lines-test.true) (omega (arith, c.min.ensures)) c.lines.invariant.lines c.in_err-write_digits.ensures.log)

pub lines-preserved : goal.lines-preserved
lines-preserved g c = record {
  room = omega arith;
  within = omega (arith, c.min.ensures);
  whole = λ more. omega (arith, c.min.ensures, c.lines.invariant.whole c.lines-test.true);
  lines = told_more (g.O.LineSink.log c.args.out.now) (g.O.LineSink.log c.lines.out) (g.O.LineSink.log c.write_digits.new.out) c.args.text.now c.lines.at (c.lines.at + c.min.result)
      c.lines-test.true (c.lines.invariant.whole c.lines-test.true) (omega (arith, c.min.ensures)) c.lines.invariant.lines c.in_ok-write_digits.ensures.log;
  cause = omega (arith, c.in_ok-write_digits.ensures.cause.later);
}
