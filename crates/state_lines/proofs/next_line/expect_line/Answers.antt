use Rattle.std.proofs.Common.{false}
use Rattle.std.proofs.lemmas.Result.{err_from_is_err_and}
use Rattle.std.proofs.lemmas.Slice.Eq.{slice_eq-Decides}
use Rattle.std.proofs.lemmas.Bool.Decides.{Decides-eqb}
use Rattle.state_lines.proofs.Numbers.{false_true}
use Rattle.state_lines.proofs.ToldReads.{told_no_line, told_other}
use Rattle.state_lines.proofs.next_line.expect_line.Goals as goal

pub returns-in_err-len-clause-read : goal.returns-in_err-len-clause-read
returns-in_err-len-clause-read g c =
    let p = err_from_is_err_and c.from_residual.result c.from_residual.ensures.1 in
    rw (p.1, p.2)
    (told_no_line (g.S.LineSource.log c.args.source.now) (g.S.LineSource.log c.next_line.new.source) c.args.line.now c.args.asked.now c.next_line.new.asked _ _
    c.in_err-len.ensures.number c.in_err-len.ensures.one c.in_err-len.ensures.read)

pub returns-else-eq-clause-read : goal.returns-else-eq-clause-read
returns-else-eq-clause-read g c =
    told_other (g.S.LineSource.log c.args.source.now) (g.S.LineSource.log c.next_line.new.source) c.args.line.now _ c.args.asked.now c.next_line.new.asked
    c.in_ok-len.ensures.number (λ same. false_true ((slice_eq-Decides Decides-eqb _ c.args.line.now false c.if-eq.ensures).1 same)) c.in_ok-len.ensures.read
