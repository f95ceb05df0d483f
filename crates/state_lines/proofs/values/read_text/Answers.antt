use Rattle.std.proofs.Common.{ℕ, Vec, Global, arith}
use Rattle.std.proofs.lemmas.Result.{err_from_is_err_and}
use Rattle.state_lines.proofs.ToldReads.{told_no_length, told_rest}
use Rattle.state_lines.proofs.values.read_text.Goals as goal

pub returns-in_err-len-clause-read : goal.returns-in_err-len-clause-read
returns-in_err-len-clause-read g c =
    let p = err_from_is_err_and c.from_residual.result c.from_residual.ensures.1 in
    rw (p.1, p.2)
    (told_no_length (g.S.LineSource.log c.args.source.now) (g.S.LineSource.log c.read_length.new.source) _ c.args.asked.now c.read_length.new.asked
    c.in_err-len.ensures.number c.in_err-len.ensures.one c.in_err-len.ensures.read)

pub returns-clause-read : goal.returns-clause-read
returns-clause-read g c =
    told_rest (g.S.LineSource.log c.args.source.now) (g.S.LineSource.log c.read_length.new.source) (g.S.LineSource.log c.read_bytes.new.source) c.in_ok-len.len c.in_ok-len.ensures.read
    (λ (text : Vec ℕ Global). text.items) c.read_bytes.result c.args.asked.now c.read_length.new.asked (omega arith) c.in_ok-len.ensures.number c.read_bytes.ensures.length c.read_bytes.ensures.read
