use Rattle.std.proofs.Common.{refl, ◌∙◌, ap, take, Ok, Err}
use Rattle.std.proofs.lemmas.Result.{err_from_is_err_and}
use Rattle.call_cell.proofs.BothHalves.{refusal, opens_rtcp}
use Rattle.call_cell.proofs.contexts.Inbound.unprotect_rtcp.Goals as goal

pub returns-clause-opens : goal.returns-clause-opens
returns-clause-opens c key notes for =
    opens_rtcp key notes (take c.args.len c.args.buf.now) c.args.self.now c.unprotect_with_ssrc.new.self c.args.buf.now c.unprotect_with_ssrc.new.buf
    (Ok c.in_ok-size.size) (Ok c.in_ok-size.size) refl for (c.in_ok-size.ensures.opens key.0 notes for.rtcp)

pub returns-in_err-size-clause-opens : goal.returns-in_err-size-clause-opens
returns-in_err-size-clause-opens c key notes for =
    let p = err_from_is_err_and c.from_residual.result c.from_residual.ensures.1 in
    opens_rtcp key notes (take c.args.len c.args.buf.now) c.args.self.now c.unprotect_with_ssrc.new.self c.args.buf.now c.unprotect_with_ssrc.new.buf
    (Err c.in_err-size.field-0.0) c.from_residual.result (p.1 ∙ ap refusal p.2) for (c.in_err-size.ensures.opens key.0 notes for.rtcp)
