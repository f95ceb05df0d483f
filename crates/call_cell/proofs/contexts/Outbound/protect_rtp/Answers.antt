use Rattle.std.proofs.Common.{refl, ◌∙◌, ap, take, Ok, Err}
use Rattle.std.proofs.lemmas.Result.{err_from_is_err_and}
use Rattle.call_cell.proofs.BothHalves.{loss, wraps_rtp}
use Rattle.call_cell.proofs.contexts.Outbound.protect_rtp.Goals as goal

pub returns-clause-wraps : goal.returns-clause-wraps
returns-clause-wraps c key notes for =
    wraps_rtp key notes (take c.args.len c.args.buf.now) c.args.self.now c.protect_with_head.new.self c.args.buf.now c.protect_with_head.new.buf
    (Ok (c.in_ok-size.size, c.in_ok-size.field-0-1)) (Ok c.in_ok-size.size) refl for (c.in_ok-size.ensures.wraps key.bytes key.suite notes for.rtp)

pub returns-in_err-size-clause-wraps : goal.returns-in_err-size-clause-wraps
returns-in_err-size-clause-wraps c key notes for =
    let p = err_from_is_err_and c.from_residual.result c.from_residual.ensures.1 in
    wraps_rtp key notes (take c.args.len c.args.buf.now) c.args.self.now c.protect_with_head.new.self c.args.buf.now c.protect_with_head.new.buf
    (Err c.in_err-size.field-0.0) c.from_residual.result (p.1 ∙ ap loss p.2) for (c.in_err-size.ensures.wraps key.bytes key.suite notes for.rtp)
