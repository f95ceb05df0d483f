use Rattle.std.proofs.Common.{◌≡◌, ◌∙◌, sym, min, length, arith}
use Rattle.call_report.proofs.Ordered.{one_ended}
use Rattle.call_report.proofs.tag_order.stands_before.Goals as goal

pub returns : goal.returns
returns c =
    let ends : c.bytes.i ≡ min (length c.args.a.now) (length c.args.b.now) = omega (arith, c.min-i-end.ensures, c.bytes-test.false, c.bytes.auto.i-end) in
    sym (c.bytes.invariant ∙ one_ended c.args.a.now c.args.b.now c.bytes.i ends)
