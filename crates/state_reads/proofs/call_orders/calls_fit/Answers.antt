use Rattle.std.proofs.Common.{All, subst}
use Rattle.std.proofs.lemmas.List.{take_all}
use Rattle.std.proofs.lemmas.List.Elements.{All-more}
use Rattle.state_reads.specs.Calls.{CallRanges}
use Rattle.state_reads.proofs.call_orders.calls_fit.Goals as goal

pub loop-call-preserved : goal.loop-call-preserved
loop-call-preserved c =
    All-more CallRanges c.args.calls.now c.loop-call.call-index c.call-item.result c.loop-call-test.true c.loop-call.invariant (subst CallRanges c.call-item.is c.call_fits.ensures)

pub returns : goal.returns
returns c = subst (All CallRanges) (take_all c.loop-call.call-index c.args.calls.now c.loop-call-test.false) c.loop-call.invariant
