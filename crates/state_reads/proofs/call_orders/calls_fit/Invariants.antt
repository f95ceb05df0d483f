use Rattle.std.proofs.Common.{All, take}
use Rattle.state_reads.specs.Calls.{CallRanges}
use Rattle.state_reads.proofs.call_orders.calls_fit.Given as goal

abbrev pub invariant-loop-call : goal.invariant-loop-call
invariant-loop-call l = All CallRanges (take l.call-index l.calls)
