use Rattle.std.proofs.Common.{◌≤◌, drop}
use Rattle.state_reads.specs.Calls.{saved_numbers, AreRising}
use Rattle.state_reads.proofs.call_orders.numbers_rise.Given as goal

abbrev pub invariant-loop-call : goal.invariant-loop-call
invariant-loop-call l = record {
  low : l.next ≤ l.begun;
  whole : AreRising l.next (saved_numbers (drop l.call-index l.calls)) l.begun → AreRising 0 (saved_numbers l.calls) l.begun;
  rest : AreRising 0 (saved_numbers l.calls) l.begun → AreRising l.next (saved_numbers (drop l.call-index l.calls)) l.begun;
}
