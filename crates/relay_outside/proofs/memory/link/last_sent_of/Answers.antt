use Rattle.relay_outside.proofs.LastSent.{sends, sends_nothing}
use Rattle.relay_outside.proofs.memory.link.last_sent_of.Goals as goal
use Rattle.relay_outside.proofs.memory.link.last_sent_of.Goals.{in-Some, in_default}

pub loop-call-preserved : goal.loop-call-preserved
loop-call-preserved c = elim c.match-sent_by.branch [
  | in-Some w ↦ rw w.found-is (sends _ _ _ _ c.loop-call-test.true c.call-item.is w.in-Some.ensures)
  | in_default w ↦ rw (w.found-is, sends_nothing _ _ _ c.loop-call-test.true c.call-item.is w.in_default.ensures) c.loop-call.invariant
]
