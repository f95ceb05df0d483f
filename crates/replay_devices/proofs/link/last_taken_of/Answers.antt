use Rattle.relay_outside.specs.Link.{datagram_of}
use Rattle.replay_devices.proofs.Lists.{gives, gives_nothing}
use Rattle.replay_devices.proofs.link.last_taken_of.Goals as goal
use Rattle.replay_devices.proofs.link.last_taken_of.Goals.{in-Some, in_default}

pub loop-call-preserved : goal.loop-call-preserved
loop-call-preserved c = elim c.match-taken_by.branch [
  | in-Some w ↦ rw w.found-is (gives datagram_of _ _ _ _ c.loop-call-test.true c.call-item.is w.in-Some.ensures)
  | in_default w ↦ rw (w.found-is, gives_nothing datagram_of _ _ _ c.loop-call-test.true c.call-item.is w.in_default.ensures) c.loop-call.invariant
]
