use Rattle.std.proofs.Common.{◌∙◌, sym}
use Rattle.replay_devices.proofs.Places.{gives_packet}
use Rattle.replay_devices.proofs.ends.ReplayInInEnd.take.Goals as goal

pub returns-clause-takes : goal.returns-clause-takes
returns-clause-takes c =
    gives_packet c.args.self.now _ c.in-Some.index _ _ _
    (rw (← c.self.view_is) c.in-Some.ensures.line)
    (rw (← c.self.view_is) (sym c.take_fails.ensures ∙ c.if-take_fails.false))
    (rw (← c.self.view_is) c.in-Some-packet.ensures)
    (rw c.fill-len.auto.buf c.fill-len.ensures.count)
    c.fill-len.ensures.front
