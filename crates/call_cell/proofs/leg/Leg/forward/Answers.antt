use Rattle.std.proofs.Common.{◌≡◌, ap, subst, sym, ◌∙◌, Option, Some, take}
use Rattle.rtp_packet.specs.declared.head.Half.{Half}
use Rattle.port_pool.specs.declared.signal.LegSignal.{LegSignal}
use Rattle.call_cell.specs.Deeds.{way_on}
use Rattle.call_cell.specs.Heads.{half_of}
use Rattle.call_cell.specs.Parts.{HasNamed, learner_in}
use Rattle.call_cell.specs.LegHistories.{outbound_of, in_force_with, LegForwardsBy}
use Rattle.call_cell.proofs.Forwarding.{leg_forwards}
use Rattle.call_cell.proofs.Learners.{goes, is_in_force}
use Rattle.call_cell.proofs.leg.Leg.forward.Goals as goal

pub returns-clause-forwards : goal.returns-clause-forwards
returns-clause-forwards g c keys notes for named =
    let leg = c.args.self.now in
    let kind = half_of c.args.head in
    let bytes = take c.args.len c.args.buf.now in
    let way : c.way_on-way.result ≡ way_on leg.signal kind = c.way_on-way.ensures ∙ ap (λ (k : Half). way_on leg.signal k) c.half.ensures in
    let both : in_force_with leg.signal (learner_in c.way_on-way.result leg.receiving) ≡ Some (c.in-Some.signal, c.in-Some.learner)
    = sym c.committed.ensures ∙ c.in-Some.is in
    let signal = is_in_force leg.signal (learner_in c.way_on-way.result leg.receiving) c.in-Some.signal c.in-Some.learner both in
    let name : HasNamed c.in-Some.signal.outbound keys leg.sending
    = subst (λ (o : Option LegSignal). HasNamed (outbound_of o) keys leg.sending) signal named in
    subst (λ (w : Half). LegForwardsBy g.O.OutEnd.log g.O.OutEnd.faults (in_force_with leg.signal (learner_in w leg.receiving)) keys notes kind w bytes leg
    (record { holder = leg.holder; lease = leg.lease; signal = leg.signal; receiving = leg.receiving; sending = c.forward-sent.new.self; counts = c.finish.new.self; report = leg.report })
    c.forward-sent.new.buf c.outcome_of.result) way
    (leg_forwards g.O.OutEnd.log g.O.OutEnd.faults keys notes kind c.way_on-way.result c.in-Some.learner bytes c.in-Some.signal c.endpoint-to.result
    c.leased_port-from.result leg c.forward-sent.new.self c.finish.new.self c.forward-sent.new.buf c.forward-sent.result c.outcome_of.result both
    (goes c.in-Some.learner c.endpoint-to.result c.endpoint-to.ensures)
    c.leased_port-from.ensures c.finish.ensures c.outcome_of.ensures
    (c.forward-sent.ensures.forwards leg.holder keys notes for name))
