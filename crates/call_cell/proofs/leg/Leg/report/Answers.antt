use Rattle.std.proofs.Common.{◌∙◌, sym}
use Rattle.rtp_packet.specs.declared.head.Half.TheVariants.{Rtp}
use Rattle.call_cell.specs.Parts.{learner_in}
use Rattle.call_cell.specs.LegHistories.{in_force_with}
use Rattle.call_cell.proofs.Learners.{goes, reports}
use Rattle.call_cell.proofs.leg.Leg.report.Goals as goal

pub returns : goal.returns
returns g c =
    reports c.args.self.now c.in_ok-learner.field-0-0 c.in_ok-learner.learner c.rtp_port.result c.endpoint.result
    (in_force_with c.args.self.now.signal (learner_in Rtp c.args.self.now.receiving)) (sym c.committed.ensures ∙ c.in_ok-learner.was) c.rtp_port.ensures
    (goes c.in_ok-learner.learner c.endpoint.result c.endpoint.ensures)
