use Rattle.std.proofs.Common.{◌≡◌, ◌∙◌, sym, subst, true, false}
use Rattle.media_lane.specs.declared.answers.Received.{Received}
use Rattle.media_lane.specs.Steps.{Took}
use Rattle.replay_steps.proofs.Courses.{takes_nothing}
use Rattle.replay_steps.proofs.line_packet.tell_arrival.Goals as goal

pub returns-else-opened-clause-arrives : goal.returns-else-opened-clause-arrives
returns-else-opened-clause-arrives c config l new port pair half at took shut =
    takes_nothing config l new port c.args.packet.source c.args.packet.bytes.now c.args.failing pair half at
    (shut (λ is. absurd (let k : false ≡ true = sym c.if-opened.false ∙ is in cc)))
    (subst (λ (r : Received). Took config l pair half r new) c.in-Nothing.is took)
