use Rattle.std.proofs.Common.{◌∙◌, sym, ap}
use Rattle.endpoint_learn.specs.Lessons.{taught}
use Rattle.endpoint_learn.proofs.learner.Learner.learn.Goals as goal
use Rattle.endpoint_learn.proofs.Lessons.{learned_more}

pub returns : goal.returns
returns c steps stands = record {
  signal_is = stands.signal_is;
  learned_is = learned_more steps c.args.self.now.signalled c.args.source c.args.self.now.flags stands.signal_is
      ∙ ap (λ known. taught c.args.self.now.flags known c.args.source) stands.learned_is ∙ sym c.taught-self.ensures;
}
