use Rattle.std.proofs.Common.{◌≡◌, ◌∷◌, ◌++◌, ◌∙◌}
use Rattle.std.specs.Prelude.{IfSome}
use Rattle.endpoint_learn.specs.SavedLearners.{FitsAddr, saved_source, saved_flag, saved_learner}
use Rattle.endpoint_learn.proofs.SavedForms.{none_written, some_written}
use Rattle.endpoint_learn.proofs.learner.Learner.save.Goals as goal
use Rattle.endpoint_learn.proofs.learner.Learner.save.Goals.{in-None, in-Some}

pub returns : goal.returns
unfolding saved_learner
returns c =
    let self = c.args.self in
    let known : IfSome self.learned FitsAddr × (c.match-self.learned ≡ saved_source self.learned) = elim c.match-self.branch [
      | in-None w ↦ none_written self.learned c.match-self.learned w.in-None.is w.learned-is
      | in-Some w ↦ some_written self.learned c.match-self.learned w.addr_bytes-learned.result w.in-Some.source w.in-Some.is w.learned-is w.addr_bytes-learned.ensures
    ] in (
      record { signalled = c.addr_bytes.ensures.0; learned = known.0 },
      c.joined.ensures
          ∙ (λ i. c.addr_bytes.ensures.1 i ++ (saved_flag self.flags.strict ∷ saved_flag self.flags.handover ∷ saved_flag self.flags.asymmetric ∷ known.1 i)),
    )
