-- Which lists a learner stands for.
use Rattle.std.specs.Prelude.{◌≡◌, Bool, true, false, List, Some}
use Rattle.endpoint_learn.specs.declared.learner.Learner.{Learner}
use Rattle.endpoint_learn.specs.declared.learner.Judge.{Judge}
use Rattle.endpoint_learn.specs.declared.learner.Judge.TheVariants.{Pass, WrongSource}
use Rattle.endpoint_learn.specs.Lessons.{LearnStep, Signalling, last_signal, learned_after}

-- what a learner keeps of the last signal
abbrev pub signal_of : Learner → Signalling
signal_of learner = record { address = learner.signalled; flags = learner.flags }

-- the learner stands for this list: it has what was signalled last, and what was learned
pub record LearnerStandsFor (learner : Learner) (steps : List LearnStep) : Type 0 where
  pub signal_is : last_signal steps ≡ Some (signal_of learner)
  pub learned_is : learned_after steps ≡ learner.learned

abbrev pub judge_of : Bool → Judge
judge_of true = WrongSource
judge_of false = Pass
