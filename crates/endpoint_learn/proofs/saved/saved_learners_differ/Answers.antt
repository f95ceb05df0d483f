use Rattle.endpoint_learn.proofs.SavedForms.{same_learner}
use Rattle.endpoint_learn.proofs.saved.saved_learners_differ.Goals as goal

pub returns : goal.returns
returns c = same_learner
