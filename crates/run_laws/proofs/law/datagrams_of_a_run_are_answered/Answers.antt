use Rattle.run_laws.proofs.Answers.{answered_in}
use Rattle.run_laws.proofs.law.datagrams_of_a_run_are_answered.Goals as goal

pub returns : goal.returns
returns g c settings range gate outside wrote wrote_now answer run later earlier r x split is unkept no_port no_key =
    answered_in settings.config outside run.did.rounds later earlier r x run.did.log.causes split is unkept no_port no_key
