use Rattle.call_shapes.proofs.Starting.{fresh_whole}
use Rattle.call_shapes.proofs.Relays.{goes_on_whole}
use Rattle.call_shapes.proofs.Beginning.{begins_whole}
use Rattle.call_shapes.proofs.Ending.{ends_whole, all_end_whole, undone_whole}
use Rattle.call_shapes.proofs.law.turns_stay_whole.Goals as goal

pub returns-clause-start : goal.returns-clause-start
returns-clause-start c = fresh_whole

pub returns-clause-goes_on : goal.returns-clause-goes_on
returns-clause-goes_on c = goes_on_whole

pub returns-clause-begins : goal.returns-clause-begins
returns-clause-begins c = begins_whole

pub returns-clause-ends : goal.returns-clause-ends
returns-clause-ends c = ends_whole

pub returns-clause-all_end : goal.returns-clause-all_end
returns-clause-all_end c = all_end_whole

pub returns-clause-undone : goal.returns-clause-undone
returns-clause-undone c = undone_whole
