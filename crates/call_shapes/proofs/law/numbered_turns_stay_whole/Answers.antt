use Rattle.call_shapes.proofs.Relays.{goes_on_whole}
use Rattle.call_shapes.proofs.Beginning.{begins_whole}
use Rattle.call_shapes.proofs.Ending.{ends_whole, undone_whole}
use Rattle.call_shapes.proofs.NumberedSteps.{offer_goes_on, offer_begins, answer_goes_on, numbered_ends, undoes_offer}
use Rattle.call_shapes.proofs.law.numbered_turns_stay_whole.Goals as goal

pub returns-clause-offer : goal.returns-clause-offer
returns-clause-offer c = λ config old new whole step. goes_on_whole config old new whole (offer_goes_on config old new whole step)

pub returns-clause-first : goal.returns-clause-first
returns-clause-first c = λ config old new whole step. begins_whole config old new whole (offer_begins config old new whole step)

pub returns-clause-answer : goal.returns-clause-answer
returns-clause-answer c = λ config old new whole step. goes_on_whole config old new whole (answer_goes_on config old new whole step)

pub returns-clause-ends : goal.returns-clause-ends
returns-clause-ends c = λ config old new whole step. ends_whole config old new whole (numbered_ends config old new whole step)

pub returns-clause-undone : goal.returns-clause-undone
returns-clause-undone c = λ config old new whole step. undone_whole config old new whole (undoes_offer old new step)
