use Rattle.call_shapes.specs.Events.{section_flags}
use Rattle.call_shapes.proofs.LegLists.{offer_moves, answer_moves}
use Rattle.call_shapes.proofs.law.events_move_legs.Goals as goal

pub returns-clause-offer : goal.returns-clause-offer
returns-clause-offer c = λ call came keys dropped shape. offer_moves (section_flags dropped) came keys call shape

pub returns-clause-answer : goal.returns-clause-answer
returns-clause-answer c = answer_moves
