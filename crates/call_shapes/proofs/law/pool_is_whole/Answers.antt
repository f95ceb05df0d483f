use Rattle.call_shapes.proofs.Needs.{free_not_held, held_apart, legs_out}
use Rattle.call_shapes.proofs.Numbered.{lease_follows}
use Rattle.call_shapes.proofs.law.pool_is_whole.Goals as goal

pub returns-clause-free : goal.returns-clause-free
returns-clause-free c = free_not_held

pub returns-clause-apart : goal.returns-clause-apart
returns-clause-apart c = held_apart

pub returns-clause-returns : goal.returns-clause-returns
returns-clause-returns c = legs_out

pub returns-clause-next : goal.returns-clause-next
returns-clause-next c = lease_follows
