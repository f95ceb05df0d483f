use Rattle.call_shapes.specs.WholeRelay.{held_legs}
use Rattle.call_shapes.proofs.Needs.{gone_out, ended_out, undone_out}
use Rattle.call_shapes.proofs.law.whole_returns.Goals as goal

pub returns-clause-gone : goal.returns-clause-gone
returns-clause-gone c = λ config relay. gone_out config relay.board relay.cells relay.holders

pub returns-clause-ended : goal.returns-clause-ended
returns-clause-ended c = λ config relay. ended_out config relay.board relay.cells relay.holders

pub returns-clause-undone : goal.returns-clause-undone
returns-clause-undone c = λ config relay came between whole leases. undone_out config relay.board.pool between (held_legs relay.cells relay.board.calls) came whole.pool leases
