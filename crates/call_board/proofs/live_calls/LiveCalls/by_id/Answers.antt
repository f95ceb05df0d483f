use Rattle.call_board.proofs.Keyed.{keys_are}
use Rattle.call_board.proofs.live_calls.LiveCalls.by_id.Goals as goal

pub returns-clause-keys : goal.returns-clause-keys
returns-clause-keys c = rw (← c.self.view_is) (keys_are c.self.inside.calls.entries c.self.invariant)
