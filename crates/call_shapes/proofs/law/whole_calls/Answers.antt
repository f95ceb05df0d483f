use Rattle.call_shapes.proofs.Needs.{call_is_found}
use Rattle.call_shapes.proofs.law.whole_calls.Goals as goal

pub returns : goal.returns
returns c = λ config relay. call_is_found config relay.board relay.cells relay.holders
