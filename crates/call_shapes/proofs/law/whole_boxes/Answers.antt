use Rattle.call_shapes.proofs.Needs.{free_is_shut, leased_is_shut, leg_is_open, open_is_held}
use Rattle.call_shapes.proofs.law.whole_boxes.Goals as goal

pub returns-clause-free : goal.returns-clause-free
returns-clause-free c = λ config relay. free_is_shut config relay.board relay.cells relay.holders

pub returns-clause-leased : goal.returns-clause-leased
returns-clause-leased c = λ config relay. leased_is_shut config relay.board relay.cells relay.holders

pub returns-clause-held : goal.returns-clause-held
returns-clause-held c = λ config relay. leg_is_open config relay.board relay.cells relay.holders

pub returns-clause-opened : goal.returns-clause-opened
returns-clause-opened c = λ config relay. open_is_held config relay.board relay.cells relay.holders
