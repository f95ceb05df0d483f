use Rattle.state_lines.proofs.OneState.{same_states}
use Rattle.state_lines.proofs.law.states_are_read_once.Goals as goal

pub returns : goal.returns
returns c a b x y fit other e = same_states a b x y fit other e
