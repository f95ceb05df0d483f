use Rattle.replay_window.proofs.Nearest.{nearest_lifted-nearest}
use Rattle.replay_window.proofs.window.near_is_nearest.Goals as goal

pub returns : goal.returns
returns c = nearest_lifted-nearest
