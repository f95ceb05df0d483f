use Rattle.replay_window.proofs.SavedParts.{same_saved}
use Rattle.replay_window.proofs.saved.saved_windows_differ.Goals as goal

pub returns : goal.returns
returns c = same_saved
