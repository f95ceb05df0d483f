use Rattle.std.proofs.Common.{All, take}
use Rattle.state_values.specs.CacheTrees.{FitsSavedReply}
use Rattle.state_reads.proofs.caches.replies_fit.Given as goal

abbrev pub invariant-loop-saved : goal.invariant-loop-saved
invariant-loop-saved l = All FitsSavedReply (take l.saved-index l.kept)
