use Rattle.std.proofs.Common.{◌≡◌, map, take}
use Rattle.cookie_cache.specs.SavedReplies.{saved_entry}
use Rattle.state_reads.proofs.caches.copy_replies.Given as goal

abbrev pub invariant-loop-saved : goal.invariant-loop-saved
invariant-loop-saved l = map saved_entry l.copies.items ≡ map saved_entry (take l.saved-index l.kept)
