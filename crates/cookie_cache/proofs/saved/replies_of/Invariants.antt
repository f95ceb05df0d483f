use Rattle.std.proofs.Common.{◌≡◌, map, ◌++◌}
use Rattle.cookie_cache.specs.Entries.{all_shown}
use Rattle.cookie_cache.specs.SavedReplies.{saved_entry, HaveCacheKeys}
use Rattle.cookie_cache.proofs.saved.replies_of.Given as goal

abbrev pub invariant-loop-pair : goal.invariant-loop-pair
invariant-loop-pair l =
    (goal.iterator-loop-pair).can_next l.pair-iterator ×
    (goal.iterator-loop-pair).is_finite l.pair-iterator ×
    (map saved_entry l.kept.items ++ all_shown l.pair-iterator ≡ all_shown l.fn.entries.entries) ×
    HaveCacheKeys (all_shown l.pair-iterator)
