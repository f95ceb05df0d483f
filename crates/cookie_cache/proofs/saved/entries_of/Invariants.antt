use Rattle.std.proofs.Common.{◌≡◌, map, ◌++◌}
use Rattle.std.specs.Vec.Iter.{into_iter_items}
use Rattle.std.specs.List.{IsDistinct}
use Rattle.std.specs.Cmp.Lexicographic.{pointwise}
use Rattle.std.proofs.Common.{nat_eq}
use Rattle.cookie_cache.specs.Entries.{all_shown}
use Rattle.cookie_cache.specs.SavedReplies.{saved_entry, HaveCacheKeys}
use Rattle.cookie_cache.proofs.saved.entries_of.Given as goal

abbrev pub invariant-loop-saved : goal.invariant-loop-saved
invariant-loop-saved l =
    (goal.iterator-loop-saved).can_next l.saved-iterator ×
    (goal.iterator-loop-saved).is_finite l.saved-iterator ×
    (all_shown l.entries.entries ++ map saved_entry (into_iter_items l.saved-iterator) ≡ map saved_entry l.fn.kept.items) ×
    HaveCacheKeys (all_shown l.entries.entries) ×
    IsDistinct (λ x y. pointwise nat_eq x.items y.items) (map (λ e. e.0) l.entries.entries)
