use Rattle.std.proofs.Common.{◌∙◌, List, map, refl, ap}
use Rattle.cookie_cache.specs.declared.saved.SavedReply.{SavedReply}
use Rattle.cookie_cache.specs.SavedReplies.{saved_entry}
use Rattle.state_reads.proofs.KeptReplies.{told_of_copy}
use Rattle.state_reads.proofs.caches.cache_stands.Goals as goal

pub returns : goal.returns
returns c =
    let saved = c.args.saved.now in
    told_of_copy c.is_loaded.result (record { kept = c.in_ok-kept.kept; count = saved.count; last_moment = saved.last_moment }) saved
    (c.in_ok-kept.ensures ∙ ap (λ (l : List SavedReply). map saved_entry l) c.deref.ensures.value) refl refl c.is_loaded.ensures
