use Rattle.std.proofs.Common.{◌≡◌, ◌∙◌, sym, ap, subst, map, ◌++◌, List, ◌∷◌, All, IsTrue}
use Rattle.std.proofs.lemmas.List.Elements.{All-head, All-tail}
use Rattle.cookie_cache.specs.Entries.{CacheEntry, shown, all_shown}
use Rattle.cookie_cache.specs.SavedReplies.{saved_entry, is_cache_key}
use Rattle.cookie_cache.proofs.Saving.{distinct_shown, mapped}
use Rattle.cookie_cache.proofs.saved.replies_of.Goals as goal

pub reply_of-requires : goal.reply_of-requires
reply_of-requires c =
    let Fits : CacheEntry → Type 0 = λ entry. IsTrue (is_cache_key entry.key) in
    let all : All Fits (shown c.in-Some.pair ∷ all_shown c.next.new.self) = let P : List CacheEntry → Type 0 = λ entries. All Fits entries in subst P (ap all_shown c.in-Some.ensures.steps) c.loop-pair.invariant.3 in
    rw c.as_slice.ensures.value (All-head Fits (shown c.in-Some.pair) (all_shown c.next.new.self) all)

pub loop-pair-preserved : goal.loop-pair-preserved
loop-pair-preserved c =
    let Fits : CacheEntry → Type 0 = λ entry. IsTrue (is_cache_key entry.key) in
    let pair = c.in-Some.pair in
    let rest = all_shown c.next.new.self in
    let kept = c.loop-pair.kept.items in
    let all : All Fits (shown pair ∷ rest) = let P : List CacheEntry → Type 0 = λ entries. All Fits entries in subst P (ap all_shown c.in-Some.ensures.steps) c.loop-pair.invariant.3 in
    let one : saved_entry c.in_ok-saved.saved ≡ shown pair =
    c.in_ok-saved.ensures ∙ (λ i. record { key = c.as_slice.ensures.value i; number = pair.1.number; reply = pair.1.reply.list; moment = pair.1.moment }) in (
      tt,
      tt,
      ap (λ items. map saved_entry items ++ rest) c.in_ok-push.ensures.items
          ∙ mapped saved_entry kept c.in_ok-saved.saved rest
          ∙ ap (λ e. map saved_entry kept ++ e ∷ rest) one
          ∙ ap (λ es. map saved_entry kept ++ all_shown es) (sym c.in-Some.ensures.steps)
          ∙ c.loop-pair.invariant.2,
      All-tail Fits (shown pair) rest all,
    )

pub returns-clause-entries : goal.returns-clause-entries
returns-clause-entries c = record {
  keys = c.requires;
  distinct = distinct_shown c.args.entries.entries c.into_iter-pair-iterator.ensures.into_iter_gives.4;
}
