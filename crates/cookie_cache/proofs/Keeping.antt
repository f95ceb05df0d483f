-- What a cache finds, and what it has after one more keeping.
use Rattle.std.proofs.Common.{◌≡◌, ◌∙◌, sym, ap, ℕ, suc, ◌+◌, ◌%◌, ◌^◌, ◌≤◌, List, [], ◌∷◌, ◌++◌, length, take, find, filter, max, Result, Ok, Err, IsOk, OnOk, Vec, arith}
use Rattle.std.specs.Map.{lookup}
use Rattle.std.proofs.Math.Nat.{mod-add-mod}
use Rattle.std.proofs.lemmas.List.Elements.{All-cons}
use Rattle.relay_outside.specs.declared.address.Addr.{Addr}
use Rattle.cookie_cache.specs.declared.cache.CookieCache.{CookieCache}
use Rattle.cookie_cache.specs.declared.kept_reply.KeptReply.{KeptReply}
use Rattle.cookie_cache.specs.Keepings.{Keeping, kept, last_keeping_moment, moment_used}
use Rattle.cookie_cache.specs.Entries.{CacheEntry, all_shown, cache_entries, keeping_entry, has_other_key, cache_key, numbered_keepings}
use Rattle.cookie_cache.specs.Oldest.{without_gone}
use Rattle.cookie_cache.specs.Caches.{IsSource, CacheStandsFor}
use Rattle.cookie_cache.proofs.InOrder.{in_order, in_order-more, find-in_order, is_under}
use Rattle.cookie_cache.proofs.Ages.{without_gone-in_order}
use Rattle.cookie_cache.proofs.Kept.{kept_under, reply_at}
use Rattle.cookie_cache.proofs.Shown.{answer_at, has_bytes, lookup-shown}

pub on_ok : {X Y : Type 0} (r : Result X Y) (P : Type 0) → IsOk r → OnOk r P → P
on_ok (Ok x) P is h = h
on_ok (Err y) P is h = cc

-- what the cache has under a key is what is kept
pub finds : (cache : CookieCache) (keepings : List Keeping) (source : Addr) (cookie : List ℕ) (now : ℕ) → CacheStandsFor cache keepings → IsSource source
    → kept keepings source cookie (moment_used keepings now) ≡ answer_at (max now cache.last_moment) (lookup (has_bytes (cache_key source cookie)) cache.entries.entries)
unfolding kept cache_entries
finds cache keepings source cookie now stands from =
    let at : ℕ = max now cache.last_moment in
    let time : moment_used keepings now ≡ at = ap (max now) (sym stands.moment_is) in
    ap (kept keepings source cookie) time
    ∙ kept_under source cookie at from 4096 keepings stands.in_time stands.from_sources
    ∙ ap (reply_at at) (sym (find-in_order (cache_key source cookie) (take 4096 (numbered_keepings keepings))))
    ∙ ap (λ es. reply_at at (find (is_under (cache_key source cookie)) es)) (sym stands.entries_are)
    ∙ sym (lookup-shown (cache_key source cookie) at cache.entries.entries)

-- a cache that has no entry stands for no keeping
pub stands_for_none : (cache : CookieCache) → cache.entries.entries ≡ [] → cache.next_key.items ≡ [] → cache.count ≡ 0 → cache.last_moment ≡ 0 → CacheStandsFor cache []
unfolding cache_entries
stands_for_none cache none key count moment = record {
  entries_are = ap all_shown none;
  count_is = count;
  moment_is = moment;
  next_key_is = key;
  in_time = tt;
  from_sources = λ k d low. absurd (omega arith);
}

-- what a keeping makes of a cache: the entry of its key goes, the new one comes last, and then the first goes where it is due
pub record Keeps {A : Type 0} (old new : CookieCache) (keeping : Keeping) (left : List (Vec ℕ A × KeptReply)) (came : List CacheEntry) : Type 0 where
  pub taken : all_shown left ≡ filter (has_other_key (keeping_entry keeping 0)) (all_shown old.entries.entries)
  pub came_is : came ≡ all_shown left ++ record { key = cache_key keeping.source keeping.cookie; number = old.count; reply = keeping.reply; moment = keeping.moment } ∷ []
  pub gone : all_shown new.entries.entries ≡ without_gone ((old.count + 1) % 2 ^ 64) came
  pub count : new.count ≡ (old.count + 1) % 2 ^ 64
  pub moment : new.last_moment ≡ keeping.moment
  pub next_key : new.next_key.items ≡ []

counts : (keepings : List Keeping) (keeping : Keeping) (n : ℕ) → n ≡ length keepings % 2 ^ 64 → (n + 1) % 2 ^ 64 ≡ length (keeping ∷ keepings) % 2 ^ 64
counts keepings keeping n is =
    let one : length keepings + 1 ≡ suc (length keepings) = omega arith in
    ap (λ m. (m + 1) % 2 ^ 64) is ∙ mod-add-mod (length keepings) (2 ^ 64) 1 ∙ ap (λ m. m % 2 ^ 64) one

entries_after : {A : Type 0} (old new : CookieCache) (keepings : List Keeping) (keeping : Keeping) (left : List (Vec ℕ A × KeptReply)) (came : List CacheEntry)
    → CacheStandsFor old keepings → Keeps old new keeping left came → all_shown new.entries.entries ≡ cache_entries (keeping ∷ keepings)
unfolding cache_entries
entries_after old new keepings keeping left came stands made =
    let e : CacheEntry = keeping_entry keeping (length keepings) in
    let recent : List CacheEntry = take 4096 (numbered_keepings keepings) in
    let left_are : all_shown left ≡ filter (has_other_key e) (in_order recent) = made.taken ∙ ap (filter (has_other_key e)) stands.entries_are in
    let entry_is : record { key = cache_key keeping.source keeping.cookie; number = old.count; reply = keeping.reply; moment = keeping.moment } ≡ e =
    (λ i. record { key = cache_key keeping.source keeping.cookie; number = stands.count_is i; reply = keeping.reply; moment = keeping.moment }) in
    let came_are : came ≡ in_order (e ∷ recent) = made.came_is ∙ (λ i. left_are i ++ entry_is i ∷ []) ∙ sym (in_order-more e recent) in
    made.gone ∙ (λ i. without_gone (counts keepings keeping old.count stands.count_is i) (came_are i)) ∙ without_gone-in_order (keeping ∷ keepings)

pub keeps : {A : Type 0} (old new : CookieCache) (keepings : List Keeping) (keeping : Keeping) (left : List (Vec ℕ A × KeptReply)) (came : List CacheEntry)
    → CacheStandsFor old keepings → IsSource keeping.source → last_keeping_moment keepings ≤ keeping.moment → Keeps old new keeping left came → CacheStandsFor new (keeping ∷ keepings)
keeps old new keepings keeping left came stands from low made = record {
  entries_are = entries_after old new keepings keeping left came stands made;
  count_is = made.count ∙ counts keepings keeping old.count stands.count_is;
  moment_is = made.moment;
  next_key_is = made.next_key;
  in_time = (low, stands.in_time);
  from_sources = All-cons (λ k. IsSource k.source) keeping keepings from stands.from_sources;
}
