-- Kept replies of which a cache keeps the same.
use Rattle.std.proofs.Common.{◌≡◌, ◌∙◌, refl, sym, ap, subst, ℕ, zero, suc, ◌+◌, ◌%◌, ◌^◌, ◌≤◌, List, [], ◌∷◌, ◌++◌, length, take, filter, find, Option, Some, None, All, arith}
use Rattle.std.proofs.Math.Nat.{mod-add-mod}
use Rattle.std.proofs.lemmas.List.Elements.{All-nil, All-cons, All-head, All-tail}
use Rattle.relay_outside.specs.declared.address.Addr.{Addr}
use Rattle.cookie_cache.specs.declared.cache.CookieCache.{CookieCache}
use Rattle.cookie_cache.specs.Keepings.{Keeping, kept, last_keeping_moment}
use Rattle.cookie_cache.specs.Entries.{CacheEntry, cache_entries, keeping_entry, cache_key, numbered_keepings, has_other_key}
use Rattle.cookie_cache.specs.Oldest.{without_gone}
use Rattle.cookie_cache.specs.Caches.{IsSource, NeverGoesBack, CacheStandsFor}
use Rattle.cookie_cache.proofs.InOrder.{in_order, in_order-more, find-in_order, is_under}
use Rattle.cookie_cache.proofs.Ages.{without_gone-in_order}
use Rattle.cookie_cache.proofs.Kept.{kept_under, reply_at}
use Rattle.cookie_cache.proofs.Latest.{kept_as_latest}

-- their moments don't go back, and their sources have their ranges
pub record AreKeepings (ks : List Keeping) : Type 0 where
  pub in_time : NeverGoesBack ks
  pub from_sources : All (λ k. IsSource k.source) ks

pub record AlikeKeepings (ks others : List Keeping) : Type 0 where
  pub entries_are : cache_entries ks ≡ cache_entries others
  pub count_is : length ks % 2 ^ 64 ≡ length others % 2 ^ 64
  pub moment_is : last_keeping_moment ks ≡ last_keeping_moment others
  pub these : AreKeepings ks
  pub those : AreKeepings others

pub keepings_of_one : (cache : CookieCache) (ks others : List Keeping) → CacheStandsFor cache ks → CacheStandsFor cache others → AlikeKeepings ks others
keepings_of_one cache ks others a b = record {
  entries_are = sym a.entries_are ∙ b.entries_are;
  count_is = sym a.count_is ∙ b.count_is;
  moment_is = sym a.moment_is ∙ b.moment_is;
  these = record { in_time = a.in_time; from_sources = a.from_sources };
  those = record { in_time = b.in_time; from_sources = b.from_sources };
}

pub stands_for_others : (cache : CookieCache) (ks others : List Keeping) → AlikeKeepings ks others → CacheStandsFor cache ks → CacheStandsFor cache others
stands_for_others cache ks others s a = record {
  entries_are = a.entries_are ∙ s.entries_are;
  count_is = a.count_is ∙ s.count_is;
  moment_is = a.moment_is ∙ s.moment_is;
  next_key_is = a.next_key_is;
  in_time = s.those.in_time;
  from_sources = s.those.from_sources;
}

-- One more.

count_after : (ks others : List Keeping) (keeping other : Keeping) → length ks % 2 ^ 64 ≡ length others % 2 ^ 64 → length (keeping ∷ ks) % 2 ^ 64 ≡ length (other ∷ others) % 2 ^ 64
count_after ks others keeping other same = next ks keeping ∙ ap (λ n. (n + 1) % 2 ^ 64) same ∙ sym (next others other)
  where
    next : (xs : List Keeping) (x : Keeping) → length (x ∷ xs) % 2 ^ 64 ≡ (length xs % 2 ^ 64 + 1) % 2 ^ 64
    next xs x = let one : suc (length xs) ≡ length xs + 1 = omega arith in ap (λ n. n % 2 ^ 64) one ∙ sym (mod-add-mod (length xs) (2 ^ 64) 1)

entries_next : (ks : List Keeping) (keeping : Keeping) →
    cache_entries (keeping ∷ ks) ≡ without_gone (length (keeping ∷ ks) % 2 ^ 64) (in_order (keeping_entry keeping (length ks) ∷ take 4096 (numbered_keepings ks)))
unfolding cache_entries
entries_next ks keeping = sym (without_gone-in_order (keeping ∷ ks))

-- the entry of one more, by the count of those before it
abbrev entry_at : Keeping → ℕ → CacheEntry
entry_at keeping number = record { key = cache_key keeping.source keeping.cookie; number = number; reply = keeping.reply; moment = keeping.moment }

entries_after : (ks others : List Keeping) (keeping : Keeping) → cache_entries ks ≡ cache_entries others → length ks % 2 ^ 64 ≡ length others % 2 ^ 64 →
    in_order (keeping_entry keeping (length ks) ∷ take 4096 (numbered_keepings ks)) ≡ in_order (keeping_entry keeping (length others) ∷ take 4096 (numbered_keepings others))
unfolding cache_entries
entries_after ks others keeping same count =
    in_order-more (keeping_entry keeping (length ks)) (take 4096 (numbered_keepings ks))
    ∙ (λ i. filter (has_other_key (entry_at keeping (count i))) (same i) ++ entry_at keeping (count i) ∷ [])
    ∙ sym (in_order-more (keeping_entry keeping (length others)) (take 4096 (numbered_keepings others)))

pub keepings_go_on : (ks others : List Keeping) (keeping : Keeping) → AlikeKeepings ks others → AreKeepings (keeping ∷ ks) → AlikeKeepings (keeping ∷ ks) (keeping ∷ others)
keepings_go_on ks others keeping s now = record {
  entries_are =
      entries_next ks keeping
      ∙ (λ i. without_gone (count_after ks others keeping keeping s.count_is i) (entries_after ks others keeping s.entries_are s.count_is i))
      ∙ sym (entries_next others keeping);
  count_is = count_after ks others keeping keeping s.count_is;
  moment_is = refl;
  these = now;
  those = record {
    in_time = (subst (λ m. m ≤ keeping.moment) s.moment_is now.in_time.0, s.those.in_time);
    from_sources = All-cons (λ k. IsSource k.source) keeping others (All-head (λ k. IsSource k.source) keeping ks now.from_sources) s.those.from_sources;
  };
}

-- What is kept.

found_alike : (ks others : List Keeping) (key : List ℕ) → cache_entries ks ≡ cache_entries others → find (is_under key) (take 4096 (numbered_keepings ks)) ≡ find (is_under key) (take 4096 (numbered_keepings others))
unfolding cache_entries
found_alike ks others key same =
    sym (find-in_order key (take 4096 (numbered_keepings ks))) ∙ ap (find (is_under key)) same ∙ find-in_order key (take 4096 (numbered_keepings others))

kept_of_source : (ks others : List Keeping) (source : Addr) (cookie : List ℕ) (at : ℕ) → AlikeKeepings ks others → IsSource source → kept ks source cookie at ≡ kept others source cookie at
unfolding kept
kept_of_source ks others source cookie at s from =
    kept_under source cookie at from 4096 ks s.these.in_time s.these.from_sources
    ∙ ap (reply_at at) (found_alike ks others (cache_key source cookie) s.entries_are)
    ∙ sym (kept_under source cookie at from 4096 others s.those.in_time s.those.from_sources)

all_taken : (P : Keeping → Type 0) (n : ℕ) (ks : List Keeping) → All P ks → All P (take n ks)
all_taken P zero ks all = All-nil P
all_taken P (suc n) [] all = All-nil P
all_taken P (suc n) (k ∷ ks) all = All-cons P k (take n ks) (All-head P k ks all) (all_taken P n ks (All-tail P k ks all))

all_within : (P : Keeping → Type 0) (later : List Keeping) (k : Keeping) (earlier : List Keeping) → All P (later ++ k ∷ earlier) → P k
all_within P [] k earlier all = All-head P k earlier all
all_within P (x ∷ later) k earlier all = all_within P later k earlier (All-tail P x (later ++ k ∷ earlier) all)

-- a kept reply went to a source whose parts have their ranges
source_of : (ks : List Keeping) (source : Addr) (cookie : List ℕ) (at : ℕ) (reply : List ℕ) → AreKeepings ks → kept ks source cookie at ≡ Some reply → IsSource source
source_of ks source cookie at reply are is =
    let latest = (kept_as_latest ks source cookie at reply).0 is in
    subst IsSource latest.matches.source_is
    (all_within (λ k. IsSource k.source) latest.later latest.keeping latest.earlier
    (subst (All (λ k. IsSource k.source)) latest.among (all_taken (λ k. IsSource k.source) 4096 ks are.from_sources)))

pub kept_alike : (ks others : List Keeping) (source : Addr) (cookie : List ℕ) (at : ℕ) → AlikeKeepings ks others → kept ks source cookie at ≡ kept others source cookie at
kept_alike ks others source cookie at s = go (kept ks source cookie at) (kept others source cookie at) refl refl
  where
    go : (x y : Option (List ℕ)) → kept ks source cookie at ≡ x → kept others source cookie at ≡ y → kept ks source cookie at ≡ kept others source cookie at
    go None None a b = a ∙ sym b
    go (Some reply) y a b = kept_of_source ks others source cookie at s (source_of ks source cookie at reply s.these a)
    go None (Some reply) a b = kept_of_source ks others source cookie at s (source_of others source cookie at reply s.those b)
