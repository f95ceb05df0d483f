-- The reply that is kept, by its key: the latest under it, where that is young enough.
use Rattle.std.proofs.Common.{◌≡◌, ◌∙◌, refl, sym, ap, ℕ, zero, suc, ◌-◌, ◌<◌, ◌≤◌, List, [], ◌∷◌, length, take, find, Bool, true, false, cond, ◌&&◌, nat_lt, nat_eq, Option, Some, None, All, arith, lt-ltb, ltb-true, true≢false}
use Rattle.std.specs.Cmp.Lexicographic.{pointwise}
use Rattle.std.specs.Option.{option_map}
use Rattle.std.proofs.lemmas.List.Elements.{All-head, All-tail}
use Rattle.relay_outside.specs.declared.address.Addr.{Addr}
use Rattle.relay_outside.specs.Ports.{same_addr}
use Rattle.cookie_cache.specs.Keepings.{Keeping, answers, last_keeping_moment}
use Rattle.cookie_cache.specs.Entries.{CacheEntry, keeping_entry, cache_key, numbered_keepings}
use Rattle.cookie_cache.specs.Caches.{IsSource, NeverGoesBack}
use Rattle.cookie_cache.proofs.InOrder.{is_under}
use Rattle.cookie_cache.proofs.Keys.{key_test}

-- the reply of the entry that was found, where it is young enough
abbrev pub reply_at : ℕ → Option CacheEntry → Option (List ℕ)
reply_at at None = None
reply_at at (Some e) = cond (nat_lt (at - e.moment) 60000) (Some e.reply) None

old_test : (at m n : ℕ) → n ≤ m → nat_lt (at - m) 60000 ≡ false → (b : Bool) → nat_lt (at - n) 60000 ≡ b → b ≡ false
old_test at m n low old true is =
    let young : at - n < 60000 = ltb-true (at - n) 60000 is in
    absurd (true≢false (sym (lt-ltb (at - m) 60000 (omega arith)) ∙ old))
old_test at m n low old false is = refl

and_false : (a b : Bool) → b ≡ false → (a && b) ≡ false
and_false true b h = h
and_false false b h = refl

module _ (source : Addr) (cookie : List ℕ) (at : ℕ) where
  -- after one that is too old all are
  all_old : (n : ℕ) (ks : List Keeping) (m : ℕ) → nat_lt (at - m) 60000 ≡ false → last_keeping_moment ks ≤ m → NeverGoesBack ks → find (answers source cookie at) (take n ks) ≡ None
  all_old zero ks m old low back = refl
  all_old (suc n) [] m old low back = refl
  all_old (suc n) (k ∷ ks) m old low back =
      let older : nat_lt (at - k.moment) 60000 ≡ false = old_test at m k.moment low old (nat_lt (at - k.moment) 60000) refl in
      ap (λ b. cond b (Some k) (find (answers source cookie at) (take n ks)))
      (and_false (same_addr k.source source && pointwise nat_eq k.cookie cookie) (nat_lt (at - k.moment) 60000) older)
      ∙ all_old n ks k.moment older back.0 back.1

  case : (n : ℕ) (k : Keeping) (ks : List Keeping) → last_keeping_moment ks ≤ k.moment → NeverGoesBack ks
      → option_map (λ keeping. keeping.reply) (find (answers source cookie at) (take n ks)) ≡ reply_at at (find (is_under (cache_key source cookie)) (take n (numbered_keepings ks)))
      → (a b : Bool) → nat_lt (at - k.moment) 60000 ≡ b
      → option_map (λ keeping. keeping.reply) (cond (a && b) (Some k) (find (answers source cookie at) (take n ks)))
      ≡ reply_at at (cond a (Some (keeping_entry k (length ks))) (find (is_under (cache_key source cookie)) (take n (numbered_keepings ks))))
  case n k ks low back rest true true is = sym (ap (λ c. cond c (Some k.reply) None) is)
  case n k ks low back rest true false is =
      ap (option_map (λ keeping. keeping.reply)) (all_old n ks k.moment is low back) ∙ sym (ap (λ c. cond c (Some k.reply) None) is)
  case n k ks low back rest false b is = rest

  pub kept_under : IsSource source → (n : ℕ) (ks : List Keeping) → NeverGoesBack ks → All (λ k. IsSource k.source) ks
      → option_map (λ keeping. keeping.reply) (find (answers source cookie at) (take n ks)) ≡ reply_at at (find (is_under (cache_key source cookie)) (take n (numbered_keepings ks)))
  kept_under from zero ks back all = refl
  kept_under from (suc n) [] back all = refl
  kept_under from (suc n) (k ∷ ks) back all =
      let here : is_under (cache_key source cookie) (keeping_entry k (length ks)) ≡ (same_addr k.source source && pointwise nat_eq k.cookie cookie) =
      key_test source k.source cookie k.cookie from (All-head (λ x. IsSource x.source) k ks all) in
      case n k ks back.0 back.1 (kept_under from n ks back.1 (All-tail (λ x. IsSource x.source) k ks all))
      (same_addr k.source source && pointwise nat_eq k.cookie cookie) (nat_lt (at - k.moment) 60000) refl
      ∙ sym (ap (λ a. reply_at at (cond a (Some (keeping_entry k (length ks))) (find (is_under (cache_key source cookie)) (take n (numbered_keepings ks))))) here)
