-- The numbers of entries, and which entry is of the last 4,096 no more.
use Rattle.std.proofs.Common.{◌≡◌, ◌∙◌, refl, sym, ap, ℕ, zero, suc, ◌+◌, ◌-◌, ◌%◌, ◌^◌, ◌<◌, ◌≤◌, ◌⊎◌, inl, inr, List, [], ◌∷◌, ◌++◌, length, take, Bool, true, false, cond, nat_lt, All, arith, ltb-true, mod-eq_of_lt}
use Rattle.std.proofs.Math.Nat.{mod-add-mod, add-mod_right}
use Rattle.std.proofs.lemmas.Nat.{mod_below}
use Rattle.std.proofs.lemmas.Bool.{cases_lt}
use Rattle.std.proofs.lemmas.List.Elements.{All-cons, All-nil, All-head, All-weaker}
use Rattle.cookie_cache.specs.Keepings.{Keeping}
use Rattle.cookie_cache.specs.Entries.{CacheEntry, keeping_entry, numbered_keepings}
use Rattle.cookie_cache.specs.Oldest.{age, without_gone}
use Rattle.cookie_cache.proofs.InOrder.{in_order, has_key, in_order-far, All-in_order}

-- the distance of two counts modulo m
apart_case : (m r d : ℕ) → r < m → d < m → (r + d < m) ⊎ (m ≤ r + d) → ((r + d) % m + (m - r)) % m ≡ d
apart_case m r d low small (inl h) =
    let whole : r + d + (m - r) ≡ d + m = omega arith in
    ap (λ x. (x + (m - r)) % m) (mod-eq_of_lt h) ∙ ap (λ x. x % m) whole ∙ add-mod_right d m ∙ mod-eq_of_lt small
apart_case m r d low small (inr h) =
    let over : r + d ≡ (r + d - m) + m = omega arith in
    let less : r + d - m < m = omega arith in
    let whole : r + d - m + (m - r) ≡ d = omega arith in
    ap (λ x. (x % m + (m - r)) % m) over ∙ ap (λ x. (x + (m - r)) % m) (add-mod_right (r + d - m) m ∙ mod-eq_of_lt less) ∙ ap (λ x. x % m) whole ∙ mod-eq_of_lt small

apart : (m a d : ℕ) → d < m → ((a + d) % m + (m - a % m)) % m ≡ d
apart m a d small =
    let some : 0 < m = omega arith in
    ap (λ x. (x + (m - a % m)) % m) (sym (mod-add-mod a m d))
    ∙ apart_case m (a % m) d (mod_below a m some) small (cases_lt (a % m + d) m)

-- the age of the keeping after which j others were kept
age_of : (k : Keeping) (before j : ℕ) → j + 1 < 2 ^ 64 → age ((suc before + j) % 2 ^ 64) (keeping_entry k before) ≡ j + 1
age_of k before j fits =
    let moved : suc before + j ≡ before + (j + 1) = omega arith in
    ap (λ n. (n % 2 ^ 64 + (2 ^ 64 - before % 2 ^ 64)) % 2 ^ 64) moved ∙ apart (2 ^ 64) before (j + 1) fits

-- the last n of these keepings have ages up to n, where j others were kept after them
young : (ks : List Keeping) (n j : ℕ) → j + n < 2 ^ 64 → All (λ e. age ((length ks + j) % 2 ^ 64) e ≤ j + n) (take n (numbered_keepings ks))
young ks zero j fits = All-nil (λ e. age ((length ks + j) % 2 ^ 64) e ≤ j + 0)
young [] (suc n) j fits = All-nil (λ e. age ((length {A = Keeping} [] + j) % 2 ^ 64) e ≤ j + suc n)
young (k ∷ ks) (suc n) j fits =
    let first : age ((suc (length ks) + j) % 2 ^ 64) (keeping_entry k (length ks)) ≡ j + 1 = age_of k (length ks) j (omega arith) in
    let rest = young ks n (suc j) (omega arith) in
    let moved : length ks + suc j ≡ suc (length ks) + j = omega arith in
    All-cons (λ e. age ((suc (length ks) + j) % 2 ^ 64) e ≤ j + suc n) (keeping_entry k (length ks)) (take n (numbered_keepings ks)) (omega arith)
    (All-weaker (λ e. age ((length ks + suc j) % 2 ^ 64) e ≤ suc j + n) (λ e. age ((suc (length ks) + j) % 2 ^ 64) e ≤ j + suc n)
    (λ e h. let same : age ((length ks + suc j) % 2 ^ 64) e ≡ age ((suc (length ks) + j) % 2 ^ 64) e = ap (λ c. age (c % 2 ^ 64) e) moved in omega arith)
    (take n (numbered_keepings ks)) rest)

-- one keeping more before those is none, or has the next age
record Far (ks : List Keeping) (n j : ℕ) : Type 0 where
  entry : CacheEntry
  is : take (suc n) (numbered_keepings ks) ≡ take n (numbered_keepings ks) ++ entry ∷ []
  old : age ((length ks + j) % 2 ^ 64) entry ≡ j + suc n

far : (ks : List Keeping) (n j : ℕ) → j + suc n < 2 ^ 64 → (take (suc n) (numbered_keepings ks) ≡ take n (numbered_keepings ks)) ⊎ Far ks n j
far [] zero j fits = inl refl
far [] (suc n) j fits = inl refl
far (k ∷ ks) zero j fits = inr (record { entry = keeping_entry k (length ks); is = refl; old = age_of k (length ks) j fits })
far (k ∷ ks) (suc n) j fits = by (far ks n (suc j) (omega arith))
  where
    by : ((take (suc n) (numbered_keepings ks) ≡ take n (numbered_keepings ks)) ⊎ Far ks n (suc j)) → (take (suc (suc n)) (numbered_keepings (k ∷ ks)) ≡ take (suc n) (numbered_keepings (k ∷ ks))) ⊎ Far (k ∷ ks) (suc n) j
    by (inl same) = inl (ap (λ es. keeping_entry k (length ks) ∷ es) same)
    by (inr more) =
        let moved : suc (length ks) + j ≡ length ks + suc j = omega arith in
        let sum : suc j + suc n ≡ j + suc (suc n) = omega arith in
        inr (record {
          entry = more.entry;
          is = ap (λ es. keeping_entry k (length ks) ∷ es) more.is;
          old = ap (λ c. age (c % 2 ^ 64) more.entry) moved ∙ more.old ∙ sum;
        })

-- a first entry of the last 4,096 stays
stays_case : (c : ℕ) (e : CacheEntry) (es : List CacheEntry) → age c e ≤ 4096 → (b : Bool) → nat_lt 4096 (age c e) ≡ b → cond b es (e ∷ es) ≡ e ∷ es
stays_case c e es young true is = let older : 4096 < age c e = ltb-true 4096 (age c e) is in absurd (omega arith)
stays_case c e es young false is = refl

stays : (c : ℕ) (es : List CacheEntry) → All (λ e. age c e ≤ 4096) es → without_gone c es ≡ es
stays c [] all = refl
stays c (e ∷ es) all = stays_case c e es (All-head (λ x. age c x ≤ 4096) e es all) (nat_lt 4096 (age c e)) refl

goes : (c : ℕ) (z : CacheEntry) (es : List CacheEntry) → age c z ≡ 4097 → without_gone c (z ∷ es) ≡ es
goes c z es old = ap (λ a. cond (nat_lt 4096 a) es (z ∷ es)) old

gone_case : (c : ℕ) (z : CacheEntry) (es : List CacheEntry) → age c z ≡ 4097 → without_gone c es ≡ es → (b : Bool) → without_gone c (cond b es (z ∷ es)) ≡ es
gone_case c z es old kept true = kept
gone_case c z es old kept false = goes c z es old

-- of the entries of the last 4,097 keepings those of the last 4,096 stay
pub without_gone-in_order : (ks : List Keeping) → without_gone (length ks % 2 ^ 64) (in_order (take 4097 (numbered_keepings ks))) ≡ in_order (take 4096 (numbered_keepings ks))
without_gone-in_order ks = by (far ks 4096 0 (omega arith))
  where
    whole : length ks + 0 ≡ length ks
    whole = omega arith

    kept : without_gone (length ks % 2 ^ 64) (in_order (take 4096 (numbered_keepings ks))) ≡ in_order (take 4096 (numbered_keepings ks))
    kept =
        stays (length ks % 2 ^ 64) (in_order (take 4096 (numbered_keepings ks)))
        (All-in_order (λ e. age (length ks % 2 ^ 64) e ≤ 4096) (take 4096 (numbered_keepings ks))
        (All-weaker (λ e. age ((length ks + 0) % 2 ^ 64) e ≤ 0 + 4096) (λ e. age (length ks % 2 ^ 64) e ≤ 4096)
        (λ e h. let same : age ((length ks + 0) % 2 ^ 64) e ≡ age (length ks % 2 ^ 64) e = ap (λ c. age (c % 2 ^ 64) e) whole in omega arith)
        (take 4096 (numbered_keepings ks)) (young ks 4096 0 (omega arith))))

    by : ((take 4097 (numbered_keepings ks) ≡ take 4096 (numbered_keepings ks)) ⊎ Far ks 4096 0) → without_gone (length ks % 2 ^ 64) (in_order (take 4097 (numbered_keepings ks))) ≡ in_order (take 4096 (numbered_keepings ks))
    by (inl same) = ap (λ es. without_gone (length ks % 2 ^ 64) (in_order es)) same ∙ kept
    by (inr more) =
        let old : age (length ks % 2 ^ 64) more.entry ≡ 4097 = ap (λ c. age (c % 2 ^ 64) more.entry) (sym whole) ∙ more.old in
        ap (λ es. without_gone (length ks % 2 ^ 64) (in_order es)) more.is
        ∙ ap (without_gone (length ks % 2 ^ 64)) (in_order-far (take 4096 (numbered_keepings ks)) more.entry)
        ∙ gone_case (length ks % 2 ^ 64) more.entry (in_order (take 4096 (numbered_keepings ks))) old kept (has_key more.entry (take 4096 (numbered_keepings ks)))
