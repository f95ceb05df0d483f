-- The numbers of a place of a legal list run from 0 up to its front: none below that is left out.
use Rattle.std.proofs.Common.{◌≡◌, ◌∙◌, sym, ap, subst, refl, ℕ, zero, suc, ◌+◌, ◌<◌, ◌≤◌, ◌⊎◌, inl, inr, List, [], ◌∷◌, Bool, true, false, cond, length, filter, ◌==◌, arith}
use Rattle.std.specs.Prelude.{◌&&◌, nat_lt, count_by}
use Rattle.std.proofs.lemmas.List.Sums.{length-filter}
use Rattle.histories.specs.Words.{In, here, there, greatest}
use Rattle.histories.proofs.Lists.{filtered, mapped, equal_if}
use Rattle.call_board.proofs.Sieves.{filter_alike}
use Rattle.relay_core.specs.Entries.{Entry, is_at, front}
use Rattle.relay_core.specs.Turns.{Numbered}
use Rattle.relay_core.proofs.Histories.{both, and_true, is_there, Step, nothing, single, step}
use Rattle.relay_core.proofs.Boards.{lt_or_eq}
use Rattle.relay_core.proofs.Holders.{less, is_less}
use Rattle.relay_core.proofs.Counts.{Stands, is_low}
use Rattle.relay_core.proofs.Turns.{filter_none, false_if}

-- Where a test passes, one of two others does: it passes no oftener than both together.
cover_case : {A : Type 0} (p q r : A → Bool) (x : A) (xs : List A) → (r x ≡ true → (p x ≡ true) ⊎ (q x ≡ true))
    → length (filter r xs) ≤ length (filter p xs) + length (filter q xs)
    → (a b c : Bool) → p x ≡ a → q x ≡ b → r x ≡ c
    → length (cond c (x ∷ filter r xs) (filter r xs)) ≤ length (cond a (x ∷ filter p xs) (filter p xs)) + length (cond b (x ∷ filter q xs) (filter q xs))
cover_case p q r x xs f rest true true true h k m = omega (arith, rest)
cover_case p q r x xs f rest true true false h k m = omega (arith, rest)
cover_case p q r x xs f rest true false true h k m = omega (arith, rest)
cover_case p q r x xs f rest true false false h k m = omega (arith, rest)
cover_case p q r x xs f rest false true true h k m = omega (arith, rest)
cover_case p q r x xs f rest false true false h k m = omega (arith, rest)
cover_case p q r x xs f rest false false true h k m = absurd (elim (f m) [ inl t ↦ (let s = t in cc) | inr t ↦ (let s = t in cc) ])
cover_case p q r x xs f rest false false false h k m = rest

covered : {A : Type 0} (p q r : A → Bool) (xs : List A) → ((x : A) → r x ≡ true → (p x ≡ true) ⊎ (q x ≡ true))
    → length (filter r xs) ≤ length (filter p xs) + length (filter q xs)
covered p q r [] f = omega arith
covered p q r (x ∷ xs) f = cover_case p q r x xs (f x) (covered p q r xs f) (p x) (q x) (r x) refl refl refl

low_or_at : (place n : ℕ) (e : Entry) → is_low place (suc n) e ≡ true → (is_low place n e ≡ true) ⊎ (is_at place n e ≡ true)
low_or_at place n e h =
    let c = both (e.place == place) (nat_lt e.number (suc n)) h in
    elim (lt_or_eq e.number n (less e.number (suc n) c.1)) [
      | inl k ↦ inl (and_true (e.place == place) (nat_lt e.number n) c.0 (is_less e.number n k))
      | inr q ↦ inr (is_there place n e (equal_if e.place place c.0) q)
    ]

at_most_one : (l : List Entry) (place n : ℕ) → Step l place n → length (filter (is_at place n) l) ≤ 1
at_most_one l place n (nothing q) = let k : length (filter (is_at place n) l) ≡ 0 = ap length q in omega (arith, k)
at_most_one l place n (single e i p m q) = let k : length (filter (is_at place n) l) ≡ 1 = ap length q in omega (arith, k)

-- of numbers below n there are at most n
low_few : (l : List Entry) → Numbered l → (place n : ℕ) → length (filter (is_low place n) l) ≤ n
low_few l numbered place zero =
    let none : length (filter (is_low place 0) l) ≡ 0
    = ap length (filter_none (is_low place 0) l (λ e i. false_if (is_low place 0 e)
    (λ t. let k = less e.number 0 (both (e.place == place) (nat_lt e.number 0) t).1 in omega (arith, k)))) in
    omega (arith, none)
low_few l numbered place (suc n) =
    let more = covered (is_low place n) (is_at place n) (is_low place (suc n)) l (low_or_at place n) in
    let rest = low_few l numbered place n in
    let one = at_most_one l place n (step l numbered place n) in
    omega (arith, more, rest, one)

-- fewer, where one of them is left out
gap_case : (l : List Entry) → Numbered l → (place i n : ℕ) → filter (is_at place i) l ≡ [] → (i < n → suc (length (filter (is_low place n) l)) ≤ n)
    → (i < n) ⊎ (i ≡ n) → suc (length (filter (is_low place (suc n)) l)) ≤ suc n
gap_case l numbered place i n none rest (inl k) =
    let more = covered (is_low place n) (is_at place n) (is_low place (suc n)) l (low_or_at place n) in
    let one = at_most_one l place n (step l numbered place n) in
    let r = rest k in
    omega (arith, more, one, r)
gap_case l numbered place i n none rest (inr q) =
    let more = covered (is_low place n) (is_at place n) (is_low place (suc n)) l (low_or_at place n) in
    let few = low_few l numbered place n in
    let zero_there : length (filter (is_at place n) l) ≡ 0 = ap length (subst (λ (m : ℕ). filter (is_at place m) l ≡ []) q none) in
    omega (arith, more, few, zero_there)

gap_few : (l : List Entry) → Numbered l → (place i n : ℕ) → filter (is_at place i) l ≡ [] → i < n → suc (length (filter (is_low place n) l)) ≤ n
gap_few l numbered place i zero none k = absurd (omega (arith, k))
gap_few l numbered place i (suc n) none k = gap_case l numbered place i n none (gap_few l numbered place i n none) (lt_or_eq i n k)

pub greatest_below : (c : ℕ) (xs : List ℕ) → ((n : ℕ) → In n xs → n ≤ c) → greatest xs ≤ c
greatest_below c [] all = omega arith
greatest_below c (x ∷ xs) all = let a = all x (here refl) in let b = greatest_below c xs (λ n i. all n (there i)) in omega (arith, a, b)

module _ (l : List Entry) (numbered : Numbered l) (counted : (e : Entry) → In e l → e.number < count_by (λ (f : Entry). f.place == e.place) l) where
  -- at a place there are at least as many entries as its front says
  front_counted : (place : ℕ) → front l place ≤ count_by (λ (f : Entry). f.place == place) l
  front_counted place =
      greatest_below _ _ (λ n i.
      let m = mapped (λ (f : Entry). f.number + 1) (filter (λ (f : Entry). f.place == place) l) i in
      let f = filtered (λ (f : Entry). f.place == place) l m.is_in in
      let low : m.from.number < count_by (λ (g : Entry). g.place == place) l
      = subst (λ (p : ℕ). m.from.number < count_by (λ (g : Entry). g.place == p) l) (equal_if m.from.place place f.1) (counted m.from f.0) in
      let q = m.makes in
      omega (arith, low, q))

  -- all of them have lower numbers than that
  all_low : (place : ℕ) → length (filter (is_low place (count_by (λ (f : Entry). f.place == place) l)) l) ≡ count_by (λ (f : Entry). f.place == place) l
  all_low place =
      ap length (filter_alike (is_low place (count_by (λ (f : Entry). f.place == place) l)) (λ (f : Entry). f.place == place) l (λ e i. same e i (e.place == place) refl))
      ∙ length-filter (λ (f : Entry). f.place == place) l
    where
      same : (e : Entry) → In e l → (t : Bool) → (e.place == place) ≡ t → is_low place (count_by (λ (f : Entry). f.place == place) l) e ≡ (e.place == place)
      same e i true q =
          let low : e.number < count_by (λ (g : Entry). g.place == place) l
          = subst (λ (p : ℕ). e.number < count_by (λ (g : Entry). g.place == p) l) (equal_if e.place place q) (counted e i) in
          and_true (e.place == place) (nat_lt e.number (count_by (λ (f : Entry). f.place == place) l)) q (is_less e.number _ low) ∙ sym q
      same e i false q = ap (λ (t : Bool). t && nat_lt e.number (count_by (λ (f : Entry). f.place == place) l)) q ∙ sym q

  pub stands_below : (place i : ℕ) → i < front l place → Stands l place i
  stands_below place i low = by_step (step l numbered place i)
    where
      by_step : Step l place i → Stands l place i
      by_step (single e j p m q) = record { entry = e; is_in = j; at = p; number_is = m }
      by_step (nothing q) =
          let c = count_by (λ (f : Entry). f.place == place) l in
          let most = front_counted place in
          let few = gap_few l numbered place i c q (omega (arith, low, most)) in
          let all = all_low place in
          absurd (omega (arith, few, all))
