-- Elements that are put one after the other before the first that is greater stand in their order.
use Rattle.std.proofs.Common.{◌≡◌, zero, suc, ◌+◌, Bool, true, false, cond, not, ◌&&◌, List, [], ◌∷◌, ◌++◌, get_or, refl, sym, ap, ◌∙◌, subst, arith, append-nil, append_assoc}
use Rattle.std.specs.Cmp.{IsStrictWeakOrder}
use Rattle.std.specs.List.{filter}
use Rattle.std.specs.List.Sorted.{IsPermutation, IsSortedBy, IsStableBy, ties}
use Rattle.std.proofs.lemmas.List.Elements.{filter-append}
use Rattle.std.proofs.lemmas.List.Sorted.{IsPermutation-refl, IsPermutation-cons, IsPermutation-to_front, IsPermutation-trans, IsPermutation-swap}

-- the elements with one more, before the first that it is less than
abbrev pub put : {X : Type 0} → (X → X → Bool) → X → List X → List X
put lt m [] = m ∷ []
put lt m (x ∷ xs) = cond (lt m x) (m ∷ x ∷ xs) (x ∷ put lt m xs)

-- these, put one after the other
abbrev pub put_all : {X : Type 0} → (X → X → Bool) → List X → List X → List X
put_all lt [] found = found
put_all lt (m ∷ ms) found = put_all lt ms (put lt m found)

abbrev NoneBelow : {X : Type 0} → (X → X → Bool) → X → List X → Type 0
NoneBelow lt m [] = Unit {0}
NoneBelow lt m (x ∷ xs) = (lt x m ≡ false) × NoneBelow lt m xs

abbrev Ordered : {X : Type 0} → (X → X → Bool) → List X → Type 0
Ordered lt [] = Unit {0}
Ordered lt (x ∷ xs) = NoneBelow lt x xs × Ordered lt xs

pub sorted : {X : Type 0} (lt : X → X → Bool) (xs : List X) → Ordered lt xs → IsSortedBy lt xs
sorted lt [] h k d low high = absurd (omega arith)
sorted lt (x ∷ []) h k d low high = absurd (omega arith)
sorted lt (x ∷ y ∷ xs) h zero d low high = h.0.0
sorted lt (x ∷ y ∷ xs) h (suc k) d low high =
    let at : suc k + 1 ≡ suc (k + 1) = omega arith in
    subst (λ n. lt (get_or (x ∷ y ∷ xs) n d) (get_or (y ∷ xs) k d) ≡ false) (sym at) (sorted lt (y ∷ xs) h.1 k d (omega arith) (omega arith))

permuted : {X : Type 0} (lt : X → X → Bool) (m : X) (xs : List X) → IsPermutation (m ∷ xs) (put lt m xs)
permuted lt m [] = IsPermutation-refl (m ∷ [])
permuted lt m (x ∷ xs) = by (permuted lt m xs) (lt m x)
  where
    by : IsPermutation (m ∷ xs) (put lt m xs) → (b : Bool) → IsPermutation (m ∷ x ∷ xs) (cond b (m ∷ x ∷ xs) (x ∷ put lt m xs))
    by more true = IsPermutation-refl (m ∷ x ∷ xs)
    by more false =
        IsPermutation-trans (m ∷ x ∷ xs) (x ∷ m ∷ xs) (x ∷ put lt m xs) (IsPermutation-swap (m ∷ x ∷ xs) (x ∷ m ∷ xs) 0 1 (omega arith) (omega arith) refl)
        (IsPermutation-cons x (m ∷ xs) (put lt m xs) more)

differ : (b : Bool) → b ≡ true → b ≡ false → ⊥
differ true e f = cc
differ false e f = cc

no_tie : (a b : Bool) → (a ≡ false → ⊥) → (not a && not b) ≡ false
no_tie true b h = refl
no_tie false b h = absurd (h refl)

module _ {X : Type 0} (lt : X → X → Bool) (ranks : IsStrictWeakOrder lt) where
  none_below_chain : (y m : X) → lt y m ≡ false → (xs : List X) → NoneBelow lt y xs → NoneBelow lt m xs
  none_below_chain y m far [] h = tt
  none_below_chain y m far (x ∷ xs) h = (ranks.chain x y m h.0 far, none_below_chain y m far xs h.1)

  none_below_put : (x m : X) → lt m x ≡ false → (xs : List X) → NoneBelow lt x xs → NoneBelow lt x (put lt m xs)
  none_below_put x m far [] h = (far, tt)
  none_below_put x m far (y ∷ xs) h = by (none_below_put x m far xs h.1) (lt m y)
    where
      by : NoneBelow lt x (put lt m xs) → (b : Bool) → NoneBelow lt x (cond b (m ∷ y ∷ xs) (y ∷ put lt m xs))
      by more true = (far, h)
      by more false = (h.0, more)

  ordered_put : (m : X) (xs : List X) → Ordered lt xs → Ordered lt (put lt m xs)
  ordered_put m [] h = (tt, tt)
  ordered_put m (x ∷ xs) h = by (ordered_put m xs h.1) (lt m x) refl
    where
      by : Ordered lt (put lt m xs) → (b : Bool) → lt m x ≡ b → Ordered lt (cond b (m ∷ x ∷ xs) (x ∷ put lt m xs))
      by more true less = let far = ranks.one_way m x less in ((far, none_below_chain x m far xs h.0), h)
      by more false far = (none_below_put x m far xs h.0, more)

  -- where m is less than y, what isn't less than y ties with nothing that m is not less than
  none_ties : (m x y : X) → lt m x ≡ false → lt m y ≡ true → (zs : List X) → NoneBelow lt y zs → filter (ties lt x) zs ≡ []
  none_ties m x y near less [] h = refl
  none_ties m x y near less (z ∷ zs) h =
      let other : (lt x z ≡ false → ⊥) = λ e. differ (lt m y) less (ranks.chain m z y (ranks.chain m x z near e) h.0) in
      rw (no_tie (lt x z) (lt z x) other) (none_ties m x y near less zs h.1)

  stable_put : (x m : X) (xs : List X) → Ordered lt xs → filter (ties lt x) (put lt m xs) ≡ filter (ties lt x) (xs ++ m ∷ [])
  stable_put x m [] h = refl
  stable_put x m (y ∷ xs) h = by (stable_put x m xs h.1) (lt m y) refl
    where
      itself : (b : Bool) → lt y y ≡ b → lt y y ≡ false
      itself true e = ranks.one_way y y e
      itself false e = e

      front : lt m y ≡ true → (a b : Bool) → lt x m ≡ a → lt m x ≡ b → cond (not a && not b) (m ∷ filter (ties lt x) (y ∷ xs)) (filter (ties lt x) (y ∷ xs)) ≡ filter (ties lt x) (y ∷ xs) ++ cond (not a && not b) (m ∷ []) []
      front less true b ea eb = sym (append-nil (filter (ties lt x) (y ∷ xs)))
      front less false true ea eb = sym (append-nil (filter (ties lt x) (y ∷ xs)))
      front less false false ea eb =
          let none : filter (ties lt x) (y ∷ xs) ≡ [] = none_ties m x y eb less (y ∷ xs) (itself (lt y y) refl, h.0) in
          ap (λ l. m ∷ l) none ∙ sym (ap (λ l. l ++ m ∷ []) none)

      by : filter (ties lt x) (put lt m xs) ≡ filter (ties lt x) (xs ++ m ∷ []) → (b : Bool) → lt m y ≡ b → filter (ties lt x) (cond b (m ∷ y ∷ xs) (y ∷ put lt m xs)) ≡ filter (ties lt x) ((y ∷ xs) ++ m ∷ [])
      by more true less = front less (lt x m) (lt m x) refl refl ∙ sym (filter-append (ties lt x) (y ∷ xs) (m ∷ []))
      by more false far = ap (λ l. cond (ties lt x y) (y ∷ l) l) more

  -- the elements, and these in their order
  pub record Sorts (ms found : List X) : Type 0 where
    pub ordered : Ordered lt found
    pub same : IsPermutation ms found
    pub stable : IsStableBy lt ms found

  one_more : (m : X) (ms found : List X) → Sorts ms found → Sorts (ms ++ m ∷ []) (put lt m found)
  one_more m ms found h = record {
    ordered = ordered_put m found h.ordered;
    same = IsPermutation-trans (ms ++ m ∷ []) (m ∷ ms) (put lt m found) (IsPermutation-to_front ms m)
        (IsPermutation-trans (m ∷ ms) (m ∷ found) (put lt m found) (IsPermutation-cons m ms found h.same) (permuted lt m found));
    stable = λ x. stable_put x m found h.ordered ∙ filter-append (ties lt x) found (m ∷ []) ∙ ap (λ l. l ++ filter (ties lt x) (m ∷ [])) (h.stable x) ∙ sym (filter-append (ties lt x) ms (m ∷ []));
  }

  pub all_sorted : (ms front found : List X) → Sorts front found → Sorts (front ++ ms) (put_all lt ms found)
  all_sorted [] front found h = subst (λ l. Sorts l found) (sym (append-nil front)) h
  all_sorted (m ∷ ms) front found h = subst (λ l. Sorts l (put_all lt ms (put lt m found))) (append_assoc front (m ∷ []) ms) (all_sorted ms (front ++ m ∷ []) (put lt m found) (one_more m front found h))

  pub none_sorted : Sorts [] []
  none_sorted = record { ordered = tt; same = IsPermutation-refl []; stable = λ x. refl }
