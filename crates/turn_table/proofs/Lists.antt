-- Sums over lists, elements of lists, and a function changed at one number.
use Rattle.std.proofs.Common.{◌≡◌, ◌≢◌, ◌⊎◌, ℕ, zero, suc, ◌+◌, ◌<◌, ◌≤◌, Bool, true, false, cond, max, eqb, ◌&&◌, List, [], ◌∷◌, ◌++◌, length, set, Some, None, slice_get, sym, refl, ap, subst, inl, inr, ⊎_elim, arith, eq-eqb, ne_eqb, eq-zero-or-pos}
use Rattle.std.proofs.lemmas.Bool.Decides.{nat_tests, eqb_tells}
use mathlib.Core.Option.{some, some-injective, some-ne-none}
use mathlib.Core.Logic.{dite}
use native.Mathlib.Decide.{ℕ_discrete}
use lib.ListN.{get_elem?}
use Rattle.turn_table.specs.declared.machine.Entry.{Entry}
use Rattle.turn_table.specs.declared.view.Phase.{Phase}
use Rattle.turn_table.specs.declared.view.Phase.TheVariants.{Nothing, Marked, Out, Held, Counted}
use Rattle.turn_table.specs.Histories.{IsMemberOf, here, there, total, one_if, below, seen_at, phase_at, is_entry_at, times}

module _ {V : Type 0} (f : V → ℕ) where
  pub total_append : (vs ws : List V) → total f (vs ++ ws) ≡ total f vs + total f ws
  total_append [] ws = omega arith
  total_append (v ∷ vs) ws = let e = total_append vs ws in omega arith

  pub total_set : (vs : List V) (i : ℕ) (a b : V) → get_elem? vs i ≡ some a → total f (set vs i b) + f a ≡ total f vs + f b
  total_set [] i a b at = absurd (some-ne-none a (sym at))
  total_set (v ∷ vs) zero a b at = let e : f v ≡ f a = ap f (some-injective v a at) in omega arith
  total_set (v ∷ vs) (suc i) a b at = let e = total_set vs i a b at in omega arith

  pub total_one : (vs : List V) (i : ℕ) (a : V) → get_elem? vs i ≡ some a → f a ≤ total f vs
  total_one [] i a at = absurd (some-ne-none a (sym at))
  total_one (v ∷ vs) zero a at = let e : f v ≡ f a = ap f (some-injective v a at) in omega arith
  total_one (v ∷ vs) (suc i) a at = let e = total_one vs i a at in omega arith

  pub total_two : (vs : List V) (i j : ℕ) (a b : V) → i ≢ j → get_elem? vs i ≡ some a → get_elem? vs j ≡ some b → f a + f b ≤ total f vs
  total_two [] i j a b ne at at' = absurd (some-ne-none a (sym at))
  total_two (v ∷ vs) zero zero a b ne at at' = absurd (ne refl)
  total_two (v ∷ vs) zero (suc j) a b ne at at' = let e : f v ≡ f a = ap f (some-injective v a at) in let h = total_one vs j b at' in omega arith
  total_two (v ∷ vs) (suc i) zero a b ne at at' = let e : f v ≡ f b = ap f (some-injective v b at') in let h = total_one vs i a at in omega arith
  total_two (v ∷ vs) (suc i) (suc j) a b ne at at' = let e = total_two vs i j a b (λ h. ne (ap suc h)) at at' in omega arith

  pub total_some : (vs : List V) → 0 < total f vs → (i : ℕ) × (a : V) × (get_elem? vs i ≡ some a) × (0 < f a)
  total_some [] h = absurd (omega arith)
  total_some (v ∷ vs) h = ⊎_elim (λ z. let r = total_some vs (omega arith) in (suc r.0, r.1, r.2, r.3)) (λ p. (zero, v, refl, p)) (eq-zero-or-pos (f v))

module _ {A : Type 0} where
  pub in_left : {x : A} {xs : List A} (ys : List A) → IsMemberOf x xs → IsMemberOf x (xs ++ ys)
  in_left ys (here e) = here e
  in_left ys (there h) = there (in_left ys h)

  pub in_right : {x : A} (xs : List A) {ys : List A} → IsMemberOf x ys → IsMemberOf x (xs ++ ys)
  in_right [] h = h
  in_right (z ∷ zs) h = there (in_right zs h)

  pub in_split : {x : A} (xs : List A) {ys : List A} → IsMemberOf x (xs ++ ys) → IsMemberOf x xs ⊎ IsMemberOf x ys
  in_split [] h = inr h
  in_split (z ∷ zs) (here e) = inl (here e)
  in_split (z ∷ zs) (there h) = ⊎_elim (λ l. inl (there l)) (λ r. inr r) (in_split zs h)

  pub in_one : {x y : A} → IsMemberOf x (y ∷ []) → x ≡ y
  in_one (here e) = e
  in_one (there h) = elim h [ ]

  pub get_in : (xs : List A) (i : ℕ) (x : A) → slice_get xs i ≡ Some x → IsMemberOf x xs
  get_in [] i x e = absurd (let n : None ≡ Some x = e in cc)
  get_in (y ∷ ys) zero x e = here (let p : Some y ≡ Some x = e in cc)
  get_in (y ∷ ys) (suc i) x e = there (get_in ys i x e)

  pub in_get : (xs : List A) (x : A) → IsMemberOf x xs → (i : ℕ) × (slice_get xs i ≡ Some x)
  in_get [] x h = elim h [ ]
  in_get (y ∷ ys) x (here e) = (zero, ap (λ (z : A). Some z) (sym e))
  in_get (y ∷ ys) x (there h) = let r = in_get ys x h in (suc r.0, r.1)

  pub get_longer : (xs ys : List A) (i : ℕ) (x : A) → slice_get xs i ≡ Some x → slice_get (xs ++ ys) i ≡ Some x
  get_longer [] ys i x e = absurd (let n : None ≡ Some x = e in cc)
  get_longer (z ∷ zs) ys zero x e = e
  get_longer (z ∷ zs) ys (suc i) x e = get_longer zs ys i x e

  pub get_last : (xs : List A) (x : A) → slice_get (xs ++ x ∷ []) (length xs) ≡ Some x
  get_last [] x = refl
  get_last (z ∷ zs) x = get_last zs x

  pub get_snoc : (xs : List A) (y : A) (i : ℕ) (x : A) → slice_get (xs ++ y ∷ []) i ≡ Some x → (slice_get xs i ≡ Some x) ⊎ ((i ≡ length xs) × (y ≡ x))
  get_snoc [] y zero x e = inr (refl, let p : Some y ≡ Some x = e in cc)
  get_snoc [] y (suc i) x e = absurd (let n : None ≡ Some x = e in cc)
  get_snoc (z ∷ zs) y zero x e = inl e
  get_snoc (z ∷ zs) y (suc i) x e = ⊎_elim (λ l. inl l) (λ r. inr (ap suc r.0, r.1)) (get_snoc zs y i x e)

  pub get_there : (xs : List A) (i : ℕ) → i < length xs → (x : A) × (slice_get xs i ≡ Some x)
  get_there [] i h = absurd (omega arith)
  get_there (x ∷ xs) zero h = (x, refl)
  get_there (x ∷ xs) (suc i) h = get_there xs i (omega arith)

  -- f, but a at k
  pub put : (ℕ → A) → ℕ → A → ℕ → A
  put f k a j = cond (eqb j k) a (f j)

  pub put_here : (f : ℕ → A) (k : ℕ) (a : A) → put f k a k ≡ a
  unfolding put
  put_here f k a = ap (λ b. cond b a (f k)) (eq-eqb k k refl)

  pub put_else : (f : ℕ → A) (k : ℕ) (a : A) (j : ℕ) → j ≢ k → put f k a j ≡ f j
  unfolding put
  put_else f k a j ne = ap (λ b. cond b a (f j)) (ne_eqb j k ne)

  -- what holds of a at k, and of f elsewhere, holds of the changed function
  pub put_all : (P : ℕ → A → Type 0) (f : ℕ → A) (k : ℕ) (a : A) (j : ℕ) → P k a → (j ≢ k → P j (f j)) → P j (put f k a j)
  put_all P f k a j at other = dite (ℕ_discrete j k)
      (λ e. subst (λ i. P i (put f k a i)) (sym e) (subst (P k) (sym (put_here f k a)) at))
      (λ ne. subst (P j) (sym (put_else f k a j ne)) (other ne))

pub seen_here : (ns : List (ℕ × ℕ)) (k n : ℕ) → seen_at ((k, n) ∷ ns) k ≡ max n (seen_at ns k)
seen_here ns k n = ap (λ b. cond b (max n (seen_at ns k)) (seen_at ns k)) (eq-eqb k k refl)

pub seen_else : (ns : List (ℕ × ℕ)) (k n j : ℕ) → j ≢ k → seen_at ((k, n) ∷ ns) j ≡ seen_at ns j
seen_else ns k n j ne = ap (λ b. cond b (max n (seen_at ns j)) (seen_at ns j)) (ne_eqb k j (λ e. ne (sym e)))

pub seen_append : (ns ms : List (ℕ × ℕ)) (k : ℕ) → seen_at (ns ++ ms) k ≡ max (seen_at ns k) (seen_at ms k)
seen_append [] ms k = omega arith
seen_append (n ∷ ns) ms k = go (eqb n.0 k) (seen_append ns ms k)
  where
    go : (b : Bool) → seen_at (ns ++ ms) k ≡ max (seen_at ns k) (seen_at ms k)
        → cond b (max n.1 (seen_at (ns ++ ms) k)) (seen_at (ns ++ ms) k) ≡ max (cond b (max n.1 (seen_at ns k)) (seen_at ns k)) (seen_at ms k)
    go true e = omega arith
    go false e = e

module _ {S : Type 0} where
  pub phase_here : (ts : List (ℕ × Phase S)) (k : ℕ) (p : Phase S) → phase_at ((k, p) ∷ ts) k ≡ p
  phase_here ts k p = ap (λ b. cond b p (phase_at ts k)) (eq-eqb k k refl)

  pub phase_else : (ts : List (ℕ × Phase S)) (k : ℕ) (p : Phase S) (j : ℕ) → j ≢ k → phase_at ((k, p) ∷ ts) j ≡ phase_at ts j
  phase_else ts k p j ne = ap (λ b. cond b p (phase_at ts j)) (ne_eqb k j (λ e. ne (sym e)))

  pub nothing_or : (p : Phase S) → (p ≡ Nothing) ⊎ (p ≢ Nothing)
  nothing_or Nothing = inl refl
  nothing_or (Marked x) = inr (λ e. absurd cc)
  nothing_or (Out n x) = inr (λ e. absurd cc)
  nothing_or (Held n x) = inr (λ e. absurd cc)
  nothing_or (Counted x) = inr (λ e. absurd cc)

module _ {E O : Type 0} where
  pub at_here : (k i : ℕ) (e : Entry E O) → e.place ≡ k → e.number ≡ i → one_if (is_entry_at k i e) ≡ 1
  at_here k i e p n = (λ j. one_if (eq-eqb e.place k p j && eq-eqb e.number i n j))

  pub at_place : (k i : ℕ) (e : Entry E O) → e.place ≢ k → one_if (is_entry_at k i e) ≡ 0
  at_place k i e ne = ap (λ b. one_if (b && eqb e.number i)) (ne_eqb e.place k ne)

  pub at_number : (k i : ℕ) (e : Entry E O) → e.place ≡ k → e.number ≢ i → one_if (is_entry_at k i e) ≡ 0
  at_number k i e p ne = (λ j. one_if (eq-eqb e.place k p j && ne_eqb e.number i ne j))

  pub times_in : (k i : ℕ) (es : List (Entry E O)) → 0 < times k i es → (e : Entry E O) × IsMemberOf e es × (e.place ≡ k) × (e.number ≡ i)
  times_in k i [] h = absurd (omega arith)
  times_in k i (e ∷ es) h = ⊎_elim
      (λ (p : (eqb e.place k ≡ true) × (e.place ≡ k)). ⊎_elim
      (λ (n : (eqb e.number i ≡ true) × (e.number ≡ i)). (e, here refl, p.1, n.1))
      (λ (n : (eqb e.number i ≡ false) × (e.number ≢ i)). let z = at_number k i e p.1 n.1 in more (times_in k i es (omega arith)))
      (eqb_tells e.number i))
      (λ (p : (eqb e.place k ≡ false) × (e.place ≢ k)). let z = at_place k i e p.1 in more (times_in k i es (omega arith)))
      (eqb_tells e.place k)
    where
      more : (r : Entry E O) × IsMemberOf r es × (r.place ≡ k) × (r.number ≡ i) → (r : Entry E O) × IsMemberOf r (e ∷ es) × (r.place ≡ k) × (r.number ≡ i)
      more r = (r.0, there r.1, r.2, r.3)

pub below_in : (i n : ℕ) → i < n → below i n ≡ 1
below_in i n h = grind (arith, nat_tests)

pub below_out : (i n : ℕ) → n ≤ i → below i n ≡ 0
below_out i n h = grind (arith, nat_tests)

pub within : {A : Type 0} (l : List A) (i : ℕ) (a : A) → get_elem? l i ≡ some a → i < length l
within [] i a e = absurd (some-ne-none a (sym e))
within (x ∷ xs) zero a e = omega arith
within (x ∷ xs) (suc i) a e = let h = within xs i a e in omega arith

module _ {V : Type 0} (f : V → ℕ) where
  pub total_zero : (vs : List V) → ((j : ℕ) (u : V) → get_elem? vs j ≡ some u → f u ≡ 0) → total f vs ≡ 0
  total_zero [] none_of = refl
  total_zero (v ∷ vs) none_of = let a = none_of 0 v refl in let b = total_zero vs (λ j u at. none_of (suc j) u at) in omega arith

  -- the sum where all but one add nothing
  pub total_alone : (vs : List V) (i : ℕ) (v : V) → get_elem? vs i ≡ some v → ((j : ℕ) (u : V) → j ≢ i → get_elem? vs j ≡ some u → f u ≡ 0) → total f vs ≡ f v
  total_alone [] i v at none_of = absurd (some-ne-none v (sym at))
  total_alone (x ∷ xs) zero v at none_of = let e : f x ≡ f v = ap f (some-injective x v at) in let z = total_zero xs (λ j u at'. none_of (suc j) u (λ e. omega arith) at') in omega arith
  total_alone (x ∷ xs) (suc i) v at none_of = let e = total_alone xs i v at (λ j u ne at'. none_of (suc j) u (λ e. ne (omega arith)) at') in let z = none_of 0 x (λ e. omega arith) refl in omega arith

module _ {A : Type 0} where
  pub at_end : (l : List A) (a b : A) (j : ℕ) → get_elem? (l ++ a ∷ []) j ≡ some b → (get_elem? l j ≡ some b) ⊎ ((j ≡ length l) × (a ≡ b))
  at_end [] a b zero e = inr (refl, some-injective a b e)
  at_end [] a b (suc j) e = absurd (some-ne-none b (sym e))
  at_end (x ∷ xs) a b zero e = inl e
  at_end (x ∷ xs) a b (suc j) e = ⊎_elim (λ l. inl l) (λ r. inr (ap suc r.0, r.1)) (at_end xs a b j e)
