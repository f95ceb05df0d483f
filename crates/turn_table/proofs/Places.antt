-- A list's own part of a place, and the places that a hand has.
use Rattle.std.proofs.Common.{◌≡◌, ◌≢◌, ℕ, suc, ◌<◌, Bool, true, false, cond, eqb, List, [], ◌∷◌, ◌++◌, length, Some, None, slice_get, sym, refl, ap, ◌∙◌, subst, ⊎_elim, arith, eq-eqb, ne_eqb}
use Rattle.std.proofs.lemmas.Bool.{eqb-true}
use Rattle.std.specs.List.{filter}
use mathlib.Core.Logic.{dite}
use native.Mathlib.Decide.{ℕ_discrete}
use Rattle.turn_table.specs.declared.machine.Entry.{Entry}
use Rattle.turn_table.specs.declared.view.Phase.{Phase}
use Rattle.turn_table.specs.declared.view.Phase.TheVariants.{Nothing}
use Rattle.turn_table.specs.Histories.{IsMemberOf, here, there, phase_at}
use Rattle.turn_table.specs.Places.{at_place, IsNumbered, OwnPartIsHistory}
use Rattle.turn_table.proofs.Lists.{get_in, in_get, get_snoc}

module _ {A : Type 0} (p : A → Bool) where
  pub in_filter : {x : A} (xs : List A) → IsMemberOf x xs → p x ≡ true → IsMemberOf x (filter p xs)
  in_filter {x} [] h t = elim h [ ]
  in_filter {x} (y ∷ ys) (here e) t = subst (λ b. IsMemberOf x (cond b (y ∷ filter p ys) (filter p ys))) (sym (ap p (sym e) ∙ t)) (here e)
  in_filter {x} (y ∷ ys) (there h) t = by (p y) (in_filter ys h t)
    where
      by : (b : Bool) → IsMemberOf x (filter p ys) → IsMemberOf x (cond b (y ∷ filter p ys) (filter p ys))
      by true i = there i
      by false i = i

  pub filter_in : {x : A} (xs : List A) → IsMemberOf x (filter p xs) → IsMemberOf x xs × (p x ≡ true)
  filter_in {x} [] h = elim h [ ]
  filter_in {x} (y ∷ ys) h = by (filter_in ys) (p y) refl h
    where
      by : (IsMemberOf x (filter p ys) → IsMemberOf x ys × (p x ≡ true)) → (b : Bool) → p y ≡ b → IsMemberOf x (cond b (y ∷ filter p ys) (filter p ys)) → IsMemberOf x (y ∷ ys) × (p x ≡ true)
      by go true t (here e) = (here e, ap p e ∙ t)
      by go true t (there i) = let r = go i in (there r.0, r.1)
      by go false t i = let r = go i in (there r.0, r.1)

  pub filter_append : (xs ys : List A) → filter p (xs ++ ys) ≡ filter p xs ++ filter p ys
  filter_append [] ys = refl
  filter_append (x ∷ xs) ys = by (p x) (filter_append xs ys)
    where
      by : (b : Bool) → filter p (xs ++ ys) ≡ filter p xs ++ filter p ys → cond b (x ∷ filter p (xs ++ ys)) (filter p (xs ++ ys)) ≡ cond b (x ∷ filter p xs) (filter p xs) ++ filter p ys
      by true e = ap (λ l. x ∷ l) e
      by false e = e

same_lists : {A : Type 0} (xs ys : List A) → ((i : ℕ) (x : A) → slice_get xs i ≡ Some x → slice_get ys i ≡ Some x) → ((i : ℕ) (x : A) → slice_get ys i ≡ Some x → slice_get xs i ≡ Some x) → xs ≡ ys
same_lists [] [] f g = refl
same_lists [] (y ∷ ys) f g = absurd (let e : None ≡ Some y = g 0 y refl in cc)
same_lists (x ∷ xs) [] f g = absurd (let e : None ≡ Some x = f 0 x refl in cc)
same_lists (x ∷ xs) (y ∷ ys) f g = let e : Some y ≡ Some x = f 0 x refl in let p : x ≡ y = cc in λ i. p i ∷ same_lists xs ys (λ j z. f (suc j) z) (λ j z. g (suc j) z) i

module _ {E O : Type 0} where
  pub whole_history : OwnPartIsHistory E O
  whole_history k es h named own all numbered = same_lists h (at_place k es)
      (λ i e at. let n = named i e at in
      let g = in_get (at_place k es) e (in_filter (λ (f : Entry E O). eqb f.place k) es (all i e at) (eq-eqb e.place k n.0)) in
      let same : g.0 ≡ i = sym (numbered g.0 e g.1) ∙ n.1 in
      subst (λ j. slice_get (at_place k es) j ≡ Some e) same g.1)
      (λ i e at. let r = filter_in (λ (f : Entry E O). eqb f.place k) es (get_in (at_place k es) i e at) in
      subst (λ j. slice_get h j ≡ Some e) (numbered i e at) (own e r.0 (eqb-true e.place k r.1)))

  -- one more entry of another place, and of the place itself
  pub at_place-else : (k : ℕ) (es : List (Entry E O)) (e : Entry E O) → e.place ≢ k → at_place k (es ++ e ∷ []) ≡ at_place k es ++ []
  at_place-else k es e ne = filter_append (λ (f : Entry E O). eqb f.place k) es (e ∷ []) ∙ ap (λ b. at_place k es ++ cond b (e ∷ []) []) (ne_eqb e.place k ne)

  pub at_place-here : (k : ℕ) (es : List (Entry E O)) (e : Entry E O) → e.place ≡ k → at_place k (es ++ e ∷ []) ≡ at_place k es ++ e ∷ []
  at_place-here k es e is = filter_append (λ (f : Entry E O). eqb f.place k) es (e ∷ []) ∙ ap (λ b. at_place k es ++ cond b (e ∷ []) []) (eq-eqb e.place k is)

  pub numbered_more : (es : List (Entry E O)) (e : Entry E O) → IsNumbered es → e.number ≡ length es → IsNumbered (es ++ e ∷ [])
  numbered_more es e numbered n i f at = ⊎_elim (λ old. numbered i f old) (λ (new : (i ≡ length es) × (e ≡ f)). sym (ap (λ (z : Entry E O). z.number) new.1) ∙ (n ∙ sym new.0)) (get_snoc es e i f at)

module _ {S : Type 0} (ts ts' : List (ℕ × Phase S)) where
  -- with the turn of the place k, a hand may take that of a place above it
  pub may_next : (k j : ℕ) → k < j → ((i : ℕ) → phase_at ts i ≢ Nothing → i < k) → ((i : ℕ) → i ≢ k → phase_at ts' i ≡ phase_at ts i) → (i : ℕ) → phase_at ts' i ≢ Nothing → i < j
  may_next k j above may same i has = dite (ℕ_discrete i k) (λ e. omega arith) (λ ne. let h = may i (λ e. has (same i ne ∙ e)) in omega arith)

  -- a turn that was taken and put leaves the hand's turns as they were
  pub cleared : (us : List (ℕ × Phase S)) (k : ℕ) → phase_at ts k ≡ Nothing → ((i : ℕ) → i ≢ k → phase_at ts' i ≡ phase_at ts i) → ((i : ℕ) → i ≢ k → phase_at us i ≡ phase_at ts' i) → phase_at us k ≡ Nothing
      → (i : ℕ) → phase_at us i ≡ phase_at ts i
  cleared us k before taken put after i = dite (ℕ_discrete i k)
      (λ e. ap (phase_at us) e ∙ (after ∙ (sym before ∙ ap (phase_at ts) (sym e))))
      (λ ne. put i ne ∙ taken i ne)
