-- The first of two, by a number.
use Rattle.std.proofs.Common.{ℕ, ◌≤◌, ltb, cond, Option, Some, None, sym, ap, subst, arith, inl, inr, ◌⊎◌}
use Rattle.std.proofs.lemmas.Bool.{cases_lt, lt-ltb, le-ltb}

-- one of them, and the one with the lowest number; none, where there is none
abbrev pub IsFirst : {X : Type 0} → (X → ℕ) → (X → Type 0) → Option X → Type 0
IsFirst {X} key F None = (x : X) → F x → ⊥
IsFirst {X} key F (Some f) = F f × ((x : X) → F x → key f ≤ key x)

abbrev pub pick : {X : Type 0} → (X → ℕ) → Option X → Option X → Option X
pick key None second = second
pick key (Some first) None = Some first
pick key (Some first) (Some second) = cond (ltb (key second) (key first)) (Some second) (Some first)

pub same_first : {X : Type 0} (key : X → ℕ) (F G : X → Type 0) → ((x : X) → F x → G x) → ((x : X) → G x → F x) → (o : Option X) → IsFirst key F o → IsFirst key G o
same_first key F G to from None h = λ x g. h x (from x g)
same_first key F G to from (Some f) h = (to f h.0, λ x g. h.1 x (from x g))

pub first_of_both : {X : Type 0} (key : X → ℕ) (F G : X → Type 0) (a b : Option X) → IsFirst key F a → IsFirst key G b → IsFirst key (λ x. F x ⊎ G x) (pick key a b)
first_of_both key F G None b ha hb = same_first key G (λ x. F x ⊎ G x) (λ x g. inr g) (λ x either. elim either [ inl f ↦ absurd (ha x f) | inr g ↦ g ]) b hb
first_of_both key F G (Some f) None ha hb =
    same_first key F (λ x. F x ⊎ G x) (λ x h. inl h) (λ x either. elim either [ inl h ↦ h | inr g ↦ absurd (hb x g) ]) (Some f) ha
first_of_both key F G (Some f) (Some g) ha hb = elim (cases_lt (key g) (key f)) [
  | inl less ↦ subst (IsFirst key (λ x. F x ⊎ G x)) (sym (ap (λ t. cond t (Some g) (Some f)) (lt-ltb (key g) (key f) less))) (
    inr hb.0,
    λ x either. elim either [
      | inl h ↦ let least = ha.1 x h in omega arith
      | inr h ↦ hb.1 x h
    ],
  )
  | inr least ↦ subst (IsFirst key (λ x. F x ⊎ G x)) (sym (ap (λ t. cond t (Some g) (Some f)) (le-ltb (key g) (key f) least))) (
    inl ha.0,
    λ x either. elim either [
      | inl h ↦ ha.1 x h
      | inr h ↦ let lowest = hb.1 x h in omega arith
    ],
  )
]
