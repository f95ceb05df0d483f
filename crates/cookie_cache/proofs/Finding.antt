-- The first element of a list that passes a test, where the test decides a fact.
use Rattle.std.proofs.Common.{◌≡◌, List, [], ◌∷◌, ◌++◌, Bool, true, false, cond, Option, Some, None, refl, ap, subst, find}
use Rattle.std.specs.List.{AllByRecursion}

-- x is the first element of xs of which P holds
pub record IsFirst {X : Type 0} (P : X → Type 0) (xs : List X) (x : X) : Type 0 where
  pub before : List X
  pub after : List X
  pub parts : xs ≡ before ++ x ∷ after
  pub holds : P x
  pub none_before : AllByRecursion (λ y. P y → ⊥) before

-- the test says whether P holds
pub record IsDecidedBy {X : Type 0} (P : X → Type 0) (test : X → Bool) : Type 0 where
  pub yes : (x : X) → test x ≡ true → P x
  pub no : (x : X) → P x → test x ≡ true

fails : {X : Type 0} (P : X → Type 0) (test : X → Bool) → IsDecidedBy P test → (x : X) → test x ≡ false → P x → ⊥
fails P test decided x e h = let t = decided.no x h in cc

module _ {X : Type 0} (P : X → Type 0) (test : X → Bool) (decided : IsDecidedBy P test) where
  first_by : (y : X) (ys : List X) (x : X) → (find test ys ≡ Some x → IsFirst P ys x)
      → (b : Bool) → test y ≡ b → cond b (Some y) (find test ys) ≡ Some x → IsFirst P (y ∷ ys) x
  first_by y ys x later true e h =
      let same : y ≡ x = cc in
      record { before = []; after = ys; parts = ap (λ z. z ∷ ys) same; holds = subst P same (decided.yes y e); none_before = tt }
  first_by y ys x later false e h =
      let rest = later h in
      record { before = y ∷ rest.before; after = rest.after; parts = ap (λ zs. y ∷ zs) rest.parts; holds = rest.holds; none_before = (fails P test decided y e, rest.none_before) }

  pub first_from_find : (xs : List X) (x : X) → find test xs ≡ Some x → IsFirst P xs x
  first_from_find [] x h = cc
  first_from_find (y ∷ ys) x h = first_by y ys x (first_from_find ys x) (test y) refl h

  -- an element of which P does not hold is passed over
  passed_over : (y : X) (ys : List X) (r : Option X) → (P y → ⊥) → find test ys ≡ r
      → (b : Bool) → test y ≡ b → cond b (Some y) (find test ys) ≡ r
  passed_over y ys r never h true e = absurd (never (decided.yes y e))
  passed_over y ys r never h false e = h

  found_behind : (before after : List X) (x : X) → P x → AllByRecursion (λ y. P y → ⊥) before → find test (before ++ x ∷ after) ≡ Some x
  found_behind [] after x holds none = rw (decided.no x holds) refl
  found_behind (y ∷ ys) after x holds none =
      passed_over y (ys ++ x ∷ after) (Some x) none.0 (found_behind ys after x holds none.1) (test y) refl

  pub find_from_first : (xs : List X) (x : X) → IsFirst P xs x → find test xs ≡ Some x
  find_from_first xs x first = rw first.parts (found_behind first.before first.after x first.holds first.none_before)

  none_by : (y : X) (ys : List X) → (find test ys ≡ None → AllByRecursion (λ z. P z → ⊥) ys)
      → (b : Bool) → test y ≡ b → cond b (Some y) (find test ys) ≡ None → AllByRecursion (λ z. P z → ⊥) (y ∷ ys)
  none_by y ys later true e h = cc
  none_by y ys later false e h = (fails P test decided y e, later h)

  pub none_from_find : (xs : List X) → find test xs ≡ None → AllByRecursion (λ y. P y → ⊥) xs
  none_from_find [] h = tt
  none_from_find (y ∷ ys) h = none_by y ys (none_from_find ys) (test y) refl h

  pub find_from_none : (xs : List X) → AllByRecursion (λ y. P y → ⊥) xs → find test xs ≡ None
  find_from_none [] h = refl
  find_from_none (y ∷ ys) h = passed_over y ys None h.0 (find_from_none ys h.1) (test y) refl
