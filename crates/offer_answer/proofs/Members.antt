-- What is found in a list, a filter or a sum of lists is an element of it.
use Rattle.std.proofs.Common.{◌≡◌, Bool, true, false, cond, List, [], ◌∷◌, ◌++◌, Some, ◌⊎◌, inl, inr, refl, find, filter}
use Rattle.histories.specs.Words.{In, here, there}

pub in-left : {X : Type 0} {x : X} {xs : List X} (ys : List X) → In x xs → In x (xs ++ ys)
in-left ys (here same) = here same
in-left ys (there i) = there (in-left ys i)

pub in-right : {X : Type 0} {x : X} {ys : List X} (xs : List X) → In x ys → In x (xs ++ ys)
in-right [] i = i
in-right (x ∷ xs) i = there (in-right xs i)

pub in-append : {X : Type 0} {x : X} (xs ys : List X) → In x (xs ++ ys) → In x xs ⊎ In x ys
in-append [] ys i = inr i
in-append (x ∷ xs) ys (here same) = inl (here same)
in-append (x ∷ xs) ys (there i) = elim (in-append xs ys i) [ inl j ↦ inl (there j) | inr j ↦ inr j ]

-- an element that passes
pub record Passes {X : Type 0} (test : X → Bool) (xs : List X) (x : X) : Type 0 where
  pub is_in : In x xs
  pub passes : test x ≡ true

passes-later : {X : Type 0} {test : X → Bool} {xs : List X} {x : X} (y : X) → Passes test xs x → Passes test (y ∷ xs) x
passes-later y p = record { is_in = there p.is_in; passes = p.passes }

pub found : {X : Type 0} (test : X → Bool) (xs : List X) (x : X) → find test xs ≡ Some x → Passes test xs x
found test [] x e = cc
found {X} test (y ∷ ys) x e = go (test y) refl (found test ys x) e
  where
    go : (b : Bool) → test y ≡ b → (find test ys ≡ Some x → Passes test ys x) → cond b (Some y) (find test ys) ≡ Some x → Passes test (y ∷ ys) x
    go true t more e = let same : x ≡ y = cc in record { is_in = here same; passes = cc }
    go false t more e = passes-later y (more e)

pub kept : {X : Type 0} (test : X → Bool) (xs : List X) (x : X) → In x (filter test xs) → Passes test xs x
kept test [] x i = elim i [ ]
kept {X} test (y ∷ ys) x i = go (test y) refl (kept test ys x) i
  where
    go : (b : Bool) → test y ≡ b → (In x (filter test ys) → Passes test ys x) → In x (cond b (y ∷ filter test ys) (filter test ys)) → Passes test (y ∷ ys) x
    go true t more (here same) = record { is_in = here same; passes = cc }
    go true t more (there j) = passes-later y (more j)
    go false t more j = passes-later y (more j)
