-- Lists in two parts, what holds of each element, and two tests at once.
use Rattle.std.proofs.Common.{◌≡◌, subst, sym, refl, List, [], ◌∷◌, ◌++◌, Bool, true, false, ap, Some}
use Rattle.std.specs.Prelude.{◌&&◌}
use Rattle.histories.specs.Words.{In, here, there, first}

pub none_in : {A : Type 0} (P : A → Type 0) (x : A) → In x [] → P x
none_in P x i = elim i [ ]

pub or_first : {A : Type 0} (P : A → Type 0) {e : A} {es : List A} → P e → ((x : A) → In x es → P x) → (x : A) → In x (e ∷ es) → P x
or_first P p rest x (here q) = subst P (sym q) p
or_first P p rest x (there i) = rest x i

pub in_middle : {A : Type 0} (newer older : List A) (e : A) → In e (newer ++ e ∷ older)
in_middle [] older e = here refl
in_middle (x ∷ newer) older e = there (in_middle newer older e)

pub both : (a b : Bool) → a ≡ true → b ≡ true → (a && b) ≡ true
both true b p q = q
both false b p q = absurd (let e = p in cc)

pub both_left : (a b : Bool) → (a && b) ≡ true → a ≡ true
both_left true b q = refl
both_left false b q = let e = q in cc

pub both_right : (a b : Bool) → (a && b) ≡ true → b ≡ true
both_right true b q = q
both_right false b q = absurd (let e = q in cc)

-- the first of a list, where all that are in it are one
pub first_of_one : {A : Type 0} (xs : List A) (x : A) → In x xs → ((y : A) → In y xs → y ≡ x) → first xs ≡ Some x
first_of_one [] x i all = elim i [ ]
first_of_one (y ∷ ys) x i all = ap Some (all y (here refl))
