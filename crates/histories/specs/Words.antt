-- Words on lists. All histories stand latest first.
use Rattle.std.specs.Prelude.{◌≡◌, ℕ, zero, suc, Bool, true, false, ◌==◌, max, ◌+◌, List, [], ◌∷◌, Option, Some, None, if◌then◌else◌}

-- x is an element of the list
pub data In {A : Type 0} (x : A) : List A → Type 0 where
  here : {y : A} {ys : List A} → x ≡ y → In x (y ∷ ys)
  there : {y : A} {ys : List A} → In x ys → In x (y ∷ ys)

-- x stands before y
pub data Before {A : Type 0} (x y : A) : List A → Type 0 where
  begins : {z : A} {zs : List A} → x ≡ z → In y zs → Before x y (z ∷ zs)
  goes_on : {z : A} {zs : List A} → Before x y zs → Before x y (z ∷ zs)

-- the first element
abbrev pub first : {A : Type 0} → List A → Option A
first [] = None
first (x ∷ xs) = Some x

-- the last element
abbrev pub final : {A : Type 0} → List A → Option A
final [] = None
final (x ∷ []) = Some x
final (x ∷ y ∷ ys) = final (y ∷ ys)

-- the first of two that is there
abbrev pub or_else : {A : Type 0} → Option A → Option A → Option A
or_else (Some x) o = Some x
or_else None o = o

-- the elements up to the first that passes, without it
abbrev pub until : {A : Type 0} → (A → Bool) → List A → List A
until p [] = []
until p (x ∷ xs) = if p x then [] else x ∷ until p xs

-- the number stands in the list
abbrev pub has : List ℕ → ℕ → Bool
has [] n = false
has (x ∷ xs) n = if x == n then true else has xs n

-- each number once, where it stands last
abbrev pub last_once : List ℕ → List ℕ
last_once [] = []
last_once (x ∷ xs) = if has xs x then last_once xs else x ∷ last_once xs

-- the greatest, 0 of an empty list
abbrev pub greatest : List ℕ → ℕ
greatest [] = 0
greatest (x ∷ xs) = max x (greatest xs)

-- n, n + 1 and so on, as many as count
abbrev pub numbers : ℕ → ℕ → List ℕ
numbers n zero = []
numbers n (suc count) = n ∷ numbers (suc n) count
