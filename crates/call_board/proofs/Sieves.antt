-- Filters of lists of numbers, and of lists in which each number stands once.
use Rattle.std.proofs.Common.{◌≡◌, ◌∙◌, refl, sym, ap, subst, ℕ, zero, suc, List, [], ◌∷◌, ◌++◌, filter, take, drop, Bool, true, false, cond, not, ◌==◌}
use Rattle.std.specs.Prelude.{◌&&◌, ◌||◌}
use Rattle.histories.specs.Words.{In, here, there, has, last_once}
use Rattle.histories.proofs.Lists.{has_it, equal, equal_if}
use Rattle.call_board.proofs.Once.{Once}

both_case : {A : Type 0} (p q : A → Bool) (x : A) (xs : List A) → filter p (filter q xs) ≡ filter (λ y. q y && p y) xs → (b : Bool) →
    filter p (cond b (x ∷ filter q xs) (filter q xs)) ≡ cond (b && p x) (x ∷ filter (λ y. q y && p y) xs) (filter (λ y. q y && p y) xs)
both_case p q x xs rest true = ap (λ ys. cond (p x) (x ∷ ys) ys) rest
both_case p q x xs rest false = rest

-- two filters are one
pub filter_both : {A : Type 0} (p q : A → Bool) (xs : List A) → filter p (filter q xs) ≡ filter (λ x. q x && p x) xs
filter_both p q [] = refl
filter_both p q (x ∷ xs) = both_case p q x xs (filter_both p q xs) (q x)

-- filters that agree on the elements of a list
pub filter_alike : {A : Type 0} (p q : A → Bool) (xs : List A) → ((x : A) → In x xs → p x ≡ q x) → filter p xs ≡ filter q xs
filter_alike p q [] alike = refl
filter_alike p q (x ∷ xs) alike =
    ap (λ b. cond b (x ∷ filter p xs) (filter p xs)) (alike x (here refl))
    ∙ ap (λ ys. cond (q x) (x ∷ ys) ys) (filter_alike p q xs (λ y i. alike y (there i)))

pub filter_whole : {A : Type 0} (p : A → Bool) (xs : List A) → ((x : A) → In x xs → p x ≡ true) → filter p xs ≡ xs
filter_whole p [] all = refl
filter_whole p (x ∷ xs) all =
    ap (λ b. cond b (x ∷ filter p xs) (filter p xs)) (all x (here refl)) ∙ ap (λ ys. x ∷ ys) (filter_whole p xs (λ y i. all y (there i)))

-- a number is in one list or the other
pub has_append : (xs ys : List ℕ) (n : ℕ) → has (xs ++ ys) n ≡ (has xs n || has ys n)
has_append [] ys n = refl
has_append (x ∷ xs) ys n = step (x == n) (has_append xs ys n)
  where
    step : (b : Bool) → has (xs ++ ys) n ≡ (has xs n || has ys n) → cond b true (has (xs ++ ys) n) ≡ (cond b true (has xs n) || has ys n)
    step true e = refl
    step false e = e

out_case : (n : ℕ) (xs : List ℕ) → (In n xs → ⊥) → (b : Bool) → has xs n ≡ b → has xs n ≡ false
out_case n xs out true is = absurd (out (has_it n xs is))
out_case n xs out false is = is

-- a number that is not in the list
pub is_out : (n : ℕ) (xs : List ℕ) → (In n xs → ⊥) → has xs n ≡ false
is_out n xs out = out_case n xs out (has xs n) refl

last_case : (x : ℕ) (xs ys : List ℕ) → last_once (xs ++ ys) ≡ filter (λ n. not (has ys n)) (last_once xs) ++ last_once ys → (a b : Bool) → has ys x ≡ b →
    cond (a || b) (last_once (xs ++ ys)) (x ∷ last_once (xs ++ ys)) ≡ filter (λ n. not (has ys n)) (cond a (last_once xs) (x ∷ last_once xs)) ++ last_once ys
last_case x xs ys rest true b is = rest
last_case x xs ys rest false true is =
    rest ∙ sym (ap (λ b. cond (not b) (x ∷ filter (λ n. not (has ys n)) (last_once xs)) (filter (λ n. not (has ys n)) (last_once xs)) ++ last_once ys) is)
last_case x xs ys rest false false is =
    ap (λ ns. x ∷ ns) rest
    ∙ sym (ap (λ b. cond (not b) (x ∷ filter (λ n. not (has ys n)) (last_once xs)) (filter (λ n. not (has ys n)) (last_once xs)) ++ last_once ys) is)

-- the numbers of a list that goes on, each where it stands last
pub last_append : (xs ys : List ℕ) → last_once (xs ++ ys) ≡ filter (λ n. not (has ys n)) (last_once xs) ++ last_once ys
last_append [] ys = refl
last_append (x ∷ xs) ys =
    ap (λ b. cond b (last_once (xs ++ ys)) (x ∷ last_once (xs ++ ys))) (has_append xs ys x)
    ∙ last_case x xs ys (last_append xs ys) (has xs x) (has ys x) refl

pub last_same : (xs : List ℕ) → Once xs → last_once xs ≡ xs
last_same [] once = refl
last_same (x ∷ xs) once =
    ap (λ b. cond b (last_once xs) (x ∷ last_once xs)) (is_out x xs once.0) ∙ ap (λ ns. x ∷ ns) (last_same xs once.1)

-- the list after its front is the list without the numbers of the front
pub without_taken : (k : ℕ) (xs : List ℕ) → Once xs → filter (λ n. not (has (take k xs) n)) xs ≡ drop k xs
without_taken zero [] once = refl
without_taken zero (x ∷ xs) once = filter_whole (λ n. not (has (take zero (x ∷ xs)) n)) (x ∷ xs) (λ n i. refl)
without_taken (suc k) [] once = refl
without_taken (suc k) (x ∷ xs) once =
    ap (λ b. cond (not (cond b true (has (take k xs) x))) (x ∷ filter behind xs) (filter behind xs)) (equal x x refl)
    ∙ filter_alike behind (λ n. not (has (take k xs) n)) xs (λ n i. ap (λ b. not (cond b true (has (take k xs) n))) (other n i (x == n) refl))
    ∙ without_taken k xs once.1
  where
    behind : ℕ → Bool
    behind n = not (cond (x == n) true (has (take k xs) n))

    other : (n : ℕ) → In n xs → (b : Bool) → (x == n) ≡ b → (x == n) ≡ false
    other n i true is = absurd (once.0 (subst (λ m. In m xs) (sym (equal_if x n is)) i))
    other n i false is = is
