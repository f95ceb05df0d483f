-- Which queues of pairs are those of a pool.
use Rattle.std.proofs.Common.{◌≡◌, ◌≢◌, ◌∙◌, sym, ap, ℕ, zero, suc, ◌<◌, ◌≤◌, List, [], ◌∷◌, ◌++◌, length, take, get_or, set, Bool, true, false, cond, ◌==◌, refl, arith, ne_eqb, eq-eqb, inl, inr, get_or-set_same, get_or-set_other}
use Rattle.std.proofs.lemmas.Bool.{cases_eq}
use Rattle.histories.specs.Words.{has}
use Rattle.port_pool.specs.Pools.{AreFree, AreFrom}
use Rattle.port_pool.proofs.Queue.{first_differs, turned}

-- a pair that doesn't stand in the list is none of its elements
out_at : (pairs : List ℕ) (p i : ℕ) → has pairs p ≡ false → i < length pairs → (get_or pairs i 0 == p) ≡ false
out_at [] p i out within = absurd (omega arith)
out_at (q ∷ pairs) p zero out within = (first_differs (q == p) (has pairs p) out).0
out_at (q ∷ pairs) p (suc i) out within = out_at pairs p i (first_differs (q == p) (has pairs p) out).1 (omega arith)

-- each pair of a queue is below the count, and stands in it nowhere before
pub free_at : (count : ℕ) (pairs : List ℕ) (i : ℕ) → AreFree count pairs → i < length pairs
    → (get_or pairs i 0 < count) × (has (take i pairs) (get_or pairs i 0) ≡ false)
free_at count [] i free within = absurd (omega arith)
free_at count (p ∷ pairs) zero free within = (free.0, refl)
free_at count (p ∷ pairs) (suc i) free within =
    let rest = free_at count pairs i free.2 (omega arith) in
    let differs : (p == get_or pairs i 0) ≡ false = turned (get_or pairs i 0) p (out_at pairs p i free.1 (omega arith)) in
    (rest.0, ap (λ b. cond b true (has (take i pairs) (get_or pairs i 0))) differs ∙ rest.1)

pub from_at : (first : ℕ) (pairs : List ℕ) (i : ℕ) → AreFrom first pairs → i < length pairs → first ≤ get_or pairs i 0
from_at first [] i from within = absurd (omega arith)
from_at first (p ∷ pairs) zero from within = from.0
from_at first (p ∷ pairs) (suc i) from within = from_at first pairs i from.1 (omega arith)

pub all_from_zero : (pairs : List ℕ) → AreFrom 0 pairs
all_from_zero [] = tt
all_from_zero (p ∷ pairs) = (omega arith, all_from_zero pairs)

-- ---- marks

has_behind : (xs : List ℕ) (p : ℕ) → has (xs ++ p ∷ []) p ≡ true
has_behind [] p = ap (λ b. cond b true false) (eq-eqb p p refl)
has_behind (x ∷ xs) p = ap (λ r. cond (x == p) true r) (has_behind xs p) ∙ both (x == p)
  where
    both : (b : Bool) → cond b true true ≡ true
    both true = refl
    both false = refl

has_other : (xs : List ℕ) (p k : ℕ) → p ≢ k → has (xs ++ p ∷ []) k ≡ has xs k
has_other [] p k apart = ap (λ b. cond b true false) (ne_eqb p k apart)
has_other (x ∷ xs) p k apart = ap (λ r. cond (x == k) true r) (has_other xs p k apart)

-- one mark more, for one pair more at the end
pub marked_more : (marks : List Bool) (xs : List ℕ) (p : ℕ) → p < length marks → ((k : ℕ) → get_or marks k false ≡ has xs k)
    → (k : ℕ) → get_or (set marks p true) k false ≡ has (xs ++ p ∷ []) k
marked_more marks xs p within marked k = elim (cases_eq k p) [
  | inl same ↦
      ap (λ n. get_or (set marks p true) n false) same ∙ get_or-set_same marks p true false within ∙ sym (has_behind xs p) ∙ ap (λ n. has (xs ++ p ∷ []) n) (sym same)
  | inr apart ↦
      get_or-set_other marks p k true false apart ∙ marked k ∙ sym (has_other xs p k (λ e. apart (sym e)))
]
