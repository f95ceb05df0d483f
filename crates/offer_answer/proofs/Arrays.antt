-- Arrays that are filled from the front.
use Rattle.std.proofs.Common.{◌≢◌, ◌+◌, ◌<◌, ℕ, List, length, slice_index_or, slice_set, sym, subst, below_more, arith}
use Rattle.std.proofs.lemmas.List.{get_or-set_same, get_or-set_other}

-- one more element
pub one-more : {X : Type 0} (P : ℕ → X → Type 0) (xs : List X) (i : ℕ) (x d : X) → i < length xs →
    ((k : ℕ) → k < i → P k (slice_index_or xs k d)) → P i x → (k : ℕ) → k < i + 1 → P k (slice_index_or (slice_set xs i x) k d)
one-more P xs i x d within before here =
    below_more (λ k. P k (slice_index_or (slice_set xs i x) k d)) i
    (λ k below. let apart : k ≢ i = omega (arith, below) in subst (P k) (sym (get_or-set_other xs i k x d apart)) (before k below))
    (subst (P i) (sym (get_or-set_same xs i x d within)) here)
