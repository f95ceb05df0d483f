-- Two lists, place by place: a relation that composes.
use Rattle.std.proofs.Common.{◌≡◌, ◌∙◌, refl, subst, ℕ, ◌<◌, List, length, get_or, ◌+◌, ⊎_elim, arith}
use Rattle.std.proofs.lemmas.Bool.{cases_lt}
use Rattle.relay_runs.specs.Threads.{Each}

module _ {X : Type 0} where
  pub each_none : (R : X → X → Type 0) → ((x : X) → R x x) → (xs : List X) → Each R xs xs
  each_none R none xs = record { as_many = refl; at = λ i d lt. none (get_or xs i d) }

  pub each_both : (R S T : X → X → Type 0) → ((x y z : X) → R x y → S y z → T x z) → (xs ys zs : List X) → Each R xs ys → Each S ys zs → Each T xs zs
  each_both R S T both xs ys zs first second = record {
    as_many = second.as_many ∙ first.as_many;
    at = λ i d lt. both (get_or xs i d) (get_or ys i d) (get_or zs i d) (first.at i d lt) (second.at i d (let many = first.as_many in omega (arith, many, lt)));
  }

  -- the places below n, of which a further one is reached
  abbrev pub Below : (X → X → Type 0) → ℕ → List X → List X → Type 0
  Below S n old new = (i : ℕ) (d : X) → i < n → S (get_or old i d) (get_or new i d)

  pub below_next : (R S : X → X → Type 0) → ((x y z : X) → R x y → S y z → S x z) → ((x y z : X) → S x y → R y z → S x z) → (n : ℕ) (xs ys zs : List X) → n < length xs
      → Each R xs ys → Each R ys zs → Below S n xs ys → ((d : X) → n < length ys → S (get_or ys n d) (get_or zs n d)) → Below S (n + 1) xs zs
  below_next R S late early n xs ys zs lt first second below this i d le =
      let many = first.as_many in
      ⊎_elim
      (λ less. early (get_or xs i d) (get_or ys i d) (get_or zs i d) (below i d less) (second.at i d (omega (arith, many, less, lt))))
      (λ more.
      let same : n ≡ i = omega (arith, more, le) in
      subst (λ (k : ℕ). S (get_or xs k d) (get_or zs k d)) same (late (get_or xs n d) (get_or ys n d) (get_or zs n d) (first.at n d lt) (this d (omega (arith, many, lt)))))
      (cases_lt i n)

  -- what holds at all places
  pub each_below : (R S : X → X → Type 0) (n : ℕ) (xs ys : List X) → length xs ≡ n → Each R xs ys → Below S n xs ys → Each S xs ys
  each_below R S n xs ys all each below = record { as_many = each.as_many; at = λ i d lt. below i d (omega (arith, all, lt)) }
