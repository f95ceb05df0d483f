-- What is left of a list, where elements were taken out of it.
use Rattle.std.proofs.Common.{◌≡◌, refl, ap, sym, ◌∙◌, ℕ, zero, suc, ◌<◌, Bool, true, false, cond, List, [], ◌∷◌, length, get_or, arith}
use Rattle.std.specs.List.{filter, remove}
use Rattle.call_cell.specs.GivenEnds.{IsLeftOf}

-- The order.

pub nothing_taken : {X : Type 0} (xs : List X) → IsLeftOf xs xs
nothing_taken xs = record { place = λ i. i; rises = λ i j less. less; within = λ i below. below; same = λ i d below. refl }

pub taken_from : {X : Type 0} (xs ys zs : List X) → IsLeftOf xs ys → IsLeftOf ys zs → IsLeftOf xs zs
taken_from xs ys zs first second = record {
  place = λ i. first.place (second.place i);
  rises = λ i j less. first.rises (second.place i) (second.place j) (second.rises i j less);
  within = λ i below. first.within (second.place i) (second.within i below);
  same = λ i d below. second.same i d below ∙ first.same (second.place i) d (second.within i below);
}

-- the place over a removed one
over : ℕ → ℕ → ℕ
over zero k = suc k
over (suc at) zero = zero
over (suc at) (suc k) = suc (over at k)

over_rises : (at i j : ℕ) → i < j → over at i < over at j
unfolding over
over_rises zero i j less = omega (arith, less)
over_rises (suc at) i zero less = absurd (omega (arith, less))
over_rises (suc at) zero (suc j) less = omega arith
over_rises (suc at) (suc i) (suc j) less = omega (arith, over_rises at i j (omega (arith, less)))

over_within : {X : Type 0} (xs : List X) (at i : ℕ) → at < length xs → i < length (remove xs at) → over at i < length xs
unfolding over
over_within [] at i below within = absurd (omega (arith, below))
over_within (x ∷ xs) zero i below within = omega (arith, within)
over_within (x ∷ xs) (suc at) zero below within = omega arith
over_within (x ∷ xs) (suc at) (suc i) below within = omega (arith, over_within xs at i (omega (arith, below)) (omega (arith, within)))

over_same : {X : Type 0} (xs : List X) (at i : ℕ) (d : X) → at < length xs → get_or (remove xs at) i d ≡ get_or xs (over at i) d
unfolding over
over_same [] at i d below = absurd (omega (arith, below))
over_same (x ∷ xs) zero i d below = refl
over_same (x ∷ xs) (suc at) zero d below = refl
over_same (x ∷ xs) (suc at) (suc i) d below = over_same xs at i d (omega (arith, below))

pub one_taken : {X : Type 0} (xs : List X) (at : ℕ) → at < length xs → IsLeftOf xs (remove xs at)
one_taken xs at below = record {
  place = over at;
  rises = over_rises at;
  within = λ i within. over_within xs at i below within;
  same = λ i d within. over_same xs at i d below;
}

-- What passes a test.

front_case : {X : Type 0} (p : X → Bool) (x y : X) (ys rest : List X) → filter p ys ≡ filter p (x ∷ rest) → (b c : Bool) → p x ≡ b → p y ≡ c
    → (b ≡ true → c ≡ false) → filter p (y ∷ ys) ≡ filter p (x ∷ y ∷ rest)
front_case p x y ys rest same true true q r off = absurd (let e = off refl in cc)
front_case {X} p x y ys rest same true false q r off =
    ap (λ (t : Bool). cond t (y ∷ filter p ys) (filter p ys)) r
    ∙ same
    ∙ ap (λ (t : Bool). cond (p x) (x ∷ cond t (y ∷ filter p rest) (filter p rest)) (filter p rest)) (sym r)
    ∙ ap (λ (t : Bool). cond t (x ∷ filter p (y ∷ rest)) (filter p rest)) q
    ∙ ap (λ (t : Bool). cond t (x ∷ filter p (y ∷ rest)) (filter p (y ∷ rest))) (sym q)
front_case {X} p x y ys rest same false c q r off =
    let less : filter p ys ≡ filter p rest = same ∙ ap (λ (t : Bool). cond t (x ∷ filter p rest) (filter p rest)) q in
    ap (λ (l : List X). cond (p y) (y ∷ l) l) less
    ∙ ap (λ (t : Bool). cond t (x ∷ filter p (y ∷ rest)) (filter p (y ∷ rest))) (sym q)

-- an element goes to the front, where it is the first that passes or doesn't pass
pub to_front : {X : Type 0} (p : X → Bool) (xs : List X) (at : ℕ) (x : X) → at < length xs → x ≡ get_or xs at x
    → (p x ≡ true → (k : ℕ) → k < at → p (get_or xs k x) ≡ false) → filter p xs ≡ filter p (x ∷ remove xs at)
to_front p [] at x below is first = absurd (omega (arith, below))
to_front {X} p (y ∷ ys) zero x below is first = ap (λ (z : X). filter p (z ∷ ys)) (sym is)
to_front p (y ∷ ys) (suc at) x below is first =
    front_case p x y ys (remove ys at)
    (to_front p ys at x (omega (arith, below)) is (λ passes k less. first passes (suc k) (omega (arith, less))))
    (p x) (p y) refl refl (λ passes. first passes zero (omega arith))
