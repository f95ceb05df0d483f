-- The lowest number from 1 on that does not stand in a list.
use Rattle.std.proofs.Common.{◌≡◌, ◌∙◌, sym, ap, ℕ, zero, suc, ◌+◌, ◌-◌, ◌≤◌, ◌<◌, List, [], ◌∷◌, filter, length, Bool, true, false, cond, not, Option, Some, None, ◌==◌, refl, arith}
use Rattle.std.proofs.lemmas.Bool.Decides.{nat_tests}
use Rattle.histories.specs.Words.{In, here, there, first, has, greatest, numbers}
use Rattle.histories.proofs.Lists.{filtered, keeps, it_has, has_it, first_is_in, equal_if}
use Rattle.call_board.specs.Calls.{lowest_but, number_or_zero}
use Rattle.call_board.proofs.Once.{once_numbers, in_numbers, numbers_in, fit_in}

pub record IsLowest (taken : List ℕ) (m : ℕ) : Type 0 where
  pub positive : 1 ≤ m
  pub fresh : In m taken → ⊥
  pub full : (n : ℕ) → 1 ≤ n → n < m → In n taken

below_greatest : (n : ℕ) (xs : List ℕ) → In n xs → n ≤ greatest xs
below_greatest n [] i = elim i [ ]
below_greatest n (x ∷ xs) (here e) = omega arith
below_greatest n (x ∷ xs) (there i) = let rest = below_greatest n xs i in omega arith

first_none : {A : Type 0} {x : A} (xs : List A) → first xs ≡ None → In x xs → ⊥
first_none [] h i = elim i [ ]
first_none (y ∷ ys) h i = let e = h in cc

out_case : (n : ℕ) (xs : List ℕ) → (In n xs → ⊥) → (b : Bool) → has xs n ≡ b → not b ≡ true
out_case n xs out true is = absurd (out (has_it n xs is))
out_case n xs out false is = refl

is_out : (n : ℕ) (xs : List ℕ) → (In n xs → ⊥) → not (has xs n) ≡ true
is_out n xs out = out_case n xs out (has xs n) refl

pub not_in : (n : ℕ) (xs : List ℕ) → not (has xs n) ≡ true → In n xs → ⊥
not_in n xs out i = let h : has xs n ≡ true = it_has n xs i in let wrong : not true ≡ true = ap not (sym h) ∙ out in cc

in_case : (n : ℕ) (xs : List ℕ) → (b : Bool) → has xs n ≡ b → not b ≡ false → In n xs
in_case n xs true is h = has_it n xs is
in_case n xs false is h = absurd (let e = h in cc)

least_case : (p : ℕ → Bool) (n count m k : ℕ) → n ≤ k → k < m → (first (filter p (numbers (suc n) count)) ≡ Some m → suc n ≤ k → p k ≡ false)
    → (b : Bool) → p n ≡ b → first (cond b (n ∷ filter p (numbers (suc n) count)) (filter p (numbers (suc n) count))) ≡ Some m → (same : Bool) → (n == k) ≡ same → p k ≡ false
least_case p n count m k low high rest true is h same at = let e : n ≡ m = (let q = h in cc) in absurd (omega arith)
least_case p n count m k low high rest false is h true at = ap p (sym (equal_if n k at)) ∙ is
least_case p n count m k low high rest false is h false at = rest h (grind (arith, nat_tests))

first_least : (p : ℕ → Bool) (n count m k : ℕ) → first (filter p (numbers n count)) ≡ Some m → n ≤ k → k < m → p k ≡ false
first_least p n zero m k h low high = absurd (let e = h in cc)
first_least p n (suc count) m k h low high =
    least_case p n count m k low high (λ q l. first_least p (suc n) count m k q l high) (p n) refl h (n == k) refl

lowest_case : (taken : List ℕ) (o : Option ℕ) → first (filter (λ n. not (has taken n)) (numbers 1 (greatest taken + 1))) ≡ o → IsLowest taken (number_or_zero o)
lowest_case taken None is =
    let all = numbers 1 (greatest taken + 1) in
    let out = is_out (greatest taken + 1) taken (λ i. let b = below_greatest (greatest taken + 1) taken i in absurd (omega (arith, b))) in
    absurd (first_none (filter (λ n. not (has taken n)) all) is (keeps (λ n. not (has taken n)) all (numbers_in (greatest taken + 1) 1 (greatest taken + 1) (omega arith) (omega arith)) out))
lowest_case taken (Some m) is =
    let all = numbers 1 (greatest taken + 1) in
    let f = filtered (λ n. not (has taken n)) all (first_is_in (filter (λ n. not (has taken n)) all) is) in
    let bounds = in_numbers m 1 (greatest taken + 1) f.0 in record {
      positive = bounds.0;
      fresh = not_in m taken f.1;
      full = λ n low high. in_case n taken (has taken n) refl (first_least (λ n. not (has taken n)) 1 (greatest taken + 1) m n is low high);
    }

pub lowest_is : (taken : List ℕ) → IsLowest taken (lowest_but taken)
lowest_is taken = lowest_case taken (first (filter (λ n. not (has taken n)) (numbers 1 (greatest taken + 1)))) refl

pub length_numbers : (n count : ℕ) → length (numbers n count) ≡ count
length_numbers n zero = refl
length_numbers n (suc count) = let rest = length_numbers (suc n) count in omega arith

pub lowest_bound : (taken : List ℕ) → lowest_but taken ≤ length taken + 1
lowest_bound taken =
    let l = lowest_is taken in
    let positive = l.positive in
    let fits = fit_in (numbers 1 (lowest_but taken - 1)) taken (once_numbers 1 (lowest_but taken - 1))
    (λ n i. let b = in_numbers n 1 (lowest_but taken - 1) i in l.full n b.0 (omega (arith, b.0, b.1, positive))) in
    let count = length_numbers 1 (lowest_but taken - 1) in
    omega (arith, fits, count, positive)
