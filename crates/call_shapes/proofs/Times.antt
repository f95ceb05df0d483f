-- How often a number stands in a list.
use Rattle.std.proofs.Common.{◌≡◌, ◌∙◌, refl, sym, ap, ℕ, zero, suc, ◌+◌, ◌<◌, ◌≤◌, Bool, true, false, cond, List, [], ◌∷◌, ◌++◌, map, filter, ◌==◌, arith}
use Rattle.std.specs.Prelude.{count_by, not}
use Rattle.std.proofs.lemmas.List.Sums.{sum_by-cons}
use Rattle.histories.specs.Words.{In, here, there, has, numbers}
use Rattle.histories.proofs.Lists.{equal, equal_if, has_it}
use Rattle.port_pool.specs.Pools.{AreFree}

abbrev pub one_if : Bool → ℕ
one_if b = cond b 1 0

abbrev pub times : ℕ → List ℕ → ℕ
times n [] = 0
times n (x ∷ xs) = one_if (x == n) + times n xs

pub count_times : (n : ℕ) (xs : List ℕ) → count_by (λ x. x == n) xs ≡ times n xs
count_times n [] = refl
count_times n (x ∷ xs) = sum_by-cons (λ y. cond (y == n) 1 0) x xs ∙ ap (λ k. one_if (x == n) + k) (count_times n xs)

pub times_append : (n : ℕ) (xs ys : List ℕ) → times n (xs ++ ys) ≡ times n xs + times n ys
times_append n [] ys = omega arith
times_append n (x ∷ xs) ys = let rest = times_append n xs ys in omega (arith, rest)

pub times_three : (n : ℕ) (xs ys zs : List ℕ) → times n (xs ++ ys ++ zs) ≡ times n xs + times n ys + times n zs
times_three n xs ys zs = let one = times_append n (xs ++ ys) zs in let two = times_append n xs ys in omega (arith, one, two)

-- a number in the list stands there once or more
at_here : (n x : ℕ) (more : ℕ) → x ≡ n → 1 ≤ one_if (x == n) + more
at_here n x more e = rw (equal x n e) (omega arith)

pub stands : (n : ℕ) (xs : List ℕ) → In n xs → 1 ≤ times n xs
stands n [] i = elim i [ ]
stands n (x ∷ xs) (here e) = at_here n x (times n xs) (sym e)
stands n (x ∷ xs) (there i) = let rest = stands n xs i in omega (arith, rest)

-- and one that stands there is in it
stands_case : (n x : ℕ) (xs : List ℕ) → (1 ≤ times n xs → In n xs) → (b : Bool) → (x == n) ≡ b → 1 ≤ one_if b + times n xs → In n (x ∷ xs)
stands_case n x xs rest true is h = here (sym (equal_if x n is))
stands_case n x xs rest false is h = there (rest (omega (arith, h)))

pub stands_in : (n : ℕ) (xs : List ℕ) → 1 ≤ times n xs → In n xs
stands_in n [] h = absurd (omega (arith, h))
stands_in n (x ∷ xs) h = stands_case n x xs (stands_in n xs) (x == n) refl h

-- as `has` says
has_step : (n x : ℕ) (xs : List ℕ) → (has xs n ≡ false → times n xs ≡ 0) → (b : Bool) → cond b true (has xs n) ≡ false → one_if b + times n xs ≡ 0
has_step n x xs rest true h = absurd (let e = h in cc)
has_step n x xs rest false h = let r = rest h in omega (arith, r)

pub none_times : (n : ℕ) (xs : List ℕ) → has xs n ≡ false → times n xs ≡ 0
none_times n [] h = refl
none_times n (x ∷ xs) h = has_step n x xs (none_times n xs) (x == n) h

hasnt_step : (n x : ℕ) (xs : List ℕ) → (times n xs ≡ 0 → has xs n ≡ false) → (b : Bool) → one_if b + times n xs ≡ 0 → cond b true (has xs n) ≡ false
hasnt_step n x xs rest true h = absurd (omega (arith, h))
hasnt_step n x xs rest false h = rest (omega (arith, h))

pub times_none : (n : ℕ) (xs : List ℕ) → times n xs ≡ 0 → has xs n ≡ false
times_none n [] h = refl
times_none n (x ∷ xs) h = hasnt_step n x xs (times_none n xs) (x == n) h

pub some_times : (n : ℕ) (xs : List ℕ) → has xs n ≡ true → 1 ≤ times n xs
some_times n xs h = stands n xs (has_it n xs h)

-- numbers of which each stands once
free_case : (n x : ℕ) (xs : List ℕ) → has xs x ≡ false → times n xs ≤ 1 → (b : Bool) → (x == n) ≡ b → one_if b + times n xs ≤ 1
free_case n x xs new most true is =
    let same : x ≡ n = equal_if x n is in
    let none = none_times x xs new in
    let here_ : times n xs ≡ 0 = ap (λ k. times k xs) (sym same) ∙ none in
    omega (arith, here_)
free_case n x xs new most false is = omega (arith, most)

pub free_times : (count n : ℕ) (xs : List ℕ) → AreFree count xs → times n xs ≤ 1
free_times count n [] free = omega arith
free_times count n (x ∷ xs) free = free_case n x xs free.1 (free_times count n xs free.2) (x == n) refl

-- a filter parts a list in two
parts_case : (k both a b : ℕ) → a + b ≡ both → (t : Bool) → cond t (k + a) a + cond (not t) (k + b) b ≡ k + both
parts_case k both a b h true = omega (arith, h)
parts_case k both a b h false = omega (arith, h)

filter_step : {A : Type 0} (f : A → ℕ) (n : ℕ) (x : A) (xs : List A) (t : Bool) → times n (map f (cond t (x ∷ xs) xs)) ≡ cond t (one_if (f x == n) + times n (map f xs)) (times n (map f xs))
filter_step f n x xs true = refl
filter_step f n x xs false = refl

pub times_parts : {A : Type 0} (f : A → ℕ) (n : ℕ) (p : A → Bool) (xs : List A)
    → times n (map f (filter p xs)) + times n (map f (filter (λ x. not (p x)) xs)) ≡ times n (map f xs)
times_parts f n p [] = refl
times_parts {A} f n p (x ∷ xs) =
    let rest = times_parts f n p xs in
    let yes = filter_step f n x (filter p xs) (p x) in
    let no = filter_step f n x (filter (λ (y : A). not (p y)) xs) (not (p x)) in
    let all = parts_case (one_if (f x == n)) (times n (map f xs)) (times n (map f (filter p xs))) (times n (map f (filter (λ (y : A). not (p y)) xs))) rest (p x) in
    ap (λ k. k + times n (map f (filter (λ (y : A). not (p y)) (x ∷ xs)))) yes
    ∙ ap (λ k. cond (p x) (one_if (f x == n) + times n (map f (filter p xs))) (times n (map f (filter p xs))) + k) no
    ∙ all

-- the numbers from one on
pub numbers_most : (n from count : ℕ) → n < from → times n (numbers from count) ≡ 0
numbers_most n from zero h = refl
numbers_most n from (suc count) h = differs (from == n) refl (numbers_most n (suc from) count (omega (arith, h)))
  where
    differs : (b : Bool) → (from == n) ≡ b → times n (numbers (suc from) count) ≡ 0 → one_if b + times n (numbers (suc from) count) ≡ 0
    differs true is e = absurd (let same = equal_if from n is in omega (arith, same, h))
    differs false is e = omega (arith, e)

numbers_step : (n from count : ℕ) → from ≤ n → (suc from ≤ n → times n (numbers (suc from) count) ≡ 1) → (b : Bool) → (from == n) ≡ b
    → one_if b + times n (numbers (suc from) count) ≡ 1
numbers_step n from count low rest true is =
    let same = equal_if from n is in let none = numbers_most n (suc from) count (omega (arith, same)) in omega (arith, none)
numbers_step n from count low rest false is =
    let other = λ (e : from ≡ n). (let t = equal from n e in let f = is in let wrong : true ≡ false = sym t ∙ f in absurd {A = ⊥} (cc)) in
    let after = rest (omega (arith, other, low)) in omega (arith, after)

pub numbers_once : (n from count : ℕ) → from ≤ n → n < from + count → times n (numbers from count) ≡ 1
numbers_once n from zero low high = absurd (omega (arith, low, high))
numbers_once n from (suc count) low high =
    numbers_step n from count low (λ later. numbers_once n (suc from) count later (omega (arith, high))) (from == n) refl
