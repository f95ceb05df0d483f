-- The queue of free pairs: each pair stands in it once, so it is never longer than the pairs are many.
use Rattle.std.proofs.Common.{◌≡◌, ◌∙◌, sym, ap, ℕ, ◌+◌, ◌<◌, ◌≤◌, zero, suc, List, [], ◌∷◌, ◌++◌, length, Bool, true, false, cond, ◌||◌, ◌==◌, refl, arith, eqb, eqb-true, ne_eqb}
use Rattle.std.proofs.lemmas.Bool.{eqb-false}
use Rattle.std.specs.List.{AllByRecursion, IsDistinct, list_any}
use Rattle.std.proofs.lemmas.Map.Steps.{length-le_from_distinct_below}
use Rattle.histories.specs.Words.{has, numbers}
use Rattle.port_pool.specs.Pools.{AreFree, AreFrom}

-- the two facts of a pair that stands neither at the front nor in the rest
pub first_differs : (b rest : Bool) → cond b true rest ≡ false → (b ≡ false) × (rest ≡ false)
first_differs true rest h = cc
first_differs false rest h = (refl, h)

pub turned : (p q : ℕ) → eqb p q ≡ false → eqb q p ≡ false
turned p q h = ne_eqb q p (λ e. eqb-false p q h (sym e))

not_among : (pairs : List ℕ) (p : ℕ) → has pairs p ≡ false → AllByRecursion (λ q. eqb p q ≡ false) pairs
not_among [] p h = tt
not_among (q ∷ pairs) p h =
    let parts = first_differs (q == p) (has pairs p) h in
    (turned q p parts.0, not_among pairs p parts.1)

no_two : (count : ℕ) (pairs : List ℕ) → AreFree count pairs → IsDistinct eqb pairs
unfolding IsDistinct
no_two count [] free = tt
no_two count (p ∷ pairs) free = (not_among pairs p free.1, no_two count pairs free.2)

below_by : (count p q : ℕ) (b rest : Bool) → eqb q p ≡ b → p < count → (rest ≡ true → q < count) → (b || rest) ≡ true → q < count
below_by count p q true rest is within later h = let same : q ≡ p = eqb-true q p is in omega (arith, within, same)
below_by count p q false rest is within later h = later h

all_below : (count : ℕ) (pairs : List ℕ) → AreFree count pairs → (q : ℕ) → list_any (eqb q) pairs ≡ true → q < count
all_below count [] free q h = cc
all_below count (p ∷ pairs) free q h =
    below_by count p q (eqb q p) (list_any (eqb q) pairs) refl free.0 (all_below count pairs free.2 q) h

-- pairs below the count are at most as many
pub few_free : (count : ℕ) (pairs : List ℕ) → AreFree count pairs → length pairs ≤ count
few_free count pairs free = length-le_from_distinct_below pairs count (no_two count pairs free) (all_below count pairs free)

earlier_out : (p : ℕ) (pairs : List ℕ) → AreFrom (suc p) pairs → has pairs p ≡ false
earlier_out p [] later = refl
earlier_out p (q ∷ pairs) later =
    let differs : eqb q p ≡ false = ne_eqb q p (λ e. omega (arith, later.0, e)) in
    let rest : has pairs p ≡ false = earlier_out p pairs later.1 in
    rw differs rest

sooner_from : (first : ℕ) (pairs : List ℕ) → AreFrom (suc first) pairs → AreFrom first pairs
sooner_from first [] later = tt
sooner_from first (p ∷ pairs) later = (omega (arith, later.0), sooner_from first pairs later.1)

-- pairs from one on and below the count are at most as many as these numbers
pub few_between : (first count : ℕ) (pairs : List ℕ) → first ≤ count → AreFree count pairs → AreFrom first pairs → length pairs + first ≤ count
few_between zero count pairs h free later = let few = few_free count pairs free in omega (arith, few)
few_between (suc first) count pairs h free later =
    let more = few_between first count (first ∷ pairs) (omega (arith, h)) (omega (arith, h), earlier_out first pairs later, free)
    (omega arith, sooner_from first pairs later) in
    omega (arith, more)

pub fewer_between : (first count : ℕ) (pairs : List ℕ) (p : ℕ) → AreFree count pairs → AreFrom first pairs → p < count → first ≤ p → has pairs p ≡ false → length pairs + first < count
fewer_between first count pairs p free later within from out =
    let more = few_between first count (p ∷ pairs) (omega (arith, within, from)) (within, out, free) (from, later) in omega (arith, more)

-- a pair from there on stands at the end
pub later_behind : (first : ℕ) (pairs : List ℕ) (p : ℕ) → AreFrom first pairs → first ≤ p → AreFrom first (pairs ++ p ∷ [])
later_behind first [] p later from = (from, tt)
later_behind first (q ∷ pairs) p later from = (later.0, later_behind first pairs p later.1 from)

-- where a pair is not free, fewer are free than there are pairs
pub fewer_free : (count : ℕ) (pairs : List ℕ) (p : ℕ) → AreFree count pairs → p < count → has pairs p ≡ false → length pairs < count
fewer_free count pairs p free within out = let few = few_free count (p ∷ pairs) (within, out, free) in omega (arith, few)

still_out_by : (b rest more : Bool) → (b ≡ false) → (rest ≡ false → more ≡ false) → cond b true rest ≡ false → cond b true more ≡ false
still_out_by true rest more e later h = cc
still_out_by false rest more e later h = later h

still_out : (pairs : List ℕ) (p q : ℕ) → eqb p q ≡ false → has pairs q ≡ false → has (pairs ++ p ∷ []) q ≡ false
still_out [] p q differs h = rw differs refl
still_out (r ∷ pairs) p q differs h =
    still_out_by (r == q) (has pairs q) (has (pairs ++ p ∷ []) q) (first_differs (r == q) (has pairs q) h).0 (still_out pairs p q differs) h

-- a pair that comes back stands after all others
pub one_behind : (count : ℕ) (pairs : List ℕ) (p : ℕ) → AreFree count pairs → p < count → has pairs p ≡ false → AreFree count (pairs ++ p ∷ [])
one_behind count [] p free within out = (within, refl, tt)
one_behind count (q ∷ pairs) p free within out =
    let parts = first_differs (q == p) (has pairs p) out in
    (free.0, still_out pairs p q (turned q p parts.0) free.1, one_behind count pairs p free.2 within parts.1)

smaller_out : (p n count : ℕ) → p < n → has (numbers n count) p ≡ false
smaller_out p n zero h = refl
smaller_out p n (suc count) h =
    let differs : eqb n p ≡ false = ne_eqb n p (λ e. omega (arith, h, e)) in
    let later : has (numbers (suc n) count) p ≡ false = smaller_out p (suc n) count (omega (arith, h)) in
    rw differs later

numbers_within : (all n count : ℕ) → n + count ≤ all → AreFree all (numbers n count)
numbers_within all n zero h = tt
numbers_within all n (suc count) h =
    (omega (arith, h), smaller_out n (suc n) count (omega arith), numbers_within all (suc n) count (omega (arith, h)))

-- all pairs from one on are pairs, each once
pub all_numbers : (first count : ℕ) → AreFree (first + count) (numbers first count)
all_numbers first count = numbers_within (first + count) first count (omega arith)

pub all_later : (first n count : ℕ) → first ≤ n → AreFrom first (numbers n count)
all_later first n zero h = tt
all_later first n (suc count) h = (h, all_later first (suc n) count (omega (arith, h)))

numbers_from : (n count : ℕ) → numbers n (suc count) ≡ numbers n count ++ (n + count) ∷ []
numbers_from n zero = ap (λ m. m ∷ []) (let e : n ≡ n + 0 = omega arith in e)
numbers_from n (suc count) =
    ap (λ ps. n ∷ ps) (numbers_from (suc n) count ∙ ap (λ m. numbers (suc n) count ++ m ∷ []) (let e : suc n + count ≡ n + suc count = omega arith in e))

-- one number more, at the end
pub numbers_more : (first count : ℕ) → numbers first (count + 1) ≡ numbers first count ++ (first + count) ∷ []
numbers_more first count = ap (numbers first) (let e : count + 1 ≡ suc count = omega arith in e) ∙ numbers_from first count

pub length_numbers : (n count : ℕ) → length (numbers n count) ≡ count
length_numbers n zero = refl
length_numbers n (suc count) = ap suc (length_numbers (suc n) count)

pub numbers_split : (n count more : ℕ) → numbers n (count + more) ≡ numbers n count ++ numbers (n + count) more
numbers_split n zero more = ap (λ m. numbers n m) (let e : 0 + more ≡ more = omega arith in e) ∙ ap (λ m. numbers m more) (let e : n ≡ n + 0 = omega arith in e)
numbers_split n (suc count) more =
    ap (numbers n) (let e : suc count + more ≡ suc (count + more) = omega arith in e)
    ∙ ap (λ ps. n ∷ ps) (numbers_split (suc n) count more ∙ ap (λ m. numbers (suc n) count ++ numbers m more) (let e : suc n + count ≡ n + suc count = omega arith in e))
