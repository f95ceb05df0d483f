-- The numbers of a place run from 0, where each number below one that stands there stands there too.
use Rattle.std.proofs.Common.{◌≡◌, sym, refl, ℕ, zero, suc, ◌+◌, ◌<◌, ◌≤◌, ◌⊎◌, inl, inr, List, [], ◌∷◌, Bool, true, false, cond, length, filter, ◌==◌, arith}
use Rattle.std.specs.Prelude.{◌&&◌, nat_lt, count_by}
use Rattle.std.proofs.lemmas.List.Sums.{length-filter}
use Rattle.histories.specs.Words.{In}
use Rattle.histories.proofs.Lists.{keeps, equal}
use Rattle.relay_core.specs.Entries.{Entry, is_at}
use Rattle.relay_core.proofs.Histories.{both, and_true, at_place, is_there}
use Rattle.relay_core.proofs.Boards.{lt_or_eq}
use Rattle.relay_core.proofs.Holders.{less, is_less}

-- Two tests that don't both pass, and where either passes a third does: the third passes at least as often as both together.
parts_case : {A : Type 0} (p q r : A → Bool) (x : A) (xs : List A) → (p x ≡ true → r x ≡ true) → (q x ≡ true → r x ≡ true) → (p x ≡ true → q x ≡ true → ⊥)
    → length (filter p xs) + length (filter q xs) ≤ length (filter r xs)
    → (a b c : Bool) → p x ≡ a → q x ≡ b → r x ≡ c
    → length (cond a (x ∷ filter p xs) (filter p xs)) + length (cond b (x ∷ filter q xs) (filter q xs)) ≤ length (cond c (x ∷ filter r xs) (filter r xs))
parts_case p q r x xs f g apart rest true true c h k m = absurd (apart h k)
parts_case p q r x xs f g apart rest true false true h k m = omega (arith, rest)
parts_case p q r x xs f g apart rest true false false h k m = absurd (let t = f h in cc)
parts_case p q r x xs f g apart rest false true true h k m = omega (arith, rest)
parts_case p q r x xs f g apart rest false true false h k m = absurd (let t = g k in cc)
parts_case p q r x xs f g apart rest false false true h k m = omega (arith, rest)
parts_case p q r x xs f g apart rest false false false h k m = rest

pub parts_fit : {A : Type 0} (p q r : A → Bool) (xs : List A) → ((x : A) → p x ≡ true → r x ≡ true) → ((x : A) → q x ≡ true → r x ≡ true)
    → ((x : A) → p x ≡ true → q x ≡ true → ⊥) → length (filter p xs) + length (filter q xs) ≤ length (filter r xs)
parts_fit p q r [] f g apart = omega arith
parts_fit p q r (x ∷ xs) f g apart =
    parts_case p q r x xs (f x) (g x) (apart x) (parts_fit p q r xs f g apart) (p x) (q x) (r x) refl refl refl

one_in : {A : Type 0} {x : A} (xs : List A) → In x xs → 1 ≤ length xs
one_in [] i = elim i [ ]
one_in (y ∷ ys) i = omega arith

-- an entry with that number stands at the place
pub record Stands (l : List Entry) (place number : ℕ) : Type 0 where
  pub entry : Entry
  pub is_in : In entry l
  pub at : entry.place ≡ place
  pub number_is : entry.number ≡ number

-- the entries of a place with numbers below n
abbrev pub is_low : ℕ → ℕ → Entry → Bool
is_low place n e = (e.place == place) && nat_lt e.number n

low_more : (place n : ℕ) (e : Entry) → is_low place n e ≡ true → is_low place (suc n) e ≡ true
low_more place n e h =
    let c = both (e.place == place) (nat_lt e.number n) h in
    and_true (e.place == place) (nat_lt e.number (suc n)) c.0 (is_less e.number (suc n) (let k = less e.number n c.1 in omega (arith, k)))

at_low : (place n : ℕ) (e : Entry) → is_at place n e ≡ true → is_low place (suc n) e ≡ true
at_low place n e h =
    let c = at_place place n e h in
    and_true (e.place == place) (nat_lt e.number (suc n)) (equal e.place place c.0) (is_less e.number (suc n) (let k = c.1 in omega (arith, k)))

low_not_at : (place n : ℕ) (e : Entry) → is_low place n e ≡ true → is_at place n e ≡ true → ⊥
low_not_at place n e h k =
    let c = both (e.place == place) (nat_lt e.number n) h in
    let d = at_place place n e k in
    let m = less e.number n c.1 in
    let q = d.1 in
    omega (arith, m, q)

-- where each number below n stands, there are n entries with such numbers
low_all : (l : List Entry) (place n : ℕ) → ((i : ℕ) → i < n → Stands l place i) → n ≤ length (filter (is_low place n) l)
low_all l place zero stands = omega arith
low_all l place (suc n) stands =
    let rest : n ≤ length (filter (is_low place n) l) = low_all l place n (λ i k. stands i (omega (arith, k))) in
    let s = stands n (omega arith) in
    let one : 1 ≤ length (filter (is_at place n) l) = one_in (filter (is_at place n) l)
    (keeps (is_at place n) l s.is_in (is_there place n s.entry s.at s.number_is)) in
    let fits : length (filter (is_low place n) l) + length (filter (is_at place n) l) ≤ length (filter (is_low place (suc n)) l) =
    parts_fit (is_low place n) (is_at place n) (is_low place (suc n)) l (low_more place n) (at_low place n) (low_not_at place n) in
    omega (arith, rest, one, fits)

low_count : (l : List Entry) (place n : ℕ) → length (filter (is_low place n) l) ≤ count_by (λ (f : Entry). f.place == place) l
low_count l place n =
    let fits : length (filter (is_low place n) l) + length (filter (λ (f : Entry). false) l) ≤ length (filter (λ (f : Entry). f.place == place) l) =
    parts_fit (is_low place n) (λ (f : Entry). false) (λ (f : Entry). f.place == place) l
    (λ e h. (both (e.place == place) (nat_lt e.number n) h).0) (λ e h. absurd (let k = h in cc)) (λ e h k. absurd (let z = k in cc)) in
    let count : length (filter (λ (f : Entry). f.place == place) l) ≡ count_by (λ (f : Entry). f.place == place) l = length-filter (λ (f : Entry). f.place == place) l in
    omega (arith, fits, count)

-- the numbers of each place run from 0, where below an entry no number of its place is left out
pub counted_if : (l : List Entry) → ((e : Entry) → In e l → (i : ℕ) → i < e.number → Stands l e.place i)
    → (e : Entry) → In e l → e.number < count_by (λ (f : Entry). f.place == e.place) l
counted_if l stands e i =
    let all : suc e.number ≤ length (filter (is_low e.place (suc e.number)) l) = low_all l e.place (suc e.number) all_stand in
    let count = low_count l e.place (suc e.number) in
    omega (arith, all, count)
  where
    stands_case : (n : ℕ) → (n < e.number) ⊎ (n ≡ e.number) → Stands l e.place n
    stands_case n (inl k) = stands e i n k
    stands_case n (inr q) = record { entry = e; is_in = i; at = refl; number_is = sym q }

    all_stand : (n : ℕ) → n < suc e.number → Stands l e.place n
    all_stand n k = stands_case n (lt_or_eq n e.number k)
