-- The digits at the front of a text.
use Rattle.std.proofs.Common.{◌≡◌, ℕ, suc, ◌+◌, ◌<◌, ◌≤◌, true, List, [], ◌∷◌, ◌++◌, length, take, get_or, ◌*◌, ap, ◌∙◌, arith, inl, inr}
use Rattle.std.proofs.lemmas.Bool.{cases_Bool, and_parts, and_from, leb-true, le-leb}
use Rattle.std.proofs.lemmas.Str.Parse.{digit_from_value, digit_at, digits_value-take-le, digits_value_short, IsNumeralModel, numerals_by_value, tells_digits}
use Rattle.std.proofs.lemmas.Str.{digit_value_digit}
use Rattle.std.proofs.lemmas.List.{length-take-le}
use Rattle.std.specs.List.{prefix_len, take_while}
use Rattle.std.specs.Char.{is_ascii_digit, digit_value}
use Rattle.std.proofs.lemmas.Int.Digits.{digits_value_more}
use Rattle.std.specs.Str.Parse.{AllDigits, digits_value}

-- std's own words for digits and their number
pub own : IsNumeralModel (AllDigits 10) (digits_value 10)
own = numerals_by_value (AllDigits 10) tells_digits

-- the test for a digit, both ways
digit_below : (c : ℕ) → is_ascii_digit c ≡ true → digit_value c < 10
digit_below c test =
    let parts = and_parts _ _ test in
    let low : 48 ≤ c = leb-true 48 c parts.0 in
    let high : c ≤ 57 = leb-true c 57 parts.1 in
    omega (arith, digit_value_digit c (low, high))

below_digit : (c : ℕ) → digit_value c < 10 → is_ascii_digit c ≡ true
below_digit c small =
    let within = digit_from_value c small in
    and_from _ _ (le-leb 48 c within.0) (le-leb c 57 within.1)

prefix_within : (xs : List ℕ) → prefix_len is_ascii_digit xs ≤ length xs
prefix_within [] = omega arith
prefix_within (x ∷ xs) =
    let rest = prefix_within xs in
    elim (cases_Bool (is_ascii_digit x)) [
      | inl digit ↦ rw digit (omega arith)
      | inr other ↦ rw other (omega arith)
    ]

pub count_is : (xs : List ℕ) → length (take_while is_ascii_digit xs) ≡ prefix_len is_ascii_digit xs
count_is xs = length-take-le _ xs (prefix_within xs)

pub front_digits : (xs : List ℕ) → AllDigits 10 (take (prefix_len is_ascii_digit xs) xs)
front_digits [] = tt
front_digits (x ∷ xs) =
    elim (cases_Bool (is_ascii_digit x)) [
      | inl digit ↦
          let one : 1 + prefix_len is_ascii_digit xs ≡ suc (prefix_len is_ascii_digit xs) = omega arith in
          rw (digit, one) (digit_below x digit, front_digits xs)
      | inr other ↦ rw other tt
    ]

-- digits, and then none: those are the digits at the front
pub prefix-append : (ds rest : List ℕ) → AllDigits 10 ds → prefix_len is_ascii_digit rest ≡ 0
    → prefix_len is_ascii_digit (ds ++ rest) ≡ length ds
prefix-append [] rest digits none = none
prefix-append (c ∷ cs) rest digits none =
    rw (below_digit c digits.0) (ap (λ n. 1 + n) (prefix-append cs rest digits.1 none) ∙ omega arith)

-- a digit of a list of digits, and the number that it writes
pub digit_number : (ds : List ℕ) (i : ℕ) → AllDigits 10 ds → i < length ds
    → (48 ≤ get_or ds i 0) × (digit_value (get_or ds i 0) + 48 ≡ get_or ds i 0) × (digit_value (get_or ds i 0) < 10)
digit_number ds i digits within =
    let range = digit_at ds i digits within in
    let value = digit_value_digit (get_or ds i 0) range in
    (range.0, value, omega arith)

-- the number that the first digits of at most nine write, and the digit after them
pub value_so_far : (ds : List ℕ) (i : ℕ) → AllDigits 10 ds → length ds ≤ 9 → i < length ds
    → digits_value 10 (take i ds) * 10 + digit_value (get_or ds i 0) < 1000000000
value_so_far ds i digits short within =
    let more = digits_value_more 10 ds i within in
    let below = digits_value-take-le 10 ds (i + 1) (omega arith) in
    let all = digits_value_short own ds 9 digits short in
    omega arith
