-- Numbers as the grammar reads them, and as `clap` does.
use Rattle.std.proofs.Common.{◌≡◌, ◌∙◌, ◌≤◌, ◌<◌, ap, sym, ℕ, ◌+◌, ◌-◌, ◌*◌, ◌==◌, Bool, true, false, List, [], ◌∷◌, Option, Some, None, length, refl, subst, arith}
use Rattle.std.specs.Prelude.{◌&&◌, ◌||◌, fold, nat_le, nat_lt, if◌then◌else◌, unwrap_or}
use Rattle.std.specs.List.{list_all}
use Rattle.std.specs.Char.{digit_value}
use Rattle.std.specs.Int.{IsInRange}
use Rattle.std.specs.Str.Parse.{digits_value, digits_value_after, without_leading_plus}
use Rattle.std.proofs.lemmas.Bool.{leb-true, le-leb, lt-ltb, ltb-true, ne_eqb}
use Rattle.std.proofs.lemmas.Str.{digit_value_digit}
use Rattle.std.proofs.lemmas.Str.Parse.{digit_from_value}
use Rattle.clap.specs.ValueTests.{is_numeral, is_unsigned_in}
use Rattle.clap.proofs.WalkLemmas.{both}
use Rattle.sdp_text.specs.Pieces.{at_most, decimal_value, is_digit, is_filled, number}
use Rattle.command_line.specs.Grammar.{is_respelled}
use Rattle.command_line.specs.Numbers.{at_least, has_leading_zero, number_within}
use Rattle.command_line.specs.Words.{number_in}

in_range : (c : ℕ) → is_digit c ≡ true → IsInRange 48 57 c
in_range c e =
    let parts = both _ _ e in
    (leb-true _ _ parts.0, leb-true _ _ parts.1)

pub same_value : (n : ℕ) (ds : List ℕ) → list_all is_digit ds ≡ true → digits_value_after 10 n ds ≡ fold (λ m digit. 10 * m + (digit - 48)) n ds
same_value n [] all = refl
same_value n (d ∷ ds) all =
    let parts = both _ _ all in
    let digit = digit_value_digit d (in_range d parts.0) in
    let next : n * 10 + digit_value d ≡ 10 * n + (d - 48) = omega (arith, digit) in
    ap (λ (m : ℕ). digits_value_after 10 m ds) next ∙ same_value (10 * n + (d - 48)) ds parts.1

pub are_digits : (ds : List ℕ) → list_all is_digit ds ≡ true → list_all (λ d. nat_lt (digit_value d) 10) ds ≡ true
are_digits [] all = refl
are_digits (d ∷ ds) all =
    let parts = both _ _ all in
    let digit = digit_value_digit d (in_range d parts.0) in
    let range = in_range d parts.0 in
    rw (lt-ltb (digit_value d) 10 (omega (arith, digit, range.1))) (are_digits ds parts.1)

pub no_plus : (ds : List ℕ) → list_all is_digit ds ≡ true → without_leading_plus ds ≡ ds
no_plus [] all = refl
no_plus (d ∷ ds) all =
    let range = in_range d (both _ _ all).0 in
    let other : (d == 43) ≡ false = ne_eqb d 43 (λ e. omega (arith, e, range.0)) in
    rw other refl

-- what a number within the limits is
pub record IsWithin (least most n : ℕ) (text : List ℕ) : Type 0 where
  pub filled : is_filled text ≡ true
  pub digits : list_all is_digit text ≡ true
  pub value : decimal_value text ≡ n
  pub low : least ≤ n
  pub high : n ≤ most

pub injected : {X : Type 0} (p q : X) → Some p ≡ Some q → p ≡ q
injected p q e = ap (λ (o : Option _). unwrap_or o p) e

inner : (least most n : ℕ) (text : List ℕ) (filled digits : Bool) → is_filled text ≡ filled → list_all is_digit text ≡ digits
    → at_least least (at_most most (if filled && digits then Some (decimal_value text) else None)) ≡ Some n → IsWithin least most n text
inner least most n text true true f d e = upper (nat_le (decimal_value text) most) refl e
  where
    lower : nat_le (decimal_value text) most ≡ true → (c : Bool) → nat_le least (decimal_value text) ≡ c → (if c then Some (decimal_value text) else None) ≡ Some n → IsWithin least most n text
    lower high true low e =
        let same = injected (decimal_value text) n e in
        record { filled = f; digits = d; value = same; low = subst (λ (v : ℕ). least ≤ v) same (leb-true _ _ low); high = subst (λ (v : ℕ). v ≤ most) same (leb-true _ _ high) }
    lower high false low e = cc

    upper : (b : Bool) → nat_le (decimal_value text) most ≡ b → at_least least (if b then Some (decimal_value text) else None) ≡ Some n → IsWithin least most n text
    upper true high e = lower high (nat_le least (decimal_value text)) refl e
    upper false high e = cc
inner least most n text true false f d e = cc
inner least most n text false digits f d e = cc

pub is_within : (least most n : ℕ) (text : List ℕ) → number_within least most text ≡ Some n → IsWithin least most n text
is_within least most n text e = go (has_leading_zero text) refl e
  where
    go : (b : Bool) → has_leading_zero text ≡ b → at_least least (if b then None else at_most most (number text)) ≡ Some n → IsWithin least most n text
    go true is e = cc
    go false is e = inner least most n text (is_filled text) (list_all is_digit text) refl refl e

-- `clap` reads the same number
pub read_alike : (least most n : ℕ) (text : List ℕ) → most < 18446744073709551616 → number_within least most text ≡ Some n
    → (is_unsigned_in least most text ≡ true) × (number_in least most text ≡ Some n)
read_alike least most n text fits e =
    let w = is_within least most n text e in
    let bare = no_plus text w.digits in
    let value : digits_value 10 (without_leading_plus text) ≡ n = ap (λ (ds : List ℕ). digits_value 10 ds) bare ∙ same_value 0 text w.digits ∙ w.value in
    let numeral : is_numeral (without_leading_plus text) ≡ true = ap is_numeral bare ∙ rw (w.filled, are_digits text w.digits) refl in
    let test : is_unsigned_in least most text ≡ true = rw (numeral, value, lt-ltb n 18446744073709551616 (omega (arith, w.high, fits)), le-leb least n w.low, le-leb n most w.high) refl in
    (test, rw test (ap Some value))

filled_so : (d : ℕ) (ds : List ℕ) → is_filled (d ∷ ds) ≡ true
filled_so d ds = lt-ltb 0 (length (d ∷ ds)) (omega arith)

all_digits : (ds : List ℕ) → list_all (λ d. nat_lt (digit_value d) 10) ds ≡ true → list_all is_digit ds ≡ true
all_digits [] all = refl
all_digits (d ∷ ds) all =
    let parts = both _ _ all in
    let range = digit_from_value d (ltb-true _ _ parts.0) in
    rw (le-leb 48 d range.0, le-leb d 57 range.1) (all_digits ds parts.1)

-- a text that is no numeral
no_numeral : (least most : ℕ) (text : List ℕ) → is_numeral (without_leading_plus text) ≡ false → number_in least most text ≡ None
no_numeral least most text none = rw none refl

no_number : (least most : ℕ) (text : List ℕ) → number text ≡ None → number_within least most text ≡ None
no_number least most text none = go (has_leading_zero text) refl
  where
    go : (b : Bool) → has_leading_zero text ≡ b → number_within least most text ≡ None
    go true is = rw is refl
    go false is = rw (is, none) refl

-- digits of which the first is no zero, or one digit
same_limits : (least most : ℕ) (text : List ℕ) → most < 18446744073709551616 → is_filled text ≡ true → list_all is_digit text ≡ true → has_leading_zero text ≡ false
    → number_in least most text ≡ number_within least most text
same_limits least most text fits filled digits zero = go (nat_le least n) (nat_le n most) refl refl
  where
    n : ℕ
    n = decimal_value text

    value : digits_value 10 (without_leading_plus text) ≡ n
    value = ap (λ (ds : List ℕ). digits_value 10 ds) (no_plus text digits) ∙ same_value 0 text digits

    numeral : is_numeral (without_leading_plus text) ≡ true
    numeral = ap is_numeral (no_plus text digits) ∙ rw (filled, are_digits text digits) refl

    go : (low high : Bool) → nat_le least n ≡ low → nat_le n most ≡ high → number_in least most text ≡ number_within least most text
    go true true l h =
        let small : nat_lt n 18446744073709551616 ≡ true = lt-ltb n 18446744073709551616 (omega (arith, leb-true _ _ h, fits)) in
        rw (numeral, value, small, zero, filled, digits, h, l) refl
    go low false l h = small (nat_lt n 18446744073709551616) refl
      where
        small : (b : Bool) → nat_lt n 18446744073709551616 ≡ b → number_in least most text ≡ number_within least most text
        small true e = least_is low l
          where
            least_is : (c : Bool) → nat_le least n ≡ c → number_in least most text ≡ number_within least most text
            least_is true f = rw (numeral, value, e, zero, filled, digits, h, f) refl
            least_is false f = rw (numeral, value, e, zero, filled, digits, h, f) refl
        small false e = rw (numeral, value, e, zero, filled, digits, h) refl
    go false true l h =
        let small : nat_lt n 18446744073709551616 ≡ true = lt-ltb n 18446744073709551616 (omega (arith, leb-true _ _ h, fits)) in
        rw (numeral, value, small, zero, filled, digits, h, l) refl

-- `clap` reads the same number of each text that is none in another spelling
pub reads_same : (least most : ℕ) (text : List ℕ) → most < 18446744073709551616 → is_respelled text ≡ false → number_in least most text ≡ number_within least most text
reads_same least most [] fits plain = no_numeral least most [] refl ∙ sym (no_number least most [] refl)
reads_same least most (c ∷ rest) fits plain = go (list_all is_digit (c ∷ rest)) refl
  where
    -- neither a plus nor a zero stands before digits
    behind : (c == 43 || c == 48) ≡ true → (is_filled rest && list_all is_digit rest) ≡ false
    behind sign = rw sign at plain

    zero : (ds : List ℕ) → rest ≡ ds → list_all is_digit (c ∷ rest) ≡ true → (b : Bool) → has_leading_zero (c ∷ rest) ≡ b → has_leading_zero (c ∷ rest) ≡ false
    zero ds same digits false e = e
    zero [] same digits true e =
        let bad : false ≡ true = rw same at e in
        cc
    zero (d ∷ ds) same digits true e =
        let first : (c == 48) ≡ true = rw same at e in
        let sign : (c == 43 || c == 48) ≡ true = either (c == 43) first in
        let filled : is_filled rest ≡ true = ap is_filled same ∙ filled_so d ds in
        let digits_behind : list_all is_digit rest ≡ true = (both _ _ digits).1 in
        let bad : true ≡ false = rw (filled, digits_behind) at behind sign in
        cc
      where
        either : (b : Bool) → (c == 48) ≡ true → (b || c == 48) ≡ true
        either true f = refl
        either false f = f

    other : (b : Bool) → (c == 43) ≡ b → list_all is_digit (c ∷ rest) ≡ false → is_numeral (without_leading_plus (c ∷ rest)) ≡ false
    other true e none =
        let sign : (c == 43 || c == 48) ≡ true = rw e refl in
        rw e (no_digits rest (behind sign))
      where
        no_digits : (ds : List ℕ) → (is_filled ds && list_all is_digit ds) ≡ false → is_numeral ds ≡ false
        no_digits [] absent = refl
        no_digits (d ∷ ds) absent = go (is_numeral (d ∷ ds)) refl
          where
            go : (b : Bool) → is_numeral (d ∷ ds) ≡ b → is_numeral (d ∷ ds) ≡ false
            go false f = f
            go true f =
                let digits : list_all is_digit (d ∷ ds) ≡ true = all_digits (d ∷ ds) (both _ _ f).1 in
                let bad : true ≡ false = rw (filled_so d ds, digits) at absent in
                cc
    other false e none = rw e (go (is_numeral (c ∷ rest)) refl)
      where
        go : (b : Bool) → is_numeral (c ∷ rest) ≡ b → is_numeral (c ∷ rest) ≡ false
        go false f = f
        go true f =
            let bad : true ≡ false = sym (all_digits (c ∷ rest) (both _ _ f).1) ∙ none in
            cc

    go : (b : Bool) → list_all is_digit (c ∷ rest) ≡ b → number_in least most (c ∷ rest) ≡ number_within least most (c ∷ rest)
    go true e = same_limits least most (c ∷ rest) fits (filled_so c rest) e (zero rest refl e (has_leading_zero (c ∷ rest)) refl)
    go false e =
        let none : number (c ∷ rest) ≡ None = rw (filled_so c rest, e) refl in
        no_numeral least most (c ∷ rest) (other (c == 43) refl e) ∙ sym (no_number least most (c ∷ rest) none)
