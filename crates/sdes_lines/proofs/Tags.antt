-- The digits of a tag.
use Rattle.std.proofs.Common.{◌≡◌, ℕ, List, ◌++◌, length, get_or, take, drop, codes, refl, ap, ◌∙◌, sym, arith, inl, inr}
use Rattle.std.specs.Fmt.{decimal}
use Rattle.std.specs.List.{prefix_len}
use Rattle.std.specs.Char.{is_ascii_digit}
use Rattle.std.specs.Str.Parse.{AllDigits, digits_value}
use Rattle.std.proofs.lemmas.Fmt.{decimal_is_IsNumeral, decimal_digit, length-decimal-le, first_decimal, decimal-digits_value, digits_value-decimal}
use Rattle.std.proofs.lemmas.Bool.{cases_eq}
use Rattle.std.proofs.lemmas.List.{take_at, drop_at}
use Rattle.std.proofs.lemmas.Str.Parse.{digits_value_short}
use Rattle.sdes_lines.specs.CryptoLine.{IsTag}
use Rattle.sdes_lines.specs.LineParts.{IsTagNumeral}
use Rattle.sdes_lines.proofs.Digits.{own, prefix-append}

-- the decimal form of zero is one digit
zero_digit : (tag : ℕ) → tag ≡ 0 → length (decimal tag) ≡ 1
zero_digit tag none = ap length (decimal_digit tag (omega arith))

-- the decimal form of a tag
pub tag_numeral : (tag : ℕ) → IsTag tag → IsTagNumeral (decimal tag)
tag_numeral tag is_tag =
    let numeral = decimal_is_IsNumeral tag (omega arith) in record {
      some = numeral.0.0;
      short = length-decimal-le 9 tag (omega arith) (omega arith) (omega arith);
      no_leading_zero = λ long zero_first. elim (cases_eq tag 0) [
        | inl none ↦ (let short = zero_digit tag none in omega arith)
        | inr some ↦ (let first = first_decimal tag (omega arith) (omega arith) in omega arith)
      ];
    }

-- digits of that form write a tag, and are its decimal form
pub numeral_tag : (digits : List ℕ) → AllDigits 10 digits → IsTagNumeral digits
    → (digits ≡ decimal (digits_value 10 digits)) × IsTag (digits_value 10 digits)
numeral_tag digits all numeral =
    let below = digits_value_short own digits 9 all numeral.short in
    let first : get_or digits 0 0 ≡ 48 → length digits ≡ 1 = λ zero_first. elim (cases_eq (length digits) 1) [
      | inl one ↦ one
      | inr other ↦ absurd (let some = numeral.some in numeral.no_leading_zero (omega arith) zero_first)
    ] in
    (sym (decimal-digits_value own digits all numeral.some first (omega arith)), omega arith)

-- and the decimal form of a tag writes that tag
pub tag_value : (digits : List ℕ) (tag : ℕ) → IsTag tag → digits ≡ decimal tag → digits_value 10 digits ≡ tag
tag_value digits tag is_tag is = rw is (digits_value-decimal own tag (omega arith))

-- the digits at the front of a text that begins with a tag and a space
pub record HasTagInFront (text : List ℕ) (n tag : ℕ) (rest : List ℕ) : Type 0 where
  pub digits : take n text ≡ decimal tag
  pub rest_is : drop n text ≡ codes " " ++ rest

pub tag_in_front : (text : List ℕ) (n tag : ℕ) (rest : List ℕ) → n ≡ prefix_len is_ascii_digit text → IsTag tag
    → text ≡ decimal tag ++ (codes " " ++ rest) → HasTagInFront text n tag rest
tag_in_front text n tag rest count is_tag is =
    let numeral = decimal_is_IsNumeral tag (omega arith) in
    let front = prefix-append (decimal tag) (codes " " ++ rest) numeral.0.1 refl in
    let size : length (decimal tag) ≡ n = sym front ∙ sym (ap (prefix_len is_ascii_digit) is) ∙ sym count in record {
      digits = rw is (take_at (decimal tag) (codes " " ++ rest) n size);
      rest_is = rw is (drop_at (decimal tag) (codes " " ++ rest) n size);
    }
