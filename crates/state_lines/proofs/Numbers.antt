-- Numbers in decimal, of up to 64 digits.
use Rattle.std.proofs.Common.{◌≡◌, ℕ, List, [], ◌∷◌, ◌+◌, ◌/◌, ◌%◌, ◌<◌, ◌^◌, Bool, true, false, ◌==◌, zero, suc, length, get_or, decimal, refl, sym, ◌∙◌, ap, arith}
use Rattle.std.specs.Bool.{OnFalse}
use Rattle.std.specs.Char.{is_ascii_digit}
use Rattle.std.specs.List.{list_all}
use Rattle.std.specs.Str.Parse.{digits_value}
use Rattle.std.proofs.lemmas.Fmt.{decimal_is_IsNumeral_wide, decimal_by_steps_wide}
use Rattle.std.proofs.lemmas.List.{length-append, get_or_append_left}
use Rattle.std.proofs.lemmas.List.Folds.{list_all-append}
use Rattle.state_lines.specs.StateLines.{length_line}
use Rattle.state_lines.proofs.ByteLists.{same_behind}

pub false_true : false ≡ true → ⊥
false_true e = cc e

pub same_decimal : (m n : ℕ) → m < 10 ^ 64 → n < 10 ^ 64 → decimal m ≡ decimal n → m ≡ n
same_decimal m n low small e = sym (decimal_is_IsNumeral_wide m low).1 ∙ ap (digits_value 10) e ∙ (decimal_is_IsNumeral_wide n small).1

pub same_length_line : (m n : ℕ) → m < 10 ^ 64 → n < 10 ^ 64 → length_line m ≡ length_line n → m ≡ n
same_length_line m n low small e = same_decimal m n low small (same_behind (118 ∷ 97 ∷ 108 ∷ 117 ∷ 101 ∷ 32 ∷ []) (decimal m) (decimal n) e)

-- how the digits of a number look
pub record IsPlain (n : ℕ) (digits : List ℕ) : Type 0 where
  pub all : list_all is_ascii_digit digits ≡ true
  pub some : 0 < length digits
  pub first : 0 < n → 48 < get_or digits 0 0
  pub alone : n ≡ 0 → length digits ≡ 1

one_digit : (n : ℕ) → n < 10 → is_ascii_digit (48 + n) ≡ true
one_digit n small = grind arith

pub decimal_plain : (n : ℕ) → n < 10 ^ 64 → IsPlain n (decimal n)
decimal_plain = decimal_by_steps_wide IsPlain
    (λ n small. record { all = let e = one_digit n small in rw e refl; some = omega arith; first = λ some. omega arith; alone = λ none. refl })
    (λ n digits high plain. record {
      all = let e = one_digit (n % 10) (omega arith) in list_all-append is_ascii_digit digits ((48 + n % 10) ∷ []) ∙ rw (plain.all, e) refl;
      some = omega (arith, length-append digits ((48 + n % 10) ∷ []));
      first = λ some.
          let before : 0 < n / 10 = omega arith in
          let same = get_or_append_left digits ((48 + n % 10) ∷ []) 0 0 plain.some in
          omega (arith, same, plain.first before);
      alone = λ none. absurd (omega (arith, none, high));
    })

-- a text that begins with a 0, though not as its only digit, is no number; nor is an empty one, nor one with another byte
pub no_number_empty : (digits : List ℕ) → length digits ≡ 0 → (n : ℕ) → n < 10 ^ 64 → digits ≡ decimal n → ⊥
no_number_empty digits none n small e = omega (arith, (decimal_plain n small).some, ap length e, none)

pub no_number_zero : (digits : List ℕ) → get_or digits 0 0 ≡ 48 → 1 < length digits → (n : ℕ) → n < 10 ^ 64 → digits ≡ decimal n → ⊥
no_number_zero digits first more zero small e = omega (arith, (decimal_plain zero small).alone refl, ap length e, more)
no_number_zero digits first more (suc n) small e =
    let same : get_or digits 0 0 ≡ get_or (decimal (suc n)) 0 0 = ap (λ (d : List ℕ). get_or d 0 0) e in
    omega (arith, (decimal_plain (suc n) small).first (omega arith), same, first)

pub no_number_other : (digits : List ℕ) → list_all is_ascii_digit digits ≡ false → (n : ℕ) → n < 10 ^ 64 → digits ≡ decimal n → ⊥
no_number_other digits bad n small e =
    let good : list_all is_ascii_digit digits ≡ true = ap (list_all is_ascii_digit) e ∙ (decimal_plain n small).all in
    cc (sym good ∙ bad)

pub alone_or_none : (digits : List ℕ) (r : Bool) → r ≡ (length digits == 1) → 0 < length digits → get_or digits 0 0 ≡ 48 → OnFalse r ((n : ℕ) → n < 10 ^ 64 → digits ≡ decimal n → ⊥)
alone_or_none digits true is some first = tt
alone_or_none digits false is some first =
    let more : 1 < length digits = grind arith in
    no_number_zero digits first more

pub digits_or_none : (digits : List ℕ) (r : Bool) → r ≡ list_all is_ascii_digit digits → OnFalse r ((n : ℕ) → n < 10 ^ 64 → digits ≡ decimal n → ⊥)
digits_or_none digits true is = tt
digits_or_none digits false is = no_number_other digits (sym is)

pub some_or_none : (xs : List ℕ) (b : Bool) → b ≡ (length xs == 0) → b ≡ false → 0 < length xs
some_or_none [] b log is = cc (sym log ∙ is)
some_or_none (x ∷ xs) b log is = omega arith
