-- What follows the key of a line.
use Rattle.std.proofs.Common.{◌≡◌, ◌≢◌, ℕ, zero, suc, ◌<◌, List, [], ◌∷◌, ◌++◌, length, get_or, take, drop, replicate, codes, refl, ap, ◌∙◌, sym, arith, inl, inr, append_assoc}
use Rattle.std.proofs.lemmas.List.{take-append-drop, take_at, drop_at, append_cancel_left}
use Rattle.std.proofs.lemmas.List.Elements.{All-replicate, All-head, All-tail}
use Rattle.std.specs.List.{All, prefix_len}
use Rattle.std.specs.Char.{is_ascii_digit}
use Rattle.std.proofs.lemmas.Str.Parse.{digit_from_value}
use Rattle.std.specs.Str.Parse.{AllDigits}
use Rattle.sdes_lines.specs.CryptoLine.{IsLineEnd}
use Rattle.sdes_lines.specs.LineParts.{IsNumberThenSpaces}
use Rattle.sdes_lines.proofs.Digits.{front_digits, prefix-append}

-- spaces alone, as a repeated space
pub spaces_are : (xs : List ℕ) → All (λ byte. byte ≡ 32) xs → xs ≡ replicate (length xs) 32
spaces_are [] all = refl
spaces_are (x ∷ xs) all =
    let one = All-head (λ byte. byte ≡ 32) x xs all in
    let rest = spaces_are xs (All-tail (λ byte. byte ≡ 32) x xs all) in
    cc

pub spaces_all : (n : ℕ) (xs : List ℕ) → xs ≡ replicate n 32 → All (λ byte. byte ≡ 32) xs
spaces_all n xs e = rw e (All-replicate (λ byte. byte ≡ 32) n 32 refl)

no_digit_in_spaces : (n : ℕ) → prefix_len is_ascii_digit (replicate n 32) ≡ 0
no_digit_in_spaces zero = refl
no_digit_in_spaces (suc n) = refl

-- spaces alone end a line
pub spaces_end : (xs : List ℕ) → All (λ byte. byte ≡ 32) xs → IsLineEnd xs
spaces_end xs all = record { lifetime = []; spaces = length xs; is_lifetime = inl refl; text_is = spaces_are xs all }

-- a line that no bar ends, ends in spaces alone
pub end_is_spaces : (xs : List ℕ) → ((rest : List ℕ) → xs ≢ codes "|" ++ rest) → IsLineEnd xs → All (λ byte. byte ≡ 32) xs
end_is_spaces xs no_bar end =
    elim end.is_lifetime [
      | inl none ↦ spaces_all end.spaces xs (end.text_is ∙ ap (λ l. l ++ replicate end.spaces 32) none)
      | inr some ↦ elim some [
        | inl packets ↦ absurd (no_bar (packets.digits ++ replicate end.spaces 32)
            (end.text_is ∙ ap (λ l. l ++ replicate end.spaces 32) packets.text_is ∙ append_assoc (codes "|") packets.digits (replicate end.spaces 32)))
        | inr power ↦ absurd (no_bar (codes "2^" ++ (power.digits ++ replicate end.spaces 32))
            (end.text_is ∙ ap (λ l. l ++ replicate end.spaces 32) power.text_is ∙ append_assoc (codes "|2^") power.digits (replicate end.spaces 32)))
      ]
    ]

-- after the bar, a number and spaces end a line
pub packets_end : (text : List ℕ) → IsNumberThenSpaces text → IsLineEnd (codes "|" ++ text)
packets_end text number = record {
  lifetime = codes "|" ++ number.digits;
  spaces = number.spaces;
  is_lifetime = inr (inl (record { digits = number.digits; is_numeral = number.is_numeral; text_is = refl }));
  text_is = ap (λ l. codes "|" ++ l) number.text_is ∙ sym (append_assoc (codes "|") number.digits (replicate number.spaces 32));
}

-- and so do a power of two and spaces
pub power_end : (text rest : List ℕ) → text ≡ codes "2^" ++ rest → IsNumberThenSpaces rest → IsLineEnd (codes "|" ++ text)
power_end text rest is number = record {
  lifetime = codes "|2^" ++ number.digits;
  spaces = number.spaces;
  is_lifetime = inr (inr (record { digits = number.digits; is_numeral = number.is_numeral; text_is = refl }));
  text_is = ap (λ l. codes "|" ++ l) (is ∙ ap (λ l. codes "2^" ++ l) number.text_is) ∙ sym (append_assoc (codes "|2^") number.digits (replicate number.spaces 32));
}

-- a bar is no space
bar_no_space : (n : ℕ) (text : List ℕ) → codes "|" ++ text ≡ replicate n 32 → ⊥
bar_no_space zero text e = cc
bar_no_space (suc n) text e = let first : ◌≡◌ {A = ℕ} 124 32 = ap (λ (l : List ℕ). get_or l 0 0) e in omega arith

-- after the bar, what no power of two begins is a number and spaces
pub end_is_packets : (text : List ℕ) → ((rest : List ℕ) → text ≢ codes "2^" ++ rest) → IsLineEnd (codes "|" ++ text) → IsNumberThenSpaces text
end_is_packets text no_power end =
    elim end.is_lifetime [
      | inl none ↦ absurd (bar_no_space end.spaces text (end.text_is ∙ ap (λ l. l ++ replicate end.spaces 32) none))
      | inr some ↦ elim some [
        | inl packets ↦ record {
          digits = packets.digits;
          spaces = end.spaces;
          is_numeral = packets.is_numeral;
          text_is = append_cancel_left (codes "|") text (packets.digits ++ replicate end.spaces 32)
              (end.text_is ∙ ap (λ l. l ++ replicate end.spaces 32) packets.text_is ∙ append_assoc (codes "|") packets.digits (replicate end.spaces 32));
        }
        | inr power ↦ absurd (no_power (power.digits ++ replicate end.spaces 32)
            (append_cancel_left (codes "|") text (codes "2^" ++ (power.digits ++ replicate end.spaces 32))
            (end.text_is ∙ ap (λ l. l ++ replicate end.spaces 32) power.text_is ∙ append_assoc (codes "|2^") power.digits (replicate end.spaces 32))))
      ]
    ]

-- a caret is neither a digit nor a space
caret_no_number : (digits rest : List ℕ) (n : ℕ) → AllDigits 10 digits → 0 < length digits → digits ++ replicate n 32 ≡ codes "2^" ++ rest → ⊥
caret_no_number [] rest n all some e = absurd (omega arith)
caret_no_number (a ∷ []) rest zero all some e = let second : ◌≡◌ {A = ℕ} 0 94 = ap (λ (l : List ℕ). get_or l 1 0) e in omega arith
caret_no_number (a ∷ []) rest (suc n) all some e = let second : ◌≡◌ {A = ℕ} 32 94 = ap (λ (l : List ℕ). get_or l 1 0) e in omega arith
caret_no_number (a ∷ b ∷ more) rest n all some e =
    let second : b ≡ 94 = ap (λ (l : List ℕ). get_or l 1 0) e in
    let digit = digit_from_value b all.1.0 in
    omega arith

-- after the bar, a power of two ends the line where its exponent and spaces do
pub end_is_power : (text rest : List ℕ) → text ≡ codes "2^" ++ rest → IsLineEnd (codes "|" ++ text) → IsNumberThenSpaces rest
end_is_power text rest is end =
    elim end.is_lifetime [
      | inl none ↦ absurd (bar_no_space end.spaces text (end.text_is ∙ ap (λ l. l ++ replicate end.spaces 32) none))
      | inr some ↦ elim some [
        | inl packets ↦ absurd (caret_no_number packets.digits rest end.spaces packets.is_numeral.1 packets.is_numeral.0
            (sym (append_cancel_left (codes "|") text (packets.digits ++ replicate end.spaces 32)
            (end.text_is ∙ ap (λ l. l ++ replicate end.spaces 32) packets.text_is ∙ append_assoc (codes "|") packets.digits (replicate end.spaces 32))) ∙ is))
        | inr power ↦ record {
          digits = power.digits;
          spaces = end.spaces;
          is_numeral = power.is_numeral;
          text_is = append_cancel_left (codes "|2^") rest (power.digits ++ replicate end.spaces 32)
              (sym (ap (λ l. codes "|" ++ l) is) ∙ end.text_is ∙ ap (λ l. l ++ replicate end.spaces 32) power.text_is ∙ append_assoc (codes "|2^") power.digits (replicate end.spaces 32));
        }
      ]
    ]

-- the digits at the front of a text, one or more, and the spaces after them
pub number_from_parts : (text : List ℕ) (n : ℕ) → n ≡ prefix_len is_ascii_digit text → 0 < length (take n text)
    → All (λ byte. byte ≡ 32) (drop n text) → IsNumberThenSpaces text
number_from_parts text n is some spaces = record {
  digits = take n text;
  spaces = length (drop n text);
  is_numeral = (some, rw is (front_digits text));
  text_is = sym (take-append-drop n text) ∙ ap (λ l. take n text ++ l) (spaces_are (drop n text) spaces);
}

-- and such a text has these parts
pub record HasNumberInFront (text : List ℕ) (n : ℕ) : Type 0 where
  pub some : 0 < length (take n text)
  pub spaces : All (λ byte. byte ≡ 32) (drop n text)

pub parts_of_number : (text : List ℕ) (n : ℕ) → n ≡ prefix_len is_ascii_digit text → IsNumberThenSpaces text → HasNumberInFront text n
parts_of_number text n is number =
    let digits : List ℕ = number.digits in
    let front = prefix-append digits (replicate number.spaces 32) number.is_numeral.1 (no_digit_in_spaces number.spaces) in
    let count : length digits ≡ n = sym front ∙ sym (ap (prefix_len is_ascii_digit) number.text_is) ∙ sym is in
    let digits_at : take n text ≡ digits = rw number.text_is (take_at digits (replicate number.spaces 32) n count) in
    let spaces_at : drop n text ≡ replicate number.spaces 32 = rw number.text_is (drop_at digits (replicate number.spaces 32) n count) in
    record { some = rw digits_at number.is_numeral.0; spaces = spaces_all number.spaces (drop n text) spaces_at }
