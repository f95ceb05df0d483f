-- Numbers in decimal: what writes one is read as that one alone.
use Rattle.std.proofs.Common.{◌≡◌, ◌≢◌, ℕ, ℤ, List, [], ◌∷◌, ◌++◌, ◌+◌, ◌-◌, ◌%◌, ◌<◌, ◌≤◌, ◌^◌, ◌==◌, suc, zero, not, true, false, length, take, drop, get_or, Some, None, refl, sym, ◌∙◌, ap, subst, arith, pos, negsuc, decimal, FitsSigned, add-one, append_assoc}
use Rattle.std.specs.Prelude.{position}
use Rattle.std.specs.List.{position_or_len}
use Rattle.std.specs.Int.{w64}
use Rattle.std.specs.Fmt.{signed_decimal}
use Rattle.std.specs.Str.{IsUtf8, IsAscii}
use Rattle.std.proofs.lemmas.Fmt.{IsAscii-decimal, IsAscii-signed, decimal_by_steps, decimal_injective, signed_decimal_injective}
use Rattle.std.proofs.lemmas.Str.{IsUtf8-from_ascii}
use Rattle.std.proofs.lemmas.Bool.{eqb-true, eqb-false, eq-eqb, lt-ltb}
use Rattle.std.proofs.lemmas.List.Quantifiers.{position-Some}
use Rattle.std.proofs.Math.Seq.{split_at, get_or-append_seam}
use Rattle.std.proofs.lemmas.List.{length-append}
use Rattle.std.proofs.lemmas.List.Sums.{prefix_len_passes}
use Rattle.std.proofs.lemmas.Grind.{common_steps}
use Rattle.ng_bencode.specs.Fits.{IsFreeOf}
use Rattle.ng_bencode.specs.Spells.{string}

-- ---- the first place of a byte

-- two texts with a stop after a front that is free of it have the same front
pub same_front : (stop : ℕ) (a b x y : List ℕ) → IsFreeOf stop a → IsFreeOf stop b → a ++ stop ∷ x ≡ b ++ stop ∷ y → (a ≡ b) × (x ≡ y)
same_front stop [] [] x y free other e = (refl, cc)
same_front stop [] (c ∷ b) x y free other e = let hit : stop ≡ c = cc in absurd (other.0 (sym hit))
same_front stop (c ∷ a) [] x y free other e = let hit : c ≡ stop = cc in absurd (free.0 hit)
same_front stop (c ∷ a) (d ∷ b) x y free other e =
    let head : c ≡ d = cc in
    let rest : a ++ stop ∷ x ≡ b ++ stop ∷ y = cc in
    let same = same_front stop a b x y free.1 other.1 rest in
    (rw (head, same.0) refl, same.1)

pub free_append : (stop : ℕ) (a b : List ℕ) → IsFreeOf stop a → IsFreeOf stop b → IsFreeOf stop (a ++ b)
free_append stop [] b free other = other
free_append stop (c ∷ a) b free other = (free.0, free_append stop a b free.1 other)

pub free_take : (stop : ℕ) (bytes : List ℕ) (at : ℕ) → ((k : ℕ) → k < at → get_or bytes k 0 ≢ stop) → at ≤ length bytes → IsFreeOf stop (take at bytes)
free_take stop bytes zero no_stop low = tt
free_take stop [] (suc at) no_stop low = absurd (omega arith)
free_take stop (c ∷ bytes) (suc at) no_stop low =
    (no_stop 0 (omega arith), free_take stop bytes at (λ k below. no_stop (suc k) (omega arith)) (omega arith))

pub false_true : false ≡ true → ⊥
false_true e = cc

-- a stop somewhere is a first stop
early : (stop : ℕ) (front rest : List ℕ) → position_or_len (λ byte. byte == stop) (front ++ stop ∷ rest) < length (front ++ stop ∷ rest)
early stop front rest =
    let passes : length front < position_or_len (λ byte. byte == stop) (front ++ stop ∷ rest) → ⊥ =
    λ past. false_true (sym (ap not (eq-eqb _ _ (get_or-append_seam front stop rest 0))) ∙ prefix_len_passes (λ byte. not (byte == stop)) (front ++ stop ∷ rest) (length front) 0 past)
    in
    omega (arith, passes, length-append front (stop ∷ rest))

pub present : (stop : ℕ) (front rest : List ℕ) → position (λ byte. byte == stop) (front ++ stop ∷ rest) ≢ None
present stop front rest e =
    let found = lt-ltb _ _ (early stop front rest) in
    let there : position (λ byte. byte == stop) (front ++ stop ∷ rest) ≡ Some (position_or_len (λ byte. byte == stop) (front ++ stop ∷ rest)) = rw (found) refl in
    cc

pub first_free : (stop : ℕ) (bytes : List ℕ) (at : ℕ) → position (λ byte. byte == stop) bytes ≡ Some at → IsFreeOf stop (take at bytes)
first_free stop bytes at e =
    let known = position-Some (λ byte. byte == stop) bytes at 0 e in
    free_take stop bytes at (λ k below. eqb-false _ _ (known.2 k below)) (omega (arith, known.0))

pub rest_all : (n : ℕ) (bytes : List ℕ) → take (length bytes - n) (drop n bytes) ≡ drop n bytes
rest_all n bytes = grind (arith, common_steps)

pub parted : (stop : ℕ) (bytes : List ℕ) (at : ℕ) → position (λ byte. byte == stop) bytes ≡ Some at → bytes ≡ take at bytes ++ stop ∷ take (length bytes - (at + 1)) (drop (at + 1) bytes)
parted stop bytes at e =
    let known = position-Some (λ byte. byte == stop) bytes at 0 e in
    let below : at < length bytes = known.0 in
    rw (rest_all (at + 1) bytes) (split_at bytes at 0 below ∙ rw (add-one, eqb-true _ _ known.1))

-- ---- what decimal numbers are made of

-- digits alone
free_digits : (stop : ℕ) → 57 < stop → (n : ℕ) → n < 2 ^ 64 → IsFreeOf stop (decimal n)
free_digits stop high = decimal_by_steps (λ n digits. IsFreeOf stop digits)
    (λ n low. ((λ e. omega arith), tt))
    (λ n digits much free. free_append stop digits ((48 + n % 10) ∷ []) free ((λ e. omega arith), tt))

pub free_decimal : (stop n : ℕ) → 57 < stop → n < 2 ^ 64 → IsFreeOf stop (decimal n)
free_decimal stop n high small = free_digits stop high n small

pub free_signed : (z : ℤ) → FitsSigned w64 z → IsFreeOf 101 (signed_decimal z)
free_signed (pos n) fits = free_decimal 101 n (omega arith) (omega (arith, fits.sfits))
free_signed (negsuc n) fits = ((λ e. omega arith), free_decimal 101 (suc n) (omega arith) (omega (arith, fits.sfits)))

-- a first byte, a digit
pub record DigitFirst (digits : List ℕ) : Type 0 where
  pub head : ℕ
  pub tail : List ℕ
  pub parts : digits ≡ head ∷ tail
  pub low : head ≤ 57

digit_first_append : (digits more : List ℕ) → DigitFirst digits → DigitFirst (digits ++ more)
digit_first_append digits more first = record { head = first.head; tail = first.tail ++ more; parts = rw (first.parts); low = first.low }

pub decimal_first : (n : ℕ) → n < 2 ^ 64 → DigitFirst (decimal n)
decimal_first = decimal_by_steps (λ n digits. DigitFirst digits)
    (λ n low. record { head = 48 + n; tail = []; parts = refl; low = omega arith })
    (λ n digits much first. digit_first_append digits _ first)

-- ---- decimal numbers as texts

pub decimal_is_text : (n : ℕ) (bytes : List ℕ) → n < 2 ^ 64 → bytes ≡ decimal n → IsUtf8 bytes
decimal_is_text n bytes small e = IsUtf8-from_ascii bytes (subst IsAscii (sym e) (IsAscii-decimal n small))

pub signed_is_text : (z : ℤ) (bytes : List ℕ) → FitsSigned w64 z → bytes ≡ signed_decimal z → IsUtf8 bytes
signed_is_text z bytes fits e = IsUtf8-from_ascii bytes (subst IsAscii (sym e) (IsAscii-signed z (fits.sfits)))

-- ---- one reading

pub same_length : (m n : ℕ) (x y : List ℕ) → m < 2 ^ 64 → n < 2 ^ 64 → decimal m ++ 58 ∷ x ≡ decimal n ++ 58 ∷ y → (m ≡ n) × (x ≡ y)
same_length m n x y low small e =
    let same = same_front 58 (decimal m) (decimal n) x y (free_decimal 58 m (omega arith) low) (free_decimal 58 n (omega arith) small) e in
    (decimal_injective m n low small same.0, same.1)

pub same_int : (m n : ℤ) (x y : List ℕ) → FitsSigned w64 m → FitsSigned w64 n → signed_decimal m ++ 101 ∷ x ≡ signed_decimal n ++ 101 ∷ y → (m ≡ n) × (x ≡ y)
same_int m n x y low small e =
    let same = same_front 101 (signed_decimal m) (signed_decimal n) x y (free_signed m low) (free_signed n small) e in
    (signed_decimal_injective m n (low.sfits) (small.sfits) same.0, same.1)

-- the bytes of a byte string, and what follows it
pub open_string : (text rest : List ℕ) → string text ++ rest ≡ decimal (length text) ++ 58 ∷ (text ++ rest)
open_string text rest = append_assoc (decimal (length text)) (58 ∷ text) rest

same_split : (a b x y : List ℕ) → length a ≡ length b → a ++ x ≡ b ++ y → (a ≡ b) × (x ≡ y)
same_split [] [] x y len e = (refl, e)
same_split [] (d ∷ b) x y len e = absurd (omega (arith, len))
same_split (c ∷ a) [] x y len e = absurd (omega (arith, len))
same_split (c ∷ a) (d ∷ b) x y len e =
    let head : c ≡ d = cc in
    let rest : a ++ x ≡ b ++ y = cc in
    let same = same_split a b x y (omega (arith, len)) rest in
    (rw (head, same.0) refl, same.1)

pub same_string : (a b x y : List ℕ) → length a < 2 ^ 64 → length b < 2 ^ 64 → string a ++ x ≡ string b ++ y → (a ≡ b) × (x ≡ y)
same_string a b x y low small e =
    let same = same_length (length a) (length b) (a ++ x) (b ++ y) low small (sym (open_string a x) ∙ e ∙ open_string b y) in
    same_split a b x y same.0 same.1
