-- Numbers that are written in digits, and read again.
use Rattle.std.proofs.Common.{◌≡◌, ℕ, ◌+◌, ◌*◌, ◌/◌, ◌%◌, ◌<◌, ◌≤◌, Bool, true, false, not, ◌&&◌, eqb, List, [], ◌∷◌, length, map, fold, Option, Some, None, refl, ap, ◌∙◌, arith, inl, inr}
use Rattle.std.specs.List.{list_all}
use Rattle.std.proofs.lemmas.Bool.{and_parts, cases_lt, eqb-true, false≢true, le-leb, lt-leb, lt-ltb}
use Rattle.std.proofs.lemmas.List.{length-map}
use Rattle.sdp_text.specs.Hosts.{octet, octet_text, digit_byte, is_hex, hex_value, group, group_text}
use Rattle.sdp_laws.proofs.Each.{Each, below, below-at}

-- a text without this byte
abbrev pub free : ℕ → List ℕ → Bool
free stop text = list_all (λ b. not (eqb b stop)) text

abbrev is_digit_read : ℕ → Bool
is_digit_read d = is_hex (digit_byte d) && (eqb (hex_value (digit_byte d)) d && not (eqb (digit_byte d) 58))

digits_read : below is_digit_read 16 ≡ true
unfolding below
digits_read = refl

record Digit (d : ℕ) : Type 0 where
  hex : is_hex (digit_byte d) ≡ true
  value : hex_value (digit_byte d) ≡ d
  apart : not (eqb (digit_byte d) 58) ≡ true

digit : (d : ℕ) → d < 16 → Digit d
digit d h =
    let outer = and_parts (is_hex (digit_byte d)) (eqb (hex_value (digit_byte d)) d && not (eqb (digit_byte d) 58)) (below-at is_digit_read 16 d digits_read h) in
    let inner = and_parts (eqb (hex_value (digit_byte d)) d) (not (eqb (digit_byte d) 58)) outer.1 in
    record { hex = outer.0; value = eqb-true (hex_value (digit_byte d)) d inner.0; apart = inner.1 }

abbrev gives : Option ℕ → ℕ → Bool
gives None n = false
gives (Some m) n = eqb m n

gives_is : (o : Option ℕ) (n : ℕ) → gives o n ≡ true → o ≡ Some n
gives_is None n h = absurd (false≢true h)
gives_is (Some m) n h = ap Some (eqb-true m n h)

abbrev is_octet_read : ℕ → Bool
is_octet_read b = gives (octet (octet_text b)) b && free 46 (octet_text b)

octets_read : below is_octet_read 256 ≡ true
unfolding below
octets_read = refl

-- an octet that is written is read as itself, and its text has no dot
pub octet_read : (b : ℕ) → b < 256 → octet (octet_text b) ≡ Some b
octet_read b h = gives_is (octet (octet_text b)) b (and_parts (gives (octet (octet_text b)) b) (free 46 (octet_text b)) (below-at is_octet_read 256 b octets_read h)).0

pub octet_free : (b : ℕ) → b < 256 → free 46 (octet_text b) ≡ true
octet_free b h = (and_parts (gives (octet (octet_text b)) b) (free 46 (octet_text b)) (below-at is_octet_read 256 b octets_read h)).1

-- a text of one to four digits for a number
record InDigits (n : ℕ) (bytes : List ℕ) : Type 0 where
  digits : List ℕ
  text : bytes ≡ map digit_byte digits
  small : Each (λ d. d < 16) digits
  some : 0 < length digits
  short : length digits ≤ 4
  value : fold (λ m d. 16 * m + d) 0 digits ≡ n

in_digits : (n : ℕ) → n < 65536 → InDigits n (group_text n)
in_digits n h = elim (cases_lt n 16) [
  | inl one ↦ record {
    digits = n % 16 ∷ [];
    text = rw (lt-leb 4096 n (omega arith), lt-leb 256 n (omega arith), lt-leb 16 n one) refl;
    small = (omega arith, tt);
    some = omega arith;
    short = omega arith;
    value = omega arith;
  }
  | inr more ↦ elim (cases_lt n 256) [
    | inl two ↦ record {
      digits = n / 16 % 16 ∷ n % 16 ∷ [];
      text = rw (lt-leb 4096 n (omega arith), lt-leb 256 n two, le-leb 16 n more) refl;
      small = (omega arith, (omega arith, tt));
      some = omega arith;
      short = omega arith;
      value = omega arith;
    }
    | inr more2 ↦ elim (cases_lt n 4096) [
      | inl three ↦ record {
        digits = n / 256 % 16 ∷ n / 16 % 16 ∷ n % 16 ∷ [];
        text = rw (lt-leb 4096 n three, le-leb 256 n more2, le-leb 16 n more) refl;
        small = (omega arith, (omega arith, (omega arith, tt)));
        some = omega arith;
        short = omega arith;
        value = omega arith;
      }
      | inr four ↦ record {
        digits = n / 4096 ∷ n / 256 % 16 ∷ n / 16 % 16 ∷ n % 16 ∷ [];
        text = rw (le-leb 4096 n four, le-leb 256 n more2, le-leb 16 n more) refl;
        small = (omega arith, (omega arith, (omega arith, (omega arith, tt))));
        some = omega arith;
        short = omega arith;
        value = omega arith;
      }
    ]
  ]
]

all_hex : (ds : List ℕ) → Each (λ d. d < 16) ds → list_all is_hex (map digit_byte ds) ≡ true
all_hex [] small = refl
all_hex (d ∷ ds) small = ap (λ b. b && list_all is_hex (map digit_byte ds)) (digit d small.0).hex ∙ all_hex ds small.1

digits_free : (ds : List ℕ) → Each (λ d. d < 16) ds → free 58 (map digit_byte ds) ≡ true
digits_free [] small = refl
digits_free (d ∷ ds) small = ap (λ b. b && free 58 (map digit_byte ds)) (digit d small.0).apart ∙ digits_free ds small.1

value_read : (ds : List ℕ) (n : ℕ) → Each (λ d. d < 16) ds → fold (λ m byte. 16 * m + hex_value byte) n (map digit_byte ds) ≡ fold (λ m d. 16 * m + d) n ds
value_read [] n small = refl
value_read (d ∷ ds) n small = ap (λ v. fold (λ m byte. 16 * m + hex_value byte) (16 * n + v) (map digit_byte ds)) (digit d small.0).value ∙ value_read ds (16 * n + d) small.1

digits_group : (ds : List ℕ) → Each (λ d. d < 16) ds → 0 < length ds → length ds ≤ 4 → group (map digit_byte ds) ≡ Some (fold (λ m d. 16 * m + d) 0 ds)
digits_group ds small some short =
    rw (length-map ds digit_byte, lt-ltb 0 (length ds) some, le-leb (length ds) 4 short, all_hex ds small) (ap Some (value_read ds 0 small))

-- a group that is written is read as itself, and its text has a byte at least and no colon
pub group_read : (n : ℕ) → n < 65536 → group (group_text n) ≡ Some n
group_read n h =
    let w = in_digits n h in
    ap group w.text ∙ digits_group w.digits w.small w.some w.short ∙ ap Some w.value

pub group_free : (n : ℕ) → n < 65536 → free 58 (group_text n) ≡ true
group_free n h =
    let w = in_digits n h in
    ap (free 58) w.text ∙ digits_free w.digits w.small

pub group_some : (n : ℕ) → n < 65536 → 0 < length (group_text n)
group_some n h =
    let w = in_digits n h in
    omega (arith, ap length w.text, length-map w.digits digit_byte, w.some)
