-- A string stands for the bytes that it was written for.
use Rattle.std.proofs.Common.{◌≡◌, ℕ, zero, suc, ◌<◌, ◌/◌, ◌%◌, Bool, true, false, ◌&&◌, not, nat_lt, List, [], ◌∷◌, ◌++◌, codes, Some, unwrap_or, IsUtf8, refl, sym, ap, ◌∙◌, subst, arith, lt-ltb, le-ltb, ◌+◌, inl, inr}
use Rattle.std.proofs.lemmas.Bool.{and_parts, cases_lt}
use Rattle.std.proofs.lemmas.Str.{IsUtf8-from_is_utf8}
use Rattle.std.specs.Char.{digit_char}
use Rattle.std.specs.Str.{is_utf8}
use Rattle.json.proofs.Printed.Utf8.{are_ascii, IsUtf8-are_ascii}
use Rattle.ng_json.specs.Strings.{is_marked, value_of_digit, byte_of_digits, hex_text, bytes_in_hex, bytes_of_string, string_of_bytes}
use Rattle.ng_json.specs.JsonText.{AreBytes}
use Rattle.ng_json.proofs.Texts.{plain_string, marked_string}

value_back : (n : ℕ) → n < 16 → value_of_digit (digit_char n) ≡ Some n
value_back zero h = refl
value_back (suc zero) h = refl
value_back (suc (suc zero)) h = refl
value_back (suc (suc (suc zero))) h = refl
value_back (suc (suc (suc (suc zero)))) h = refl
value_back (suc (suc (suc (suc (suc zero))))) h = refl
value_back (suc (suc (suc (suc (suc (suc zero)))))) h = refl
value_back (suc (suc (suc (suc (suc (suc (suc zero))))))) h = refl
value_back (suc (suc (suc (suc (suc (suc (suc (suc zero)))))))) h = refl
value_back (suc (suc (suc (suc (suc (suc (suc (suc (suc zero))))))))) h = refl
value_back (suc (suc (suc (suc (suc (suc (suc (suc (suc (suc zero)))))))))) h = refl
value_back (suc (suc (suc (suc (suc (suc (suc (suc (suc (suc (suc zero))))))))))) h = refl
value_back (suc (suc (suc (suc (suc (suc (suc (suc (suc (suc (suc (suc zero)))))))))))) h = refl
value_back (suc (suc (suc (suc (suc (suc (suc (suc (suc (suc (suc (suc (suc zero))))))))))))) h = refl
value_back (suc (suc (suc (suc (suc (suc (suc (suc (suc (suc (suc (suc (suc (suc zero)))))))))))))) h = refl
value_back (suc (suc (suc (suc (suc (suc (suc (suc (suc (suc (suc (suc (suc (suc (suc zero))))))))))))))) h = refl
value_back (suc (suc (suc (suc (suc (suc (suc (suc (suc (suc (suc (suc (suc (suc (suc (suc n)))))))))))))))) h = absurd (omega arith)

byte_back : (byte : ℕ) → byte < 256 → byte_of_digits (digit_char (byte / 16)) (digit_char (byte % 16)) ≡ Some byte
byte_back byte h = rw (value_back (byte / 16) (omega arith), value_back (byte % 16) (omega arith)) (ap Some (omega arith))

hex_back : (bytes : List ℕ) → AreBytes bytes → bytes_in_hex (hex_text bytes) ≡ Some bytes
unfolding bytes_in_hex
hex_back [] h = refl
hex_back (byte ∷ bytes) h = rw (byte_back byte h.0, hex_back bytes h.1) refl

digit_ascii : (n : ℕ) → n < 16 → nat_lt (digit_char n) 128 ≡ true
digit_ascii n h = elim (cases_lt n 10) [
  | inl low ↦ rw (lt-ltb n 10 low) (lt-ltb (48 + n) 128 (omega arith))
  | inr high ↦ rw (le-ltb n 10 high) (lt-ltb (87 + n) 128 (omega arith))
]

hex_ascii : (bytes : List ℕ) → AreBytes bytes → are_ascii (hex_text bytes) ≡ true
hex_ascii [] h = refl
hex_ascii (byte ∷ bytes) h = let b = h.0 in rw (digit_ascii (byte / 16) (omega arith), digit_ascii (byte % 16) (omega arith), hex_ascii bytes h.1) refl

is_not : (b : Bool) → not b ≡ true → b ≡ false
is_not true e = sym e
is_not false e = refl

unmarked : (bytes : List ℕ) → is_marked bytes ≡ false → bytes_of_string bytes ≡ bytes
unmarked bytes e = rw e refl

marked : (bytes : List ℕ) → AreBytes bytes → bytes_of_string (codes "x:" ++ hex_text bytes) ≡ bytes
marked bytes h = ap (λ r. unwrap_or r (codes "x:" ++ hex_text bytes)) (hex_back bytes h)

pub string_back : (bytes : List ℕ) → AreBytes bytes → bytes_of_string (string_of_bytes bytes) ≡ bytes
string_back bytes h = by (is_utf8 bytes && not (is_marked bytes)) refl
  where
    by : (b : Bool) → (is_utf8 bytes && not (is_marked bytes)) ≡ b → bytes_of_string (string_of_bytes bytes) ≡ bytes
    by true e = ap bytes_of_string (plain_string bytes e) ∙ unmarked bytes (is_not (is_marked bytes) (and_parts _ _ e).1)
    by false e = ap bytes_of_string (marked_string bytes e) ∙ marked bytes h

pub string_is_utf8 : (bytes : List ℕ) → AreBytes bytes → IsUtf8 (string_of_bytes bytes)
string_is_utf8 bytes h = by (is_utf8 bytes && not (is_marked bytes)) refl
  where
    by : (b : Bool) → (is_utf8 bytes && not (is_marked bytes)) ≡ b → IsUtf8 (string_of_bytes bytes)
    by true e = subst IsUtf8 (sym (plain_string bytes e)) (IsUtf8-from_is_utf8 bytes (and_parts _ _ e).0)
    by false e = subst IsUtf8 (sym (marked_string bytes e)) (IsUtf8-are_ascii (codes "x:" ++ hex_text bytes) (hex_ascii bytes h))
