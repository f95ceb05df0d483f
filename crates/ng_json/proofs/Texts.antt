-- What is put for a byte of a string, and the bytes that digits stand for.
use Rattle.std.proofs.Common.{◌≡◌, ℕ, ◌<◌, ◌≤◌, ◌/◌, ◌%◌, List, [], ◌∷◌, ◌++◌, Bool, true, false, ◌&&◌, not, Option, Some, None, option_map, IsUtf8, refl, sym, ap, ◌∙◌, append_assoc, append-nil, lt-ltb, le-ltb, ◌+◌, codes, inl, inr, arith}
use Rattle.std.proofs.lemmas.Bool.{cases_lt}
use Rattle.std.proofs.lemmas.Str.{IsUtf8-from_is_utf8}
use Rattle.std.specs.Char.{digit_char}
use Rattle.std.specs.Str.{is_utf8}
use Rattle.json.specs.Print.{escape_letter, escape_byte, escape, quoted}
use Rattle.json.proofs.Printed.Strings.{escape_byte_plain}
use Rattle.serde_json.specs.Written.{compact_text}
use Rattle.ng_bencode.specs.Tree.{Tree}
use Rattle.ng_json.specs.JsonText.{data_of, json_text}
use Rattle.ng_json.specs.Strings.{is_marked, hex_text, byte_of_digits, bytes_in_hex, string_of_bytes}

-- ---- escapes

pub short_escape : (byte letter : ℕ) → escape_letter byte ≡ letter → 0 < letter → escape_byte byte ≡ 92 ∷ letter ∷ []
unfolding escape_byte
short_escape byte letter is some = rw (is, lt-ltb 0 letter some) refl

pub long_escape : (byte : ℕ) → escape_letter byte ≡ 0 → byte < 32 → escape_byte byte ≡ 92 ∷ 117 ∷ 48 ∷ 48 ∷ digit_char (byte / 16) ∷ digit_char (byte % 16) ∷ []
unfolding escape_byte
long_escape byte is low = rw (is, lt-ltb byte 32 low) refl

pub no_escape : (byte : ℕ) → escape_letter byte ≡ 0 → 32 ≤ byte → escape_byte byte ≡ byte ∷ []
unfolding escape_byte
no_escape byte is high = rw (is, le-ltb byte 32 high) refl

escape_digit : (n : ℕ) → escape_byte (digit_char n) ≡ digit_char n ∷ []
escape_digit n = elim (cases_lt n 10) [
  | inl low ↦ rw (lt-ltb n 10 low) (escape_byte_plain (48 + n) (λ e. omega arith) (λ e. omega arith) (omega arith))
  | inr high ↦ rw (le-ltb n 10 high) (escape_byte_plain (87 + n) (λ e. omega arith) (λ e. omega arith) (omega arith))
]

escape_hex : (bytes : List ℕ) → escape (hex_text bytes) ≡ hex_text bytes
escape_hex [] = refl
escape_hex (byte ∷ bytes) = rw (escape_digit (byte / 16), escape_digit (byte % 16), escape_hex bytes) refl

-- ---- bytes that are no UTF-8

pub plain_string : (bytes : List ℕ) → (is_utf8 bytes && not (is_marked bytes)) ≡ true → string_of_bytes bytes ≡ bytes
unfolding string_of_bytes
plain_string bytes e = rw e refl

pub marked_string : (bytes : List ℕ) → (is_utf8 bytes && not (is_marked bytes)) ≡ false → string_of_bytes bytes ≡ codes "x:" ++ hex_text bytes
unfolding string_of_bytes
marked_string bytes e = rw e refl

pub quoted_hex : (bytes : List ℕ) → quoted (codes "x:" ++ hex_text bytes) ≡ codes "\"x:" ++ (hex_text bytes ++ 34 ∷ [])
quoted_hex bytes =
    rw (escape_byte_plain 120 (λ e. omega arith) (λ e. omega arith) (omega arith), escape_byte_plain 58 (λ e. omega arith) (λ e. omega arith) (omega arith), escape_hex bytes) refl

no_true : (bytes : List ℕ) (b : Bool) → is_utf8 bytes ≡ b → (IsUtf8 bytes → ⊥) → b ≡ false
no_true bytes true e other = absurd (other (IsUtf8-from_is_utf8 bytes e))
no_true bytes false e other = refl

pub is_not_plain : (bytes : List ℕ) (b : Bool) → (IsUtf8 bytes → ⊥) → false ≡ (is_utf8 bytes && b)
is_not_plain bytes b other = rw (no_true bytes (is_utf8 bytes) refl other) refl

-- ---- digits

pub hex_end : (digits rest bytes : List ℕ) → rest ≡ [] → bytes_in_hex digits ≡ option_map (λ more. bytes ++ more) (bytes_in_hex rest) → bytes_in_hex digits ≡ Some bytes
unfolding bytes_in_hex
hex_end digits rest bytes none read = read ∙ ap (λ r. option_map (λ more. bytes ++ more) (bytes_in_hex r)) none ∙ ap Some (append-nil bytes)

pub hex_odd : (digits rest bytes more : List ℕ) (high : ℕ) → rest ≡ high ∷ more → more ≡ [] → bytes_in_hex digits ≡ option_map (λ more. bytes ++ more) (bytes_in_hex rest) → bytes_in_hex digits ≡ None
unfolding bytes_in_hex
hex_odd digits rest bytes more high is none read = read ∙ ap (λ r. option_map (λ more. bytes ++ more) (bytes_in_hex r)) (is ∙ ap (λ m. high ∷ m) none)

pub hex_no : (digits rest bytes more after : List ℕ) (high low : ℕ) → rest ≡ high ∷ more → more ≡ low ∷ after → byte_of_digits high low ≡ None
    → bytes_in_hex digits ≡ option_map (λ more. bytes ++ more) (bytes_in_hex rest) → bytes_in_hex digits ≡ None
unfolding bytes_in_hex
hex_no digits rest bytes more after high low is then none read =
    read ∙ ap (λ r. option_map (λ more. bytes ++ more) (bytes_in_hex r)) (is ∙ ap (λ m. high ∷ m) then) ∙ rw none refl

one_more : (bytes : List ℕ) (byte : ℕ) (r : Option (List ℕ)) → option_map (λ more. bytes ++ more) (option_map (λ more. byte ∷ more) r) ≡ option_map (λ more. (bytes ++ byte ∷ []) ++ more) r
one_more bytes byte None = refl
one_more bytes byte (Some more) = ap Some (sym (append_assoc bytes (byte ∷ []) more))

pub hex_more : (digits rest bytes more after : List ℕ) (high low byte : ℕ) → rest ≡ high ∷ more → more ≡ low ∷ after → byte_of_digits high low ≡ Some byte
    → bytes_in_hex digits ≡ option_map (λ more. bytes ++ more) (bytes_in_hex rest) → bytes_in_hex digits ≡ option_map (λ more. (bytes ++ byte ∷ []) ++ more) (bytes_in_hex after)
unfolding bytes_in_hex
hex_more digits rest bytes more after high low byte is then found read =
    read ∙ ap (λ r. option_map (λ more. bytes ++ more) (bytes_in_hex r)) (is ∙ ap (λ m. high ∷ m) then) ∙ rw found (one_more bytes byte (bytes_in_hex after))

-- ---- the text of a value

pub written : (tree : Tree) → compact_text (data_of tree) ≡ json_text tree
unfolding json_text
written tree = refl
