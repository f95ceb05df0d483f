-- Texts that are written as they are, and dictionaries of two of them.
use Rattle.std.proofs.Common.{◌≡◌, ℕ, zero, suc, ◌<◌, ◌/◌, ◌%◌, Bool, true, false, cond, not, ◌&&◌, ◌==◌, nat_le, nat_lt, List, [], ◌∷◌, ◌++◌, decimal, refl, ap₂, arith, leb-true, eq-eqb}
use Rattle.std.proofs.lemmas.Bool.{and_parts}
use Rattle.std.proofs.lemmas.Str.{is_utf8-from_IsUtf8}
use Rattle.std.specs.Cmp.Lexicographic.{slice_cmp}
use Rattle.std.specs.Ordering.{nat_cmp}
use Rattle.std.specs.Fmt.{digits, digits_onto, digit_glyph}
use Rattle.std.specs.declared.cmp.Ordering.TheVariants.{Greater}
use Rattle.json.specs.Print.{escape, quoted}
use Rattle.json.proofs.Printed.Strings.{escape_byte_plain}
use Rattle.json.proofs.Printed.Utf8.{are_ascii, IsUtf8-are_ascii}
use Rattle.ng_bencode.specs.Tree.{Bytes, Dict, no_entries, entry}
use Rattle.ng_json.specs.Strings.{is_marked, string_of_bytes}
use Rattle.ng_json.specs.JsonText.{json_text}

-- a printing ASCII byte that has no escape
abbrev pub is_simple : ℕ → Bool
is_simple x = nat_le 32 x && (nat_lt x 128 && (not (x == 34) && not (x == 92)))

abbrev pub are_simple : List ℕ → Bool
are_simple [] = true
are_simple (x ∷ xs) = is_simple x && are_simple xs

differs : (x y : ℕ) → not (x == y) ≡ true → x ≡ y → ⊥
differs x y h e = let same = eq-eqb x y e in cc

simple_ascii : (xs : List ℕ) → are_simple xs ≡ true → are_ascii xs ≡ true
simple_ascii [] h = refl
simple_ascii (x ∷ xs) h =
    let p = and_parts (is_simple x) (are_simple xs) h in
    let others = not (x == 34) && not (x == 92) in
    let low : nat_lt x 128 ≡ true = (and_parts (nat_lt x 128) others (and_parts (nat_le 32 x) (nat_lt x 128 && others) p.0).1).0 in
    rw (low, simple_ascii xs p.1) refl

pub simple_escape : (xs : List ℕ) → are_simple xs ≡ true → escape xs ≡ xs
simple_escape [] h = refl
simple_escape (x ∷ xs) h =
    let p = and_parts _ _ h in
    let high = leb-true 32 x (and_parts _ _ p.0).0 in
    let others = and_parts _ _ (and_parts _ _ (and_parts _ _ p.0).1).1 in
    ap₂ (λ (a b : List ℕ). a ++ b) (escape_byte_plain x (differs x 34 others.0) (differs x 92 others.1) high) (simple_escape xs p.1)

pub simple_string : (xs : List ℕ) → are_simple xs ≡ true → is_marked xs ≡ false → string_of_bytes xs ≡ xs
unfolding string_of_bytes
simple_string xs h unmarked = rw (is_utf8-from_IsUtf8 xs (IsUtf8-are_ascii xs (simple_ascii xs h)), unmarked) refl

pub simple_append : (a b : List ℕ) → are_simple a ≡ true → are_simple b ≡ true → are_simple (a ++ b) ≡ true
simple_append [] b h k = k
simple_append (x ∷ a) b h k = let p = and_parts (is_simple x) (are_simple a) h in rw (p.0, simple_append a b p.1 k) refl

glyph_simple : (r : ℕ) → r < 10 → is_simple (digit_glyph false r) ≡ true
glyph_simple zero h = refl
glyph_simple (suc zero) h = refl
glyph_simple (suc (suc zero)) h = refl
glyph_simple (suc (suc (suc zero))) h = refl
glyph_simple (suc (suc (suc (suc zero)))) h = refl
glyph_simple (suc (suc (suc (suc (suc zero))))) h = refl
glyph_simple (suc (suc (suc (suc (suc (suc zero)))))) h = refl
glyph_simple (suc (suc (suc (suc (suc (suc (suc zero))))))) h = refl
glyph_simple (suc (suc (suc (suc (suc (suc (suc (suc zero)))))))) h = refl
glyph_simple (suc (suc (suc (suc (suc (suc (suc (suc (suc zero))))))))) h = refl
glyph_simple (suc (suc (suc (suc (suc (suc (suc (suc (suc (suc n)))))))))) h = absurd (omega arith)

either_simple : (b : Bool) (xs ys : List ℕ) → are_simple xs ≡ true → are_simple ys ≡ true → are_simple (cond b xs ys) ≡ true
either_simple true xs ys h k = h
either_simple false xs ys h k = k

one_more : (n : ℕ) (acc : List ℕ) → are_simple acc ≡ true → are_simple (digit_glyph false (n % 10) ∷ acc) ≡ true
one_more n acc h = rw (glyph_simple (n % 10) (omega arith), h) refl

onto_simple : (k n : ℕ) (acc : List ℕ) → are_simple acc ≡ true → are_simple (digits_onto k 10 false n acc) ≡ true
onto_simple zero n acc h = h
onto_simple (suc k) n acc h =
    let more = one_more n acc h in
    either_simple (n / 10 == 0) (digit_glyph false (n % 10) ∷ acc) _ more (onto_simple k (n / 10) (digit_glyph false (n % 10) ∷ acc) more)

pub simple_decimal : (n : ℕ) → are_simple (decimal n) ≡ true
unfolding digits
simple_decimal n =
    let last = one_more n [] refl in
    either_simple (n / 10 == 0) (digit_glyph false (n % 10) ∷ []) _ last (onto_simple 63 (n / 10) (digit_glyph false (n % 10) ∷ []) last)

-- a dictionary of two texts, where the second key is the greater as it is written
pub two_texts : (a x b y : List ℕ) → string_of_bytes a ≡ a → string_of_bytes b ≡ b → slice_cmp nat_cmp b a ≡ Greater
    → json_text (Dict (entry a (Bytes x) (entry b (Bytes y) no_entries)))
    ≡ 123 ∷ (quoted a ++ 58 ∷ (quoted (string_of_bytes x) ++ 44 ∷ (quoted b ++ 58 ∷ (quoted (string_of_bytes y) ++ 125 ∷ []))))
unfolding json_text
two_texts a x b y is_a is_b after = rw (is_a, is_b, after) refl
