-- Two lists of bytes, compared by the bits in which they differ.
use Rattle.std.proofs.Common.{◌≡◌, ℕ, ◌+◌, ◌<◌, List, length, get_or, bit_or, bit_xor, Bool, true, false, ◌==◌, bytes_eq, T, eqb→eq, refl, ap, subst, sym, ◌∙◌, arith, inl, inr}
use Rattle.std.proofs.lemmas.Bool.{cases_lt}
use Rattle.std.proofs.lemmas.List.{ext_get_or}
use Rattle.std.proofs.lemmas.Nat.{le_or_l, le_or_r, xor_comm}
use Rattle.std.specs.Int.Bits.{xor_assoc, xor_self, xor_zero_r}
use lib.Pointwise.{bytes_decides}

-- the bits in which the first n bytes differ are none exactly where these bytes are alike
pub record Differ (one other : List ℕ) (n bits : ℕ) : Type 0 where
  pub none : bits ≡ 0 → (k : ℕ) → k < n → get_or one k 0 ≡ get_or other k 0
  pub alike : ((k : ℕ) → k < n → get_or one k 0 ≡ get_or other k 0) → bits ≡ 0

xor_none : (a b : ℕ) → bit_xor a b ≡ 0 → a ≡ b
xor_none a b h = sym (xor_zero_r a) ∙ ap (λ n. bit_xor a n) (sym (xor_self b)) ∙ sym (xor_assoc a b b) ∙ ap (λ n. bit_xor n b) h ∙ xor_comm 0 b ∙ xor_zero_r b

pub differ_more : (one other : List ℕ) (n bits : ℕ) → Differ one other n bits → Differ one other (n + 1) (bit_or bits (bit_xor (get_or one n 0) (get_or other n 0)))
differ_more one other n bits d =
    let a = get_or one n 0 in
    let b = get_or other n 0 in
    record {
      none = λ h k lt.
          let left : bits ≡ 0 = omega (arith, h, le_or_l bits (bit_xor a b)) in
          let right : bit_xor a b ≡ 0 = omega (arith, h, le_or_r bits (bit_xor a b)) in
          elim (cases_lt k n) [
            | inl below ↦ d.none left k below
            | inr from ↦ let at : k ≡ n = omega arith in rw at (xor_none a b right)
          ];
      alike = λ each.
          let before = d.alike (λ k lt. each k (omega arith)) in
          rw (before, each n (omega arith), xor_self b) refl;
    }

alike_bools : (a b : Bool) → (a ≡ true → b ≡ true) → (b ≡ true → a ≡ true) → a ≡ b
alike_bools true true to from = refl
alike_bools true false to from = sym (to refl)
alike_bools false true to from = from refl
alike_bools false false to from = refl

-- no bit is set exactly where lists of one length are alike
pub differ_all : (one other : List ℕ) (bits : ℕ) → length one ≡ length other → Differ one other (length one) bits → (bits == 0) ≡ bytes_eq one other
differ_all one other bits long d =
    alike_bools (bits == 0) (bytes_eq one other)
    (λ none. let no : bits ≡ 0 = eqb→eq bits 0 (subst T (sym none) tt) in (bytes_decides one other).1 (ext_get_or 0 one other long (λ k lt. d.none no k lt)))
    (λ alike. let no : bits ≡ 0 = d.alike (λ k lt. ap (λ (l : List ℕ). get_or l k 0) ((bytes_decides one other).0 alike)) in ap (λ n. n == 0) no)
