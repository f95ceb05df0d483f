-- How numbers are written, and read again.
use Rattle.std.proofs.Common.{◌≡◌, ℕ, ℤ, pos, negsuc, nat_abs, ◌<◌, ◌≤◌, ◌≤ℤ◌, ◌^◌, Bool, cond, List, Option, Some, None, IfSome, IfNone, sym, ap, ◌∙◌, arith, to_z, of_z}
use Rattle.std.specs.Int.{w64, to_be_bytes, from_be_bytes}
use Rattle.std.specs.Prelude.{FitsSigned}
use Rattle.std.proofs.lemmas.Bool.{lt-ltb, le-ltb, cases_lt}
use Rattle.std.proofs.lemmas.Int.{ints, to_z-of_z}
use Rattle.std.proofs.lemmas.Nat.{from_be_bytes-to_be_bytes_8}
use Rattle.std.proofs.Common.{inl, inr}
use Rattle.ng_bencode.specs.Tree.{Tree, Int, Bytes}
use Rattle.state_values.specs.Numbers.{number_tree}

pub small_tree : (n : ℕ) → n < 2 ^ 63 → number_tree n ≡ Int (pos n)
unfolding number_tree
small_tree n low = ap (λ (b : Bool). cond b (Int (pos n)) (Bytes (to_be_bytes w64 n))) (lt-ltb n (2 ^ 63) low)

pub large_tree : (n : ℕ) → 2 ^ 63 ≤ n → number_tree n ≡ Bytes (to_be_bytes w64 n)
unfolding number_tree
large_tree n high = ap (λ (b : Bool). cond b (Int (pos n)) (Bytes (to_be_bytes w64 n))) (le-ltb n (2 ^ 63) high)

-- what is written as an integer, and as bytes
pub int_is : (t : Tree) (z : ℤ) (n : ℕ) → t ≡ Int z → t ≡ number_tree n → z ≡ pos n
int_is t z n is same = elim (cases_lt n (2 ^ 63)) [
  | inl low ↦ let e : Int z ≡ Int (pos n) = sym is ∙ same ∙ small_tree n low in cc
  | inr high ↦ let e : Int z ≡ Bytes (to_be_bytes w64 n) = sym is ∙ same ∙ large_tree n high in absurd (cc)
]

pub bytes_are : (t : Tree) (bytes : List ℕ) (n : ℕ) → t ≡ Bytes bytes → t ≡ number_tree n → (2 ^ 63 ≤ n) × (bytes ≡ to_be_bytes w64 n)
bytes_are t bytes n is same = elim (cases_lt n (2 ^ 63)) [
  | inl low ↦ let e : Bytes bytes ≡ Int (pos n) = sym is ∙ same ∙ small_tree n low in absurd (cc)
  | inr high ↦ let e : Bytes bytes ≡ Bytes (to_be_bytes w64 n) = sym is ∙ same ∙ large_tree n high in (high, cc)
]

pub neither : (t : Tree) (n : ℕ) → ((z : ℤ) → t ≡ Int z → ⊥) → ((bytes : List ℕ) → t ≡ Bytes bytes → ⊥) → t ≡ number_tree n → ⊥
neither t n no_int no_bytes same = elim (cases_lt n (2 ^ 63)) [
  | inl low ↦ no_int (pos n) (same ∙ small_tree n low)
  | inr high ↦ no_bytes (to_be_bytes w64 n) (same ∙ large_tree n high)
]

by_sign : (z : ℤ) → FitsSigned w64 z → pos 0 ≤ℤ z → Int z ≡ number_tree (nat_abs z)
by_sign (pos n) fits low = sym (small_tree n fits.sfits)
by_sign (negsuc n) fits low = absurd (omega (arith, ints))

pub pos_tree : (z : ℤ) → FitsSigned w64 z → pos 0 ≤ℤ z → Int z ≡ number_tree (nat_abs (to_z w64 (of_z w64 z)))
pos_tree z fits low = by_sign z fits low ∙ ap (λ (w : ℤ). number_tree (nat_abs w)) (sym (to_z-of_z w64 z fits))

pub large_some : (t : Tree) (bytes : List ℕ) (read : Option ℕ) → t ≡ Bytes bytes
    → IfSome read (λ n. (bytes ≡ to_be_bytes w64 n) × (2 ^ 63 ≤ n)) → IfSome read (λ n. t ≡ number_tree n)
large_some t bytes None is some = some
large_some t bytes (Some n) is some = is ∙ ap (λ (b : List ℕ). Bytes b) some.0 ∙ sym (large_tree n some.1)

pub large_none : (t : Tree) (bytes : List ℕ) (read : Option ℕ) → t ≡ Bytes bytes
    → IfNone read ((n : ℕ) → n < 2 ^ 64 → 2 ^ 63 ≤ n → bytes ≡ to_be_bytes w64 n → ⊥)
    → IfNone read ((n : ℕ) → n < 2 ^ 64 → t ≡ number_tree n → ⊥)
large_none t bytes None is none = λ n fits same. let are = bytes_are t bytes n is same in none n fits are.0 are.1
large_none t bytes (Some n) is none = none

-- two numbers written alike are one
pub same_number : (m n : ℕ) → m < 2 ^ 64 → n < 2 ^ 64 → number_tree m ≡ number_tree n → m ≡ n
same_number m n low small same = elim (cases_lt m (2 ^ 63)) [
  | inl under ↦ let e = int_is (number_tree m) (pos m) n (small_tree m under) same in cc
  | inr over ↦
      let are = bytes_are (number_tree m) (to_be_bytes w64 m) n (large_tree m over) same in
      sym (from_be_bytes-to_be_bytes_8 m low) ∙ ap (from_be_bytes w64) are.1 ∙ from_be_bytes-to_be_bytes_8 n small
]
