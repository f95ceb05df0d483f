-- Keys that compare equal are one.
use Rattle.std.proofs.Common.{◌≡◌, refl, ap, ◌∙◌, ℕ, true, List, Option, Some, None}
use Rattle.std.specs.Str.{bytes_eq}
use Rattle.std.proofs.lemmas.Slice.Eq.{bytes_eq-Decides}
use Rattle.sdes_lines.specs.declared.crypto_line.Suite.{Suite}
use Rattle.sdes_lines.specs.declared.crypto_line.Suite.TheVariants.{Tag80, Tag32}
use Rattle.port_pool.specs.Signals.{key_eq, suite_eq}
use Rattle.call_cell.proofs.Splits.{both_left, both_right}

pub suite_is : (a b : Suite) → suite_eq a b ≡ true → a ≡ b
suite_is Tag80 Tag80 q = refl
suite_is Tag32 Tag32 q = refl
suite_is Tag80 Tag32 q = absurd (let e = q in cc)
suite_is Tag32 Tag80 q = absurd (let e = q in cc)

pair_is : (a b : List ℕ × Suite) → a.0 ≡ b.0 → a.1 ≡ b.1 → a ≡ b
pair_is a b p q = ap (λ (x : List ℕ). pair x a.1) p ∙ ap (λ (s : Suite). pair b.0 s) q
  where
    pair : List ℕ → Suite → List ℕ × Suite
    pair x s = (x, s)

pub key_is : (a b : Option (List ℕ × Suite)) → key_eq a b ≡ true → a ≡ b
key_is None None q = refl
key_is None (Some b) q = absurd (let e = q in cc)
key_is (Some a) None q = absurd (let e = q in cc)
key_is (Some a) (Some b) q =
    ap Some (pair_is a b ((bytes_eq-Decides a.0 b.0).0 (both_left (bytes_eq a.0 b.0) (suite_eq a.1 b.1) q))
    (suite_is a.1 b.1 (both_right (bytes_eq a.0 b.0) (suite_eq a.1 b.1) q)))
