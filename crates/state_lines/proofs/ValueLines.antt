-- Values among other lines: where one ends, and which it is.
use Rattle.std.proofs.Common.{◌≡◌, ◌∙◌, ap, sym, refl, ℕ, zero, suc, ◌+◌, List, [], ◌∷◌, ◌++◌, length, get_or, arith, append_assoc}
use Rattle.std.specs.List.{flat_map, AllByRecursion}
use Rattle.state_lines.specs.StateLines.{end_line, length_line, line_count, digit_lines, value_lines, IsValueText}
use Rattle.state_lines.proofs.ByteLists.{heads, tails}
use Rattle.state_lines.proofs.Numbers.{same_length_line}
use Rattle.state_lines.proofs.DigitLines.{count_of}

-- fronts of the same length are the same
pub same_front : {A : Type 0} (a b x y : List A) → length a ≡ length b → a ++ x ≡ b ++ y → (a ≡ b) × (x ≡ y)
same_front [] [] x y len e = (refl, e)
same_front [] (d ∷ b) x y len e = absurd (omega (arith, len))
same_front (c ∷ a) [] x y len e = absurd (omega (arith, len))
same_front (c ∷ a) (d ∷ b) x y len e =
    let head : c ≡ d = heads c d (a ++ x) (b ++ y) e in
    let same = same_front a b x y (omega (arith, len)) (tails c d (a ++ x) (b ++ y) e) in
    (rw (head, same.0) refl, same.1)

-- the length that stands above a value tells where it ends
pub same_value_lines : (a b : List ℕ) (x y : List (List ℕ)) → IsValueText a → IsValueText b → value_lines a ++ x ≡ value_lines b ++ y
    → (length a ≡ length b) × (digit_lines a ≡ digit_lines b) × (x ≡ y)
same_value_lines a b x y fit other e =
    let long = same_length_line (length a) (length b) fit.counted other.counted (heads (length_line (length a)) (length_line (length b)) (digit_lines a ++ x) (digit_lines b ++ y) e) in
    let size : length (digit_lines a) ≡ length (digit_lines b) = count_of a ∙ ap line_count long ∙ sym (count_of b) in
    let rest = same_front (digit_lines a) (digit_lines b) x y size (tails (length_line (length a)) (length_line (length b)) (digit_lines a ++ x) (digit_lines b ++ y) e) in
    (long, rest.0, rest.1)

-- no value begins with the last line
pub not_ended : (text : List ℕ) (x y : List (List ℕ)) → end_line ∷ x ≡ value_lines text ++ y → ⊥
not_ended text x y e =
    let same = heads end_line (length_line (length text)) x (digit_lines text ++ y) e in
    omega (arith, ap (λ (line : List ℕ). get_or line 0 0) same)

-- What is left of a state behind some of its values.
pub record Left (vs values : List (List ℕ)) (x y : List (List ℕ)) : Type 0 where
  pub more : List (List ℕ)
  pub many : length vs ≡ length values + length more
  pub fit : AllByRecursion IsValueText more
  pub lines : flat_map value_lines more ++ end_line ∷ x ≡ y

pub left_behind : (values vs : List (List ℕ)) (x y : List (List ℕ)) → AllByRecursion IsValueText values → AllByRecursion IsValueText vs
    → flat_map value_lines vs ++ end_line ∷ x ≡ flat_map value_lines values ++ y → Left vs values x y
left_behind [] vs x y fit other e = record { more = vs; many = omega arith; fit = other; lines = e }
left_behind (v ∷ values) [] x y fit other e = absurd (not_ended v x (flat_map value_lines values ++ y) (e ∙ append_assoc (value_lines v) (flat_map value_lines values) y))
left_behind (v ∷ values) (w ∷ vs) x y fit other e =
    let same = same_value_lines w v (flat_map value_lines vs ++ end_line ∷ x) (flat_map value_lines values ++ y) other.0 fit.0
    (sym (append_assoc (value_lines w) (flat_map value_lines vs) (end_line ∷ x)) ∙ e ∙ append_assoc (value_lines v) (flat_map value_lines values) y) in
    let left = left_behind values vs x y fit.1 other.1 same.2 in
    record { more = left.more; many = omega (arith, left.many); fit = left.fit; lines = left.lines }

-- so many empty values
abbrev pub empty_values : ℕ → List (List ℕ)
empty_values zero = []
empty_values (suc n) = [] ∷ empty_values n

pub count_empty : (n : ℕ) → length (empty_values n) ≡ n
count_empty zero = refl
count_empty (suc n) = ap suc (count_empty n)

pub fit_empty : (n : ℕ) → AllByRecursion IsValueText (empty_values n)
fit_empty zero = tt
fit_empty (suc n) = (record { bytes = λ i. omega arith; counted = omega arith }, fit_empty n)

pub fit_append : (a b : List (List ℕ)) → AllByRecursion IsValueText a → AllByRecursion IsValueText b → AllByRecursion IsValueText (a ++ b)
fit_append [] b fit other = other
fit_append (v ∷ a) b fit other = (fit.0, fit_append a b fit.1 other)
