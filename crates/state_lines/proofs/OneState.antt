-- Which state some lines are the lines of.
use Rattle.std.proofs.Common.{◌≡◌, ◌∙◌, ap, sym, refl, ℕ, ◌+◌, ◌*◌, ◌/◌, ◌%◌, ◌<◌, List, [], ◌∷◌, ◌++◌, length, drop, get_or, arith, append_assoc}
use Rattle.std.specs.List.{flat_map, AllByRecursion}
use Rattle.std.proofs.lemmas.List.{ext_get_or, get_or-take, get_or-drop}
use Rattle.std.proofs.lemmas.List.FromFn.{get_or-map-range_with_len}
use Rattle.hex.specs.Hex.{encode_lower, decode_of, IsBytes}
use Rattle.hex.proofs.HexLemmas.{decode_of-encode_lower, decode_of-same}
use Rattle.state_lines.specs.StateLines.{heading, end_line, line_bytes, line_count, digit_lines, value_lines, state_lines, IsValueText}
use Rattle.state_lines.proofs.ByteLists.{tails, bytes_take, bytes_drop}
use Rattle.state_lines.proofs.ValueLines.{same_value_lines, not_ended}

same_hex : (a b : List ℕ) → IsBytes a → IsBytes b → encode_lower a ≡ encode_lower b → a ≡ b
same_hex a b fit other e = decode_of-same (encode_lower a) a b (decode_of-encode_lower a fit) (ap decode_of e ∙ decode_of-encode_lower b other)

line_of : (a : List ℕ) (k : ℕ) → k < line_count (length a) → get_or (digit_lines a) k [] ≡ encode_lower (line_bytes a k)
line_of a k low = get_or-map-range_with_len (λ number. encode_lower (line_bytes a number)) 0 (line_count (length a)) k k [] low (omega arith)

byte_of : (a : List ℕ) (i : ℕ) → get_or (line_bytes a (i / 8000)) (i % 8000) 0 ≡ get_or a i 0
byte_of a i =
    let cut : 8000 * (i / 8000) + i % 8000 ≡ i = omega arith in
    get_or-take 8000 (drop (8000 * (i / 8000)) a) (i % 8000) 0 (omega arith)
    ∙ get_or-drop (8000 * (i / 8000)) a (i % 8000) 0 ∙ ap (λ (n : ℕ). get_or a n 0) cut

pub same_text : (a b : List ℕ) → IsBytes a → IsBytes b → length a ≡ length b → digit_lines a ≡ digit_lines b → a ≡ b
same_text a b fit other long lines = ext_get_or 0 a b long (λ i low.
    let k = i / 8000 in
    let here : k < line_count (length a) = omega (arith, low) in
    let there : k < line_count (length b) = omega (arith, low, long) in
    let written : encode_lower (line_bytes a k) ≡ encode_lower (line_bytes b k) =
    sym (line_of a k here) ∙ ap (λ (l : List (List ℕ)). get_or l k []) lines ∙ line_of b k there in
    let same = same_hex (line_bytes a k) (line_bytes b k) (bytes_take 8000 (drop (8000 * k) a) (bytes_drop (8000 * k) a fit)) (bytes_take 8000 (drop (8000 * k) b) (bytes_drop (8000 * k) b other)) written in
    sym (byte_of a i) ∙ ap (λ (l : List ℕ). get_or l (i % 8000) 0) same ∙ byte_of b i)

same_values : (a b : List (List ℕ)) (x y : List (List ℕ)) → AllByRecursion IsValueText a → AllByRecursion IsValueText b
    → flat_map value_lines a ++ end_line ∷ x ≡ flat_map value_lines b ++ end_line ∷ y → (a ≡ b) × (x ≡ y)
same_values [] [] x y fit other e = (refl, tails end_line end_line x y e)
same_values [] (w ∷ b) x y fit other e = absurd (not_ended w x (flat_map value_lines b ++ end_line ∷ y) (e ∙ append_assoc (value_lines w) (flat_map value_lines b) (end_line ∷ y)))
same_values (v ∷ a) [] x y fit other e = absurd (not_ended v y (flat_map value_lines a ++ end_line ∷ x) (sym e ∙ append_assoc (value_lines v) (flat_map value_lines a) (end_line ∷ x)))
same_values (v ∷ a) (w ∷ b) x y fit other e =
    let same = same_value_lines v w (flat_map value_lines a ++ end_line ∷ x) (flat_map value_lines b ++ end_line ∷ y) fit.0 other.0
    (sym (append_assoc (value_lines v) (flat_map value_lines a) (end_line ∷ x)) ∙ e ∙ append_assoc (value_lines w) (flat_map value_lines b) (end_line ∷ y)) in
    let text = same_text v w fit.0.bytes other.0.bytes same.0 same.1 in
    let rest = same_values a b x y fit.1 other.1 same.2 in
    (rw (text, rest.0) refl, rest.1)

pub same_states : (a b : List (List ℕ)) (x y : List (List ℕ)) → AllByRecursion IsValueText a → AllByRecursion IsValueText b → state_lines a ++ x ≡ state_lines b ++ y → (a ≡ b) × (x ≡ y)
same_states a b x y fit other e =
    same_values a b x y fit other
    (sym (append_assoc (flat_map value_lines a) (end_line ∷ []) x)
    ∙ tails heading heading ((flat_map value_lines a ++ end_line ∷ []) ++ x) ((flat_map value_lines b ++ end_line ∷ []) ++ y) e
    ∙ append_assoc (flat_map value_lines b) (end_line ∷ []) y)
