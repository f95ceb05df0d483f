-- The lines of digits of a text, as it is cut.
use Rattle.std.proofs.Common.{◌≡◌, ℕ, List, [], ◌∷◌, ◌++◌, ◌+◌, ◌-◌, ◌*◌, ◌/◌, ◌%◌, ◌<◌, ◌≤◌, ◌^◌, zero, suc, min, length, take, drop, map, get_or, refl, sym, ◌∙◌, ap, arith, append_assoc}
use Rattle.std.specs.List.{range_with_len}
use Rattle.std.proofs.Math.Seq.{drop-append_seam}
use Rattle.std.proofs.lemmas.List.{length-append, length-take, length-drop, take-append-le, drop-append-le, take-append-drop, take_all, drop_more, drop_all, get_or-append_right}
use Rattle.std.proofs.lemmas.List.FromFn.{length-map-range_with_len, get_or-map-range_with_len, take-map-range_with_len}
use Rattle.hex.specs.Hex.{encode_lower, IsBytes}
use Rattle.state_lines.specs.OneRead.{IsDigitLine}
use Rattle.state_lines.specs.StateLines.{line_bytes, line_count, digit_lines, AreDigitLines, IsFront}
use Rattle.state_lines.proofs.ByteLists.{bytes_append, bytes_take, bytes_drop, zeros, length_zeros, bytes_zeros}

same_lines : {X : Type 0} (f g : ℕ → X) (a k : ℕ) → ((i : ℕ) → i < a + k → f i ≡ g i) → map f (range_with_len a k) ≡ map g (range_with_len a k)
same_lines f g a zero same = refl
same_lines f g a (suc k) same =
    let head : f a ≡ g a = same a (omega arith) in
    let tail = same_lines f g (a + 1) k (λ i low. same i (omega arith)) in
    rw (head, tail) refl

pub digits_of_line : List ℕ → ℕ → List ℕ
digits_of_line text number = encode_lower (line_bytes text number)

pub count_of : (text : List ℕ) → length (digit_lines text) ≡ line_count (length text)
count_of text = length-map-range_with_len (λ number. encode_lower (line_bytes text number)) 0 (line_count (length text))

-- whole lines before the end of a text are those of a longer one
same_bytes : (text more : List ℕ) (k i : ℕ) → 8000 * k ≡ length text → i < k → line_bytes (text ++ more) i ≡ line_bytes text i
same_bytes text more k i whole low =
    ap (take 8000) (drop-append-le (8000 * i) text more (omega arith))
    ∙ take-append-le 8000 (drop (8000 * i) text) more (omega (arith, length-drop (8000 * i) text))

-- the front of the lines of a longer text, and the rest
pub digits_front : (text more : List ℕ) → length text % 8000 ≡ 0
    → take (length text / 8000) (digit_lines (text ++ more)) ≡ digit_lines text
digits_front text more whole =
    let k = length text / 8000 in
    let all = line_count (length (text ++ more)) in
    let count : line_count (length text) ≡ k = omega arith in
    let cut : 8000 * k ≡ length text = omega arith in
    let below : k ≤ all = omega (arith, length-append text more) in
    take-map-range_with_len (λ number. encode_lower (line_bytes (text ++ more) number)) 0 all k below
    ∙ same_lines (λ number. encode_lower (line_bytes (text ++ more) number)) (λ number. encode_lower (line_bytes text number)) 0 k (λ i low. ap encode_lower (same_bytes text more k i cut (omega arith)))
    ∙ ap (λ (n : ℕ). map (λ number. encode_lower (line_bytes text number)) (range_with_len 0 n)) (sym count)

pub digits_rest : (text more : List ℕ) → length text % 8000 ≡ 0
    → digit_lines (text ++ more) ≡ digit_lines text ++ drop (length text / 8000) (digit_lines (text ++ more))
digits_rest text more whole =
    sym (take-append-drop (length text / 8000) (digit_lines (text ++ more)))
    ∙ ap (λ (front : List (List ℕ)). front ++ drop (length text / 8000) (digit_lines (text ++ more))) (digits_front text more whole)

-- the line after these
line_at : (text more : List ℕ) → length text % 8000 ≡ 0 → 0 < length more → get_or (digit_lines (text ++ more)) (length text / 8000) [] ≡ encode_lower (take 8000 more)
line_at text more whole some =
    let k = length text / 8000 in
    let cut : 8000 * k ≡ length text = omega arith in
    get_or-map-range_with_len (λ number. encode_lower (line_bytes (text ++ more) number)) 0 (line_count (length (text ++ more))) k k [] (omega (arith, length-append text more)) (omega arith)
    ∙ ap (λ (n : ℕ). encode_lower (take 8000 (drop n (text ++ more)))) cut
    ∙ ap (λ (rest : List ℕ). encode_lower (take 8000 rest)) (drop-append_seam text more)

-- one line, and what follows it
pub digits_next : (text more : List ℕ) → length text % 8000 ≡ 0 → 0 < length more
    → digit_lines (text ++ more) ≡ digit_lines text ++ encode_lower (take 8000 more) ∷ drop (length text / 8000 + 1) (digit_lines (text ++ more))
digits_next text more whole some =
    let k = length text / 8000 in
    let lines = digit_lines (text ++ more) in
    let low : k < length lines = omega (arith, count_of (text ++ more), length-append text more) in
    digits_rest text more whole
    ∙ ap (λ (rest : List (List ℕ)). digit_lines text ++ rest)
    (drop_more lines k [] low ∙ ap (λ (line : List ℕ). line ∷ drop (k + 1) lines) (line_at text more whole some))

pub digits_more : (text more : List ℕ) → length text % 8000 ≡ 0 → 0 < length more → length more ≤ 8000
    → digit_lines (text ++ more) ≡ digit_lines text ++ encode_lower more ∷ []
digits_more text more whole some short =
    let lines = digit_lines (text ++ more) in
    let none : drop (length text / 8000 + 1) lines ≡ [] = drop_all (length text / 8000 + 1) lines (omega (arith, count_of (text ++ more), length-append text more)) in
    digits_next text more whole some
    ∙ ap (λ (rest : List (List ℕ)). digit_lines text ++ encode_lower (take 8000 more) ∷ rest) none
    ∙ ap (λ (bytes : List ℕ). digit_lines text ++ encode_lower bytes ∷ []) (take_all 8000 more short)

-- As the lines of a text of so many bytes are read.
module _ (len : ℕ) (text : List ℕ) (whole : length text % 8000 ≡ 0) (part : length text < len) where
  pub digits_begin : len < 10 ^ 64 → IsBytes text → IsFront (AreDigitLines len) (digit_lines text)
  digits_begin counted fit =
      let more = zeros (len - length text) in
      let all : length (text ++ more) ≡ len = omega (arith, length-append text more, length_zeros (len - length text)) in
      record {
        rest = drop (length text / 8000) (digit_lines (text ++ more));
        whole = record {
          text = text ++ more;
          fits = record { bytes = bytes_append text more fit (bytes_zeros (len - length text)); counted = omega (arith, all, counted) };
          length_is = all;
          lines_are = sym (digits_rest text more whole);
        };
      }

  pub digits_go_on : AreDigitLines len (digit_lines text) → ⊥
  digits_go_on is = omega (arith, count_of text, count_of is.text, ap length is.lines_are, is.length_is, whole, part)

  pub digits_wanted : (line : List ℕ) (count : ℕ) → count ≡ min (len - length text) 8000 → IsFront (AreDigitLines len) (digit_lines text ++ line ∷ []) → IsDigitLine count line
  digits_wanted line count room front =
      let k = length text / 8000 in
      let t = front.whole.text in
      let lines : (digit_lines text ++ line ∷ []) ++ front.rest ≡ digit_lines t = front.whole.lines_are in
      let before : length (digit_lines text) ≡ k = omega (arith, count_of text) in
      let none : k - k ≡ 0 = omega arith in
      let same : get_or ((digit_lines text ++ line ∷ []) ++ front.rest) k [] ≡ line =
      ap (λ (all : List (List ℕ)). get_or all k []) (append_assoc (digit_lines text) (line ∷ []) front.rest)
      ∙ get_or-append_right (digit_lines text) (line ∷ front.rest) k k [] before (omega arith)
      ∙ ap (λ (i : ℕ). get_or (line ∷ front.rest) i []) none in
      let there : get_or (digit_lines t) k [] ≡ encode_lower (line_bytes t k) =
      get_or-map-range_with_len (λ number. encode_lower (line_bytes t number)) 0 (line_count (length t)) k k [] (omega (arith, front.whole.length_is)) (omega arith) in
      record {
        text = line_bytes t k;
        bytes = bytes_take 8000 (drop (8000 * k) t) (bytes_drop (8000 * k) t front.whole.fits.bytes);
        length_is = omega (arith, length-take 8000 (drop (8000 * k) t), length-drop (8000 * k) t, front.whole.length_is, room);
        line_is = sym same ∙ ap (λ (all : List (List ℕ)). get_or all k []) lines ∙ there;
      }
