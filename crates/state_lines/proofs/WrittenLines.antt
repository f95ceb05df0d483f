-- The lines of a text as they are written.
use Rattle.std.proofs.Common.{◌≡◌, ◌∙◌, ap, sym, subst, refl, ℕ, ◌+◌, ◌-◌, ◌%◌, ◌/◌, ◌<◌, min, List, [], ◌∷◌, ◌++◌, Option, Result, Ok, Err, true, false, length, take, drop, map, arith, inl, inr}
use Rattle.std.specs.List.{between}
use Rattle.std.proofs.Math.Seq.{take-add}
use Rattle.std.proofs.lemmas.List.{map-append, length-take, length-drop, take-append-drop, take_all}
use Rattle.std.proofs.lemmas.Bool.{cases_lt}
use Rattle.relay_outside.specs.DeviceLogs.{Gains, Gained, is_done}
use Rattle.relay_outside.proofs.Telling.{gained_none, gained_one, gained_both}
use Rattle.relay_outside.specs.declared.answers.Failed.{Failed}
use Rattle.relay_outside.specs.declared.lines.WriteCall.{WriteCall}
use Rattle.hex.specs.Hex.{encode_lower}
use Rattle.state_lines.specs.LineWrites.{line_write, StopsWithin, WritesLines}
use Rattle.state_lines.specs.StateLines.{digit_lines, length_line, value_lines}
use Rattle.state_lines.proofs.DigitLines.{digits_more, digits_next}

-- as much as there is, or so much: the same where both are all, or both so much
same_part : (n m : ℕ) (xs : List ℕ) → n ≡ min (length xs) m → take n xs ≡ take m xs
same_part n m xs e = elim (cases_lt m (length xs)) [
  | inl cut ↦ let same : n ≡ m = omega (arith, e, cut) in ap (λ (k : ℕ). take k xs) same
  | inr all ↦ take_all n xs (omega (arith, e, all)) ∙ sym (take_all m xs all)
]

-- one line
pub one_written : (line : List ℕ) (r : Result Unit Failed) → WritesLines (line ∷ []) r (line_write (is_done r) line ∷ [])
one_written line (Ok done) = refl
one_written line (Err failed) = record { before = []; line = line; rest = []; lines_are = refl; writes = refl }

-- The line of digits of the bytes from `at` on.
module _ (text : List ℕ) (at end : ℕ) (low : at < length text) (whole : at % 8000 ≡ 0) (to : end ≡ at + min (length text - at) 8000) where
  count : ℕ
  count = min (length text - at) 8000

  cut : length (take at text) ≡ at
  cut = omega (arith, length-take at text, low)

  pub more_written : (calls : List WriteCall) → calls ≡ map (line_write true) (digit_lines (take at text))
      → calls ++ line_write true (encode_lower (between at end text)) ∷ [] ≡ map (line_write true) (digit_lines (take end text))
  more_written calls before =
      let bytes = between at end text in
      let size : end - at ≡ min (length text - at) 8000 = omega (arith, to) in
      let long : length bytes ≡ min (length text - at) 8000 = omega (arith, length-take (end - at) (drop at text), length-drop at text, size) in
      let there : end ≡ at + (end - at) = omega (arith, to) in
      let all : take end text ≡ take at text ++ bytes =
      ap (λ (n : ℕ). take n text) there ∙ take-add at (end - at) text in
      let lines : digit_lines (take end text) ≡ digit_lines (take at text) ++ encode_lower bytes ∷ [] =
      ap digit_lines all ∙ digits_more (take at text) bytes (omega (arith, cut, whole)) (omega (arith, long, low)) (omega (arith, long)) in
      ap (λ (xs : List WriteCall). xs ++ line_write true (encode_lower bytes) ∷ []) before
      ∙ sym (map-append (line_write true) (digit_lines (take at text)) (encode_lower bytes ∷ []))
      ∙ ap (map (line_write true)) (sym lines)

  pub stopped : (calls : List WriteCall) → calls ≡ map (line_write true) (digit_lines (take at text))
      → StopsWithin (digit_lines text) (calls ++ line_write false (encode_lower (between at end text)) ∷ [])
  stopped calls before =
      let bytes = between at end text in
      let more = drop at text in
      let front = take at text in
      let same : bytes ≡ take 8000 more = same_part (end - at) 8000 more (omega (arith, to, length-drop at text)) in
      let some : 0 < length more = omega (arith, length-drop at text, low) in
      record {
        before = digit_lines front;
        line = encode_lower bytes;
        rest = drop (length front / 8000 + 1) (digit_lines (front ++ more));
        lines_are = ap digit_lines (sym (take-append-drop at text)) ∙ digits_next front more (omega (arith, cut, whole)) some
            ∙ ap (λ (b : List ℕ). digit_lines front ++ encode_lower b ∷ drop (length front / 8000 + 1) (digit_lines (front ++ more))) (sym same);
        writes = ap (λ (xs : List WriteCall). xs ++ line_write false (encode_lower bytes) ∷ []) before;
      }

-- all lines of a value
pub value_written : (text : List ℕ) (r : Result Unit Failed) (calls : List WriteCall) → WritesLines (digit_lines text) r calls
    → WritesLines (value_lines text) r (line_write true (length_line (length text)) ∷ calls)
value_written text (Ok done) calls is = ap (λ (xs : List WriteCall). line_write true (length_line (length text)) ∷ xs) is
value_written text (Err failed) calls is = record {
  before = length_line (length text) ∷ is.before;
  line = is.line;
  rest = is.rest;
  lines_are = ap (λ (xs : List (List ℕ)). length_line (length text) ∷ xs) is.lines_are;
  writes = ap (λ (xs : List WriteCall). line_write true (length_line (length text)) ∷ xs) is.writes;
}

pub value_stopped : (text : List ℕ) → StopsWithin (value_lines text) (line_write false (length_line (length text)) ∷ [])
value_stopped text = record { before = []; line = length_line (length text); rest = digit_lines text; lines_are = refl; writes = refl }

-- As the devices tell it.
module _ (old new : Option (List WriteCall)) where
  pub told_one : (line : List ℕ) (r : Result Unit Failed) → Gains old new (line_write (is_done r) line) → Gained old new (WritesLines (line ∷ []) r)
  told_one line r gains = gained_one old new (line_write (is_done r) line) (WritesLines (line ∷ []) r) gains (one_written line r)

  pub told_stop : (text : List ℕ) (failed : Failed) → Gains old new (line_write false (length_line (length text))) → Gained old new (WritesLines (value_lines text) (Err failed))
  told_stop text failed gains = gained_one old new (line_write false (length_line (length text))) (StopsWithin (value_lines text)) gains (value_stopped text)

pub told_none : (log : Option (List WriteCall)) (text : List ℕ) → Gained log log (λ calls. calls ≡ map (line_write true) (digit_lines (take 0 text)))
told_none log text = gained_none log (λ calls. calls ≡ map (line_write true) (digit_lines (take 0 text))) refl

module _ (first mid last : Option (List WriteCall)) where
  pub told_value : (text : List ℕ) (r : Result Unit Failed) → Gains first mid (line_write true (length_line (length text))) → Gained mid last (WritesLines (digit_lines text) r)
      → Gained first last (WritesLines (value_lines text) r)
  told_value text r gains more =
      gained_both first mid last (λ calls. calls ≡ line_write true (length_line (length text)) ∷ []) (WritesLines (digit_lines text) r) (WritesLines (value_lines text) r)
      (λ xs ys before after. subst (λ (front : List WriteCall). WritesLines (value_lines text) r (front ++ ys)) (sym before) (value_written text r ys after))
      (gained_one first mid (line_write true (length_line (length text))) (λ calls. calls ≡ line_write true (length_line (length text)) ∷ []) gains refl) more

  pub told_more : (text : List ℕ) (at end : ℕ) → at < length text → at % 8000 ≡ 0 → end ≡ at + min (length text - at) 8000
      → Gained first mid (λ calls. calls ≡ map (line_write true) (digit_lines (take at text))) → Gains mid last (line_write true (encode_lower (between at end text)))
      → Gained first last (λ calls. calls ≡ map (line_write true) (digit_lines (take end text)))
  told_more text at end low whole to before gains =
      let call = line_write true (encode_lower (between at end text)) in
      gained_both first mid last (λ calls. calls ≡ map (line_write true) (digit_lines (take at text))) (λ calls. calls ≡ call ∷ []) (λ calls. calls ≡ map (line_write true) (digit_lines (take end text)))
      (λ xs ys x y. ap (λ (more : List WriteCall). xs ++ more) y ∙ more_written text at end low whole to xs x)
      before (gained_one mid last call (λ calls. calls ≡ call ∷ []) gains refl)

  pub told_stopped : (text : List ℕ) (at end : ℕ) (failed : Failed) → at < length text → at % 8000 ≡ 0 → end ≡ at + min (length text - at) 8000
      → Gained first mid (λ calls. calls ≡ map (line_write true) (digit_lines (take at text))) → Gains mid last (line_write false (encode_lower (between at end text)))
      → Gained first last (WritesLines (digit_lines text) (Err failed))
  told_stopped text at end failed low whole to before gains =
      let call = line_write false (encode_lower (between at end text)) in
      gained_both first mid last (λ calls. calls ≡ map (line_write true) (digit_lines (take at text))) (λ calls. calls ≡ call ∷ []) (StopsWithin (digit_lines text))
      (λ xs ys x y. subst (λ (more : List WriteCall). StopsWithin (digit_lines text) (xs ++ more)) (sym y) (stopped text at end low whole to xs x))
      before (gained_one mid last call (λ calls. calls ≡ call ∷ []) gains refl)
