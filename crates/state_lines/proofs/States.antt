-- A part of a state was refused: at the same line its whole is.
use Rattle.std.proofs.Common.{◌≡◌, ◌∙◌, ap, sym, subst, refl, ℕ, ◌+◌, ◌-◌, ◌<◌, ◌≤◌, inl, inr, List, [], ◌∷◌, ◌++◌, length, take, drop, map, arith, append_assoc, append-nil}
use Rattle.std.specs.List.{flat_map, AllByRecursion}
use Rattle.std.proofs.lemmas.Bool.{cases_lt}
use Rattle.std.proofs.lemmas.Grind.{flat_map-append}
use Rattle.std.proofs.lemmas.List.{length-append, take-append-drop, length-take-le}
use Rattle.relay_outside.specs.declared.lines.LineCall.{LineCall}
use Rattle.state_lines.specs.declared.faults.LineFault.{LineFault}
use Rattle.state_lines.specs.LineReads.{text_read, RefusesForm}
use Rattle.state_lines.specs.StateLines.{heading, end_line, value_lines, begun_lines, state_lines, IsValueText, IsFront, IsOneLine, IsValue, IsState}
use Rattle.state_lines.proofs.ByteLists.{heads, tails}
use Rattle.state_lines.proofs.Refusals.{Fits, part_refused}
use Rattle.state_lines.proofs.ValueLines.{same_front, same_value_lines, Left, left_behind, empty_values, count_empty, fit_empty, fit_append}

no_lines : (lines : List (List ℕ)) → length lines ≡ 0 → lines ≡ []
no_lines [] none = refl
no_lines (x ∷ lines) none = absurd (omega (arith, none))

one_line : (line other : List ℕ) (lines rest : List (List ℕ)) → (other ∷ lines) ++ rest ≡ line ∷ [] → length lines ≡ 0 → other ∷ lines ≡ line ∷ []
one_line line other [] rest e none = ap (λ (x : List ℕ). x ∷ []) (heads other line rest [] e)
one_line line other (x ∷ lines) rest e none = absurd (omega (arith, none))

-- before one line there is nothing
none_before : (line : List ℕ) (lines : List (List ℕ)) → IsFront (IsOneLine line) lines → (IsOneLine line lines → ⊥) → lines ≡ []
none_before line [] front unfinished = refl
none_before line (other ∷ lines) front unfinished =
    let size : length lines + length front.rest ≡ 0 = omega (arith, ap length front.whole, length-append (other ∷ lines) front.rest) in
    absurd (unfinished (one_line line other lines front.rest front.whole (omega (arith, size))))

front_of_line : (line other : List ℕ) (lines : List (List ℕ)) → lines ≡ [] → other ≡ line → IsFront (IsOneLine line) (lines ++ other ∷ [])
front_of_line line other lines none same = subst (λ (l : List (List ℕ)). IsFront (IsOneLine line) (l ++ other ∷ [])) (sym none) (record { rest = []; whole = ap (λ (x : List ℕ). x ∷ []) same })

-- The state's own lines: those of the values, and behind them the last.
whole_state : (count : ℕ) (values : List (List ℕ)) (lines rest : List (List ℕ)) → length values ≡ count → AllByRecursion IsValueText values → lines ++ rest ≡ state_lines values → IsFront (IsState count) lines
whole_state count values lines rest many fit e = record { rest = rest; whole = record { values = values; many = many; fit = fit; lines_are = e } }

-- what a state that begins with the lines of these values has behind them
behind : (count : ℕ) (values y : List (List ℕ)) → AllByRecursion IsValueText values → (is : IsState count (begun_lines values ++ y)) → Left is.values values [] y
behind count values y fit is =
    left_behind values is.values [] y fit is.fit
    (tails heading heading (flat_map value_lines is.values ++ end_line ∷ []) (flat_map value_lines values ++ y) (sym is.lines_are))

-- The heading.
heading_fits : (count : ℕ) → Fits (IsOneLine heading) (IsState count) []
heading_fits count = record {
  begins = λ lines front.
      let values = empty_values count in
      whole_state count values lines (front.rest ++ (flat_map value_lines values ++ end_line ∷ [])) (count_empty count) (fit_empty count)
      (sym (append_assoc lines front.rest (flat_map value_lines values ++ end_line ∷ [])) ∙ ap (λ (l : List (List ℕ)). l ++ (flat_map value_lines values ++ end_line ∷ [])) front.whole);
  goes_on = λ lines front unfinished is.
      let none = none_before heading lines front unfinished in
      omega (arith, ap length (sym none ∙ is.lines_are));
  leads_back = λ lines line front unfinished whole.
      let none = none_before heading lines front unfinished in
      let one : (line ∷ []) ++ whole.rest ≡ state_lines whole.whole.values =
      ap (λ (l : List (List ℕ)). (l ++ line ∷ []) ++ whole.rest) (sym none) ∙ whole.whole.lines_are in
      front_of_line heading line lines none (heads line heading whole.rest (flat_map value_lines whole.whole.values ++ end_line ∷ []) one);
}

pub heading_refused : (count : ℕ) (f : LineFault) (calls : List LineCall) → RefusesForm (IsOneLine heading) 0 f calls → RefusesForm (IsState count) 0 f calls
heading_refused count f calls is = part_refused (IsOneLine heading) (IsState count) [] (heading_fits count) 0 0 refl f calls is

last_line : (more : List (List ℕ)) (line : List ℕ) (rest : List (List ℕ)) → length more ≡ 0 → flat_map value_lines more ++ end_line ∷ [] ≡ line ∷ rest → line ≡ end_line
last_line [] line rest none e = sym (heads end_line line [] rest e)
last_line (v ∷ more) line rest none e = absurd (omega (arith, none))

-- the last line, behind all values
module _ (count : ℕ) (values : List (List ℕ)) (fit : AllByRecursion IsValueText values) where
  ending_fits : length values ≡ count → Fits (IsOneLine end_line) (IsState count) (begun_lines values)
  ending_fits many = record {
    begins = λ lines front.
        whole_state count values (begun_lines values ++ lines) front.rest many fit
        (append_assoc (begun_lines values) lines front.rest ∙ ap (λ (l : List (List ℕ)). begun_lines values ++ l) front.whole);
    goes_on = λ lines front unfinished is.
        let none = none_before end_line lines front unfinished in
        let left = behind count values lines fit is in
        omega (arith, ap length (left.lines ∙ none), length-append (flat_map value_lines left.more) (end_line ∷ []));
    leads_back = λ lines line front unfinished whole.
        let none = none_before end_line lines front unfinished in
        let there : (begun_lines values ++ (lines ++ line ∷ [])) ++ whole.rest ≡ begun_lines values ++ line ∷ whole.rest =
        append_assoc (begun_lines values) (lines ++ line ∷ []) whole.rest ∙ ap (λ (l : List (List ℕ)). begun_lines values ++ ((l ++ line ∷ []) ++ whole.rest)) none in
        let is : IsState count (begun_lines values ++ line ∷ whole.rest) = subst (IsState count) there whole.whole in
        let left = behind count values (line ∷ whole.rest) fit is in
        let last = last_line left.more line whole.rest (omega (arith, left.many, is.many, many)) left.lines in
        front_of_line end_line line lines none last;
  }

  pub ending_refused : length values ≡ count → (earlier : ℕ) → earlier ≡ length (begun_lines values) → (f : LineFault) (calls : List LineCall) → RefusesForm (IsOneLine end_line) earlier f calls
      → RefusesForm (IsState count) 0 f (map text_read (begun_lines values) ++ calls)
  ending_refused many earlier at f calls is = part_refused (IsOneLine end_line) (IsState count) (begun_lines values) (ending_fits many) 0 earlier (omega (arith, at)) f calls is

-- one value, behind others and before the rest
module _ (count : ℕ) (values : List (List ℕ)) (fit : AllByRecursion IsValueText values) (part : length values < count) where
  value_begins_state : (lines : List (List ℕ)) → IsFront IsValue lines → IsFront (IsState count) (begun_lines values ++ lines)
  value_begins_state lines front =
      let t = front.whole.text in
      let more = empty_values (count - (length values + 1)) in
      let all = values ++ t ∷ more in
      let many : length all ≡ count = omega (arith, length-append values (t ∷ more), count_empty (count - (length values + 1)), part) in
      let left = flat_map value_lines more ++ end_line ∷ [] in
      let lines_are : flat_map value_lines all ≡ flat_map value_lines values ++ ((lines ++ front.rest) ++ flat_map value_lines more) =
      flat_map-append value_lines values (t ∷ more) ∙ ap (λ (l : List (List ℕ)). flat_map value_lines values ++ (l ++ flat_map value_lines more)) (sym front.whole.lines_are) in
      whole_state count all (begun_lines values ++ lines) (front.rest ++ left) many
      (fit_append values (t ∷ more) fit (front.whole.fits, fit_empty (count - (length values + 1))))
      (append_assoc (begun_lines values) lines (front.rest ++ left)
      ∙ ap (λ (l : List (List ℕ)). begun_lines values ++ l) (sym (append_assoc lines front.rest left) ∙ sym (append_assoc (lines ++ front.rest) (flat_map value_lines more) (end_line ∷ [])))
      ∙ sym (append_assoc (begun_lines values) ((lines ++ front.rest) ++ flat_map value_lines more) (end_line ∷ []))
      ∙ ap (λ (l : List (List ℕ)). (heading ∷ l) ++ end_line ∷ []) (sym lines_are))

  -- the value that stands there in a state
  record NextValue (y : List (List ℕ)) : Type 0 where
    text : List ℕ
    fits : IsValueText text
    rest : List (List ℕ)
    lines : value_lines text ++ (rest ++ end_line ∷ []) ≡ y

  next_of : (more y : List (List ℕ)) → 0 < length more → AllByRecursion IsValueText more → flat_map value_lines more ++ end_line ∷ [] ≡ y → NextValue y
  next_of [] y some fits e = absurd (omega (arith, some))
  next_of (v ∷ more) y some fits e = record { text = v; fits = fits.0; rest = flat_map value_lines more; lines = sym (append_assoc (value_lines v) (flat_map value_lines more) (end_line ∷ [])) ∙ e }

  next_value : (y : List (List ℕ)) → IsState count (begun_lines values ++ y) → NextValue y
  next_value y is =
      let left = behind count values y fit is in
      next_of left.more y (omega (arith, left.many, is.many, part)) left.fit left.lines

  not_whole : (lines : List (List ℕ)) → IsFront IsValue lines → IsState count (begun_lines values ++ lines) → ⊥
  not_whole lines front is =
      let next = next_value lines is in
      let t = front.whole.text in
      let same = same_value_lines next.text t ((next.rest ++ end_line ∷ []) ++ front.rest) [] next.fits front.whole.fits
      (sym (append_assoc (value_lines next.text) (next.rest ++ end_line ∷ []) front.rest) ∙ ap (λ (l : List (List ℕ)). l ++ front.rest) next.lines ∙ front.whole.lines_are ∙ sym (append-nil (value_lines t))) in
      omega (arith, ap length same.2, length-append (next.rest ++ end_line ∷ []) front.rest, length-append next.rest (end_line ∷ []))

  -- a value that ends within these lines ends just with them
  ends_with : (lines : List (List ℕ)) (v : List ℕ) (x : List (List ℕ)) (y : List (List ℕ)) → IsFront IsValue lines → IsValueText v → value_lines v ++ x ≡ lines ++ y → length (value_lines v) ≤ length lines → IsValue lines
  ends_with lines v x y front fits e short =
      let t = front.whole.text in
      let n = length (value_lines v) in
      let cut : take n lines ++ drop n lines ≡ lines = take-append-drop n lines in
      let same = same_front (value_lines v) (take n lines) x (drop n lines ++ y) (sym (length-take-le n lines short))
      (e ∙ ap (λ (l : List (List ℕ)). l ++ y) (sym cut) ∙ append_assoc (take n lines) (drop n lines) y) in
      let all : value_lines v ++ (drop n lines ++ front.rest) ≡ value_lines t ++ [] =
      ap (λ (l : List (List ℕ)). l ++ (drop n lines ++ front.rest)) same.0 ∙ sym (append_assoc (take n lines) (drop n lines) front.rest)
      ∙ ap (λ (l : List (List ℕ)). l ++ front.rest) cut ∙ front.whole.lines_are ∙ sym (append-nil (value_lines t)) in
      let none = same_value_lines v t (drop n lines ++ front.rest) [] fits front.whole.fits all in
      let empty : drop n lines ≡ [] = no_lines (drop n lines) (omega (arith, ap length none.2, length-append (drop n lines) front.rest)) in
      record { text = v; fits = fits; lines_are = sym cut ∙ ap (λ (l : List (List ℕ)). take n lines ++ l) empty ∙ append-nil (take n lines) ∙ sym same.0 }

  back_to_value : (lines : List (List ℕ)) (line : List ℕ) → IsFront IsValue lines → (IsValue lines → ⊥) → IsFront (IsState count) (begun_lines values ++ (lines ++ line ∷ [])) → IsFront IsValue (lines ++ line ∷ [])
  back_to_value lines line front unfinished whole =
      let is : IsState count (begun_lines values ++ ((lines ++ line ∷ []) ++ whole.rest)) = subst (IsState count) (append_assoc (begun_lines values) (lines ++ line ∷ []) whole.rest) whole.whole in
      let next = next_value ((lines ++ line ∷ []) ++ whole.rest) is in
      elim (cases_lt (length lines) (length (value_lines next.text))) [
        | inl longer ↦
            let n = length (lines ++ line ∷ []) in
            let fits : n ≤ length (value_lines next.text) = omega (arith, length-append lines (line ∷ []), longer) in
            let cut = take-append-drop n (value_lines next.text) in
            let same = same_front (take n (value_lines next.text)) (lines ++ line ∷ []) (drop n (value_lines next.text) ++ (next.rest ++ end_line ∷ [])) whole.rest (length-take-le n (value_lines next.text) fits)
            (sym (append_assoc (take n (value_lines next.text)) (drop n (value_lines next.text)) (next.rest ++ end_line ∷ [])) ∙ ap (λ (l : List (List ℕ)). l ++ (next.rest ++ end_line ∷ [])) cut ∙ next.lines) in
            record {
              rest = drop n (value_lines next.text);
              whole = record { text = next.text; fits = next.fits; lines_are = ap (λ (l : List (List ℕ)). l ++ drop n (value_lines next.text)) (sym same.0) ∙ cut };
            }
        | inr short ↦ absurd (unfinished (ends_with lines next.text (next.rest ++ end_line ∷ []) (line ∷ whole.rest) front next.fits (next.lines ∙ append_assoc lines (line ∷ []) whole.rest) short))
      ]

  value_fits : Fits IsValue (IsState count) (begun_lines values)
  value_fits = record { begins = value_begins_state; goes_on = λ lines front unfinished is. not_whole lines front is; leads_back = back_to_value }

  pub value_refused : (earlier : ℕ) → earlier ≡ length (begun_lines values) → (f : LineFault) (calls : List LineCall) → RefusesForm IsValue earlier f calls → RefusesForm (IsState count) 0 f (map text_read (begun_lines values) ++ calls)
  value_refused earlier at f calls is = part_refused IsValue (IsState count) (begun_lines values) value_fits 0 earlier (omega (arith, at)) f calls is
