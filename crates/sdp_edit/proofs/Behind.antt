-- The lines before a line, and the text from a line on.
use Rattle.std.proofs.Common.{◌≡◌, ℕ, zero, suc, ◌+◌, ◌<◌, ◌≤◌, min, List, [], ◌∷◌, ◌++◌, length, take, drop, reverse, get_or, ◌*◌, Some, refl, ap, ◌∙◌, sym, arith, add-one}
use Rattle.std.proofs.lemmas.List.{reverse-append, length-reverse, length-take, length-append, drop_all}
use Rattle.std.proofs.lemmas.List.Sums.{count_by-le-length, sum_by_more, sum_by-take-le}
use Rattle.std.specs.List.{slice_get, slice_index_or}
use Rattle.sdp_text.specs.Lines.{size_of}
use Rattle.sdp_text.specs.Roles.{is_media}
use Rattle.sdp_edit.specs.Places.{line_place}
use Rattle.sdp_edit.specs.EditedText.{edited_from, edited_line}
use Rattle.sdp_edit.specs.declared.edits.Edit.{Edit}
use Rattle.sdp_edit.specs.declared.place.Place.{Place}
use Rattle.sdp_edit.specs.declared.step.Step.{Step}
use Rattle.sdp_edit.specs.Steps.{step_text}
use Rattle.sdp_edit.proofs.Lists.{drop-get}

-- the lines before the one at an index, the nearest first
abbrev pub behind : List (List ℕ) → ℕ → List (List ℕ)
behind lines i = reverse (take i lines)

-- what is written for the lines from an index on
abbrev pub rest_of : Edit → List (List ℕ) → ℕ → List ℕ
rest_of edit lines i = edited_from edit (behind lines i) (drop i lines)

take-get : {X : Type 0} (xs : List X) (i : ℕ) (x : X) → slice_get xs i ≡ Some x → take (suc i) xs ≡ take i xs ++ x ∷ []
take-get [] i x e = cc e
take-get (y ∷ ys) zero x e = let same : y ≡ x = cc e in ap (λ z. z ∷ []) same
take-get (y ∷ ys) (suc i) x e = ap (λ t. y ∷ t) (take-get ys i x e)

pub behind_more : (lines : List (List ℕ)) (i : ℕ) (line : List ℕ) → slice_get lines i ≡ Some line → behind lines (i + 1) ≡ line ∷ behind lines i
behind_more lines i line e = rw (add-one) (ap reverse (take-get lines i line e) ∙ reverse-append (take i lines) (line ∷ []))

pub rest_more : (edit : Edit) (lines : List (List ℕ)) (i : ℕ) (line : List ℕ) → slice_get lines i ≡ Some line
    → rest_of edit lines i ≡ edited_line edit (behind lines i) line (drop (i + 1) lines) ++ rest_of edit lines (i + 1)
unfolding edited_from
rest_more edit lines i line e =
    let next : drop i lines ≡ line ∷ drop (i + 1) lines = rw (add-one) (drop-get lines i line e) in
    ap (edited_from edit (behind lines i)) next ∙ ap (λ b. edited_line edit (behind lines i) line (drop (i + 1) lines) ++ edited_from edit b (drop (i + 1) lines)) (sym (behind_more lines i line e))

-- there are no more sections than lines
pub few_sections : (place : Place) (lines : List (List ℕ)) (i : ℕ) → place ≡ line_place (behind lines i) → place.section ≤ i
unfolding line_place
few_sections place lines i is =
    let count = count_by-le-length is_media (behind lines i) in
    let size : length (behind lines i) ≡ min i (length lines) = length-reverse (take i lines) ∙ length-take i lines in
    rw is (omega arith)

pub rest_none : (edit : Edit) (lines : List (List ℕ)) (i : ℕ) → length lines ≤ i → rest_of edit lines i ≡ []
unfolding edited_from
rest_none edit lines i past = ap (edited_from edit (behind lines i)) (drop_all i lines past)

get-inside : {X : Type 0} (xs : List X) (i : ℕ) (d : X) → i < length xs → slice_get xs i ≡ Some (slice_index_or xs i d)
get-inside [] i d inside = absurd (omega arith)
get-inside (x ∷ xs) zero d inside = refl
get-inside (x ∷ xs) (suc i) d inside = get-inside xs i d (omega arith)

get-length : {X : Type 0} (xs : List X) (i : ℕ) (x : X) → slice_get xs i ≡ Some x → i < length xs
get-length [] i x e = cc e
get-length (y ∷ ys) zero x e = omega arith
get-length (y ∷ ys) (suc i) x e = let rest = get-length ys i x e in omega arith

get-value : {X : Type 0} (xs : List X) (i : ℕ) (x d : X) → slice_get xs i ≡ Some x → get_or xs i d ≡ x
get-value [] i x d e = cc e
get-value (y ∷ ys) zero x d e = cc e
get-value (y ∷ ys) (suc i) x d e = get-value ys i x d e

-- what one step does
pub record IsStepped (edit : Edit) (lines : List (List ℕ)) (i : ℕ) (step : Step) : Type 0 where
  pub here : step.here ≡ line_place (behind lines (i + 1))
  pub rest : rest_of edit lines i ≡ step_text step ++ rest_of edit lines (i + 1)
  pub size : length (rest_of edit lines i) ≡ length (step_text step) + length (rest_of edit lines (i + 1))

pub stepped : (edit : Edit) (lines : List (List ℕ)) (i : ℕ) (place : Place) (step : Step) → i < length lines → place ≡ line_place (behind lines i)
    → ((before : List (List ℕ)) (line : List ℕ) → place ≡ line_place before → slice_get lines i ≡ Some line → step_text step ≡ edited_line edit before line (drop (i + 1) lines))
    → ((before : List (List ℕ)) (line : List ℕ) → place ≡ line_place before → slice_get lines i ≡ Some line → step.here ≡ line_place (line ∷ before))
    → IsStepped edit lines i step
stepped edit lines i place step inside is text here =
    let line : List ℕ = slice_index_or lines i [] in
    let found : slice_get lines i ≡ Some line = get-inside lines i [] inside in
    let rest : rest_of edit lines i ≡ step_text step ++ rest_of edit lines (i + 1) =
    rest_more edit lines i line found ∙ ap (λ t. t ++ rest_of edit lines (i + 1)) (sym (text (behind lines i) line is found)) in record {
      here = here (behind lines i) line is found ∙ ap line_place (sym (behind_more lines i line found));
      rest = rest;
      size = ap length rest ∙ length-append (step_text step) (rest_of edit lines (i + 1));
    }

-- the lines up to an index, with their ends, and the one at the index
pub size_more : (lines : List (List ℕ)) (i : ℕ) (line : List ℕ) → slice_get lines i ≡ Some line
    → size_of (take (i + 1) lines) ≡ size_of (take i lines) + (length line + 1)
size_more lines i line found =
    let inside = get-length lines i line found in
    let same : get_or lines i [] ≡ line = get-value lines i line [] found in
    sum_by_more (λ (l : List ℕ). length l + 1) lines i [] inside ∙ ap (λ (l : List ℕ). size_of (take i lines) + (length l + 1)) same

pub size_within : (lines : List (List ℕ)) (i : ℕ) → size_of (take i lines) ≤ size_of lines
size_within lines i = sum_by-take-le (λ (l : List ℕ). length l + 1) lines i

-- one step adds at most 296 bytes to its line
pub record IsShort (lines : List (List ℕ)) (i : ℕ) (step : Step) : Type 0 where
  pub short : length (step_text step) + 300 * size_of (take i lines) ≤ 300 * size_of (take (i + 1) lines)

pub step_short : (lines : List (List ℕ)) (i : ℕ) (step : Step) → i < length lines
    → ((line : List ℕ) → slice_get lines i ≡ Some line → length (step_text step) ≤ length line + 296) → IsShort lines i step
step_short lines i step inside short =
    let line : List ℕ = slice_index_or lines i [] in
    let found : slice_get lines i ≡ Some line = get-inside lines i [] inside in
    let more = size_more lines i line found in
    let few = short line found in
    record { short = omega arith }
