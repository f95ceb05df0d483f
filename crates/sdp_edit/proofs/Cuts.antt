-- A text cut at its first space.
use Rattle.std.proofs.Common.{◌≡◌, ℕ, ◌+◌, ◌-◌, ◌<◌, ◌≤◌, ◌==◌, Bool, List, [], ◌∷◌, ◌++◌, length, take, drop, get_or, arith}
use Rattle.std.proofs.lemmas.Bool.{eqb-true}
use Rattle.std.proofs.lemmas.List.{take_rest, length-take}
use Rattle.std.proofs.lemmas.List.Splits.{slice_split_first, slice_split_none}
use Rattle.std.proofs.lemmas.List.Sums.{fails_before_first, passes_at_first, split_at_first}
use Rattle.std.specs.List.{position_or_len, before_first}
use Rattle.sdp_text.specs.Pieces.{fields}

abbrev is_space : ℕ → Bool
is_space byte = byte == 32

-- the first space stands where the first field ends, if anything follows that
position_is : (text : List ℕ) (at : ℕ) → at ≡ length (before_first is_space text) → at < length text → position_or_len is_space text ≡ at
position_is text at e inside = omega (arith, length-take (position_or_len is_space text) text)

pub cut_fields : (text : List ℕ) (at : ℕ) → at ≡ length (before_first is_space text) → at < length text
    → fields text ≡ take at text ∷ fields (take (length text - (at + 1)) (drop (at + 1) text))
cut_fields text at e inside =
    let is = position_is text at e inside in
    let within : position_or_len is_space text < length text = omega arith in
    rw (take_rest text (at + 1), ← is) (slice_split_first is_space text 0 within)

pub cut_text : (text : List ℕ) (at : ℕ) → at ≡ length (before_first is_space text) → at < length text
    → text ≡ take at text ++ 32 ∷ take (length text - (at + 1)) (drop (at + 1) text)
cut_text text at e inside =
    let is = position_is text at e inside in
    let within : position_or_len is_space text < length text = omega arith in
    let space : get_or text (position_or_len is_space text) 0 ≡ 32 = eqb-true _ _ (passes_at_first is_space text 0 within) in
    let split = rw space at (split_at_first is_space text 0 within) in
    rw (take_rest text (at + 1), ← is) split

pub cut_nowhere : (text : List ℕ) (at : ℕ) → at ≡ length (before_first is_space text) → length text ≤ at → fields text ≡ text ∷ []
cut_nowhere text at e past =
    let all : length text ≤ position_or_len is_space text = omega (arith, length-take (position_or_len is_space text) text) in
    slice_split_none is_space text (λ k d inside. fails_before_first is_space text k d (omega arith))
