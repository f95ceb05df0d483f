-- The lines of a text, one after the other.
use Rattle.std.proofs.Common.{length, List, Option, Some, [], ap, append_assoc, map, sym, take, ℕ, ◌++◌, ◌+◌, ◌∙◌, ◌∷◌, ◌≡◌, ◌≤◌}
use Rattle.std.proofs.lemmas.List.{take-map, map_push}
use Rattle.std.specs.Borrow.{Bor}
use Rattle.std.specs.Str.Lines.{lines, lines_of_parts, strip_carriage_return}
use Rattle.std.specs.Option.{option_copied}
use Rattle.sdp_text.specs.Lines.{lines_of, size_of, without_empty_end}
use Rattle.std.proofs.lemmas.List.Sums.{sum_by_push, sum_by-take-le}
use Rattle.sdp_text.specs.Pieces.{pieces, pieces_after}
use Rattle.sdp_text.proofs.Cuts.{pieces_open, cut_on}

-- the lines without the empty ones at the end
pub kept_lines : (items slice shorter : List (Bor (List ℕ))) (n : ℕ) (text : List ℕ) → slice ≡ items → shorter ≡ take n items → take n (map (λ x. x.now) slice) ≡ without_empty_end (map (λ x. x.now) slice) → map (λ x. x.now) items ≡ lines text → map (λ x. x.now) shorter ≡ lines_of text
kept_lines items slice shorter n text same cut kept all =
    ap (map (λ (x : Bor (List ℕ)). x.now)) cut ∙ sym (take-map (λ (x : Bor (List ℕ)). x.now) n items) ∙ (rw same at kept) ∙ ap without_empty_end all

-- a line with its end
pub line_more : (rest line : List ℕ) (after : Option (Bor (List ℕ))) (more : Bor (List ℕ)) → pieces 10 rest ≡ line ∷ pieces_after 10 (option_copied after) → after ≡ Some more → lines rest ≡ strip_carriage_return line ∷ lines more.now
line_more rest line after more e s =
    let o = pieces_open 10 more.now in
    ap lines_of_parts (cut_on 10 rest line after more e s ∙ ap (λ ps. line ∷ ps) o.2) ∙ ap (λ ps. strip_carriage_return line ∷ lines_of_parts ps) (sym o.2)

-- one more line
pub all_more : (items longer : List (Bor (List ℕ))) (x : Bor (List ℕ)) (text rest line : List ℕ) (after : Option (Bor (List ℕ))) (more : Bor (List ℕ)) → longer ≡ items ++ x ∷ [] → x.now ≡ strip_carriage_return line → pieces 10 rest ≡ line ∷ pieces_after 10 (option_copied after) → after ≡ Some more → map (λ x. x.now) items ++ lines rest ≡ lines text → map (λ x. x.now) longer ++ lines more.now ≡ lines text
all_more items longer x text rest line after more pushed stripped e s known =
    ap (λ (l : List (Bor (List ℕ))). map (λ x. x.now) l ++ lines more.now) pushed
    ∙ ap (λ l. l ++ lines more.now) (map_push (λ (y : Bor (List ℕ)). y.now) items x)
    ∙ append_assoc (map (λ y. y.now) items) (x.now ∷ []) (lines more.now)
    ∙ ap (λ y. map (λ z. z.now) items ++ (y ∷ lines more.now)) stripped
    ∙ ap (λ l. map (λ z. z.now) items ++ l) (sym (line_more rest line after more e s))
    ∙ known

pub size_push : (items longer : List (Bor (List ℕ))) (x : Bor (List ℕ)) → longer ≡ items ++ x ∷ [] → size_of (map (λ y. y.now) longer) ≡ size_of (map (λ y. y.now) items) + (length x.now + 1)
size_push items longer x pushed =
    ap (λ (l : List (Bor (List ℕ))). size_of (map (λ y. y.now) l)) pushed ∙ ap size_of (map_push (λ (y : Bor (List ℕ)). y.now) items x) ∙ sum_by_push (λ (line : List ℕ). length line + 1) (map (λ y. y.now) items) x.now

pub size_cut : (items shorter : List (Bor (List ℕ))) (n : ℕ) → shorter ≡ take n items → size_of (map (λ y. y.now) shorter) ≤ size_of (map (λ y. y.now) items)
size_cut items shorter n cut =
    rw (cut, ← take-map) (sum_by-take-le (λ (line : List ℕ). length line + 1) (map (λ y. y.now) items) n)
