-- Lines that are empty at the end of a text.
use Rattle.std.proofs.Common.{◌≡◌, ◌≢◌, ℕ, ◌+◌, ◌-◌, ◌<◌, ◌≤◌, eqb, cond, true, false, ◌&&◌, List, [], ◌∷◌, ◌++◌, length, take, get_or, map, refl, sym, ap, ◌∙◌, arith}
use Rattle.std.proofs.lemmas.List.{take_more, get_or-map, length-map}
use Rattle.std.proofs.lemmas.Bool.{ne_eqb, eq-eqb, eqb-true, eqb-false}
use Rattle.std.specs.Borrow.{Bor}
use Rattle.sdp_text.specs.Lines.{all_empty, without_empty_end}

all_empty_push : (lines : List (List ℕ)) (line : List ℕ) → length line ≡ 0 → all_empty (lines ++ line ∷ []) ≡ all_empty lines
all_empty_push [] line e = rw (eq-eqb (length line) 0 e) refl
all_empty_push (x ∷ xs) line e = ap (λ b. eqb (length x) 0 && b) (all_empty_push xs line e)

not_all_empty_push : (lines : List (List ℕ)) (line : List ℕ) → length line ≢ 0 → all_empty (lines ++ line ∷ []) ≡ false
not_all_empty_push [] line e = rw (ne_eqb (length line) 0 e) refl
not_all_empty_push (x ∷ xs) line e = rw (not_all_empty_push xs line e) (elim (eqb (length x) 0) as (λ b. (b && false) ≡ false) [ true ↦ refl | false ↦ refl ])

-- an empty line at the end is dropped
drops : (lines : List (List ℕ)) (line : List ℕ) → length line ≡ 0 → without_empty_end (lines ++ line ∷ []) ≡ without_empty_end lines
drops [] line e = rw (eq-eqb (length line) 0 e) refl
drops (x ∷ xs) line e = rw (all_empty_push xs line e, drops xs line e) refl

-- where the last line isn't empty, all stay
keeps : (lines : List (List ℕ)) (line : List ℕ) → length line ≢ 0 → without_empty_end (lines ++ line ∷ []) ≡ lines ++ line ∷ []
keeps [] line e = rw (ne_eqb (length line) 0 e) refl
keeps (x ∷ xs) line e = rw (not_all_empty_push xs line e, keeps xs line e) (elim (eqb (length x) 0) as (λ b. cond (b && false) [] (x ∷ (xs ++ line ∷ [])) ≡ x ∷ (xs ++ line ∷ [])) [ true ↦ refl | false ↦ refl ])

pub drops_at : (lines : List (List ℕ)) (n : ℕ) → 0 < n → n ≤ length lines → length (get_or lines (n - 1) []) ≡ 0 → without_empty_end (take n lines) ≡ without_empty_end (take (n - 1) lines)
drops_at lines n some within e =
    let last : n ≡ (n - 1) + 1 = omega arith in
    ap (λ k. without_empty_end (take k lines)) last ∙ ap without_empty_end (take_more lines (n - 1) [] (omega arith)) ∙ drops (take (n - 1) lines) (get_or lines (n - 1) []) e

pub keeps_at : (lines : List (List ℕ)) (n : ℕ) → 0 < n → n ≤ length lines → length (get_or lines (n - 1) []) ≢ 0 → without_empty_end (take n lines) ≡ take n lines
keeps_at lines n some within e =
    let last : n ≡ (n - 1) + 1 = omega arith in
    let more = take_more lines (n - 1) [] (omega arith) in
    let here : take n lines ≡ take (n - 1) lines ++ get_or lines (n - 1) [] ∷ [] = ap (λ k. take k lines) last ∙ more in
    ap without_empty_end here ∙ keeps (take (n - 1) lines) (get_or lines (n - 1) []) e ∙ sym here

pub drops_line : (xs : List (Bor (List ℕ))) (n : ℕ) (d : Bor (List ℕ)) → 0 < n → n ≤ length xs → eqb (length (get_or xs (n - 1) d).now) 0 ≡ true → without_empty_end (take (n - 1) (map (λ x. x.now) xs)) ≡ without_empty_end (take n (map (λ x. x.now) xs))
drops_line xs n d some within e =
    let at = get_or-map (λ (x : Bor (List ℕ)). x.now) xs (n - 1) d [] (omega arith) in
    sym (drops_at (map (λ x. x.now) xs) n some (simp length-map within) (ap length at ∙ eqb-true _ _ e))

pub keeps_line : (xs : List (Bor (List ℕ))) (n : ℕ) (d : Bor (List ℕ)) → 0 < n → n ≤ length xs → eqb (length (get_or xs (n - 1) d).now) 0 ≡ false → take n (map (λ x. x.now) xs) ≡ without_empty_end (take n (map (λ x. x.now) xs))
keeps_line xs n d some within e =
    let at = get_or-map (λ (x : Bor (List ℕ)). x.now) xs (n - 1) d [] (omega arith) in
    sym (keeps_at (map (λ x. x.now) xs) n some (simp length-map within) (λ none. eqb-false _ _ e (sym (ap length at) ∙ none)))
