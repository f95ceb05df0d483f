-- Texts that are joined by a byte that none of them has are cut there again.
use Rattle.std.proofs.Common.{◌≡◌, ℕ, true, false, not, ◌&&◌, eqb, List, [], ◌∷◌, length, map, All, Option, Some, refl, ap, ◌∙◌}
use Rattle.std.specs.List.{list_all, join_with_byte}
use Rattle.std.specs.Option.{option_map}
use Rattle.std.proofs.lemmas.Bool.{and_parts, not-true, eq-eqb}
use Rattle.std.proofs.lemmas.List.Elements.{All-nil, All-cons}
use Rattle.std.proofs.lemmas.List.Splits.{slice_split_at, slice_split_none}
use Rattle.sdp_text.specs.Hosts.{all_some, exactly}
use Rattle.sdp_text.specs.Pieces.{pieces}
use Rattle.sdp_laws.proofs.Digits.{free}
use Rattle.sdp_laws.proofs.Each.{Each}

free_all : (stop : ℕ) (text : List ℕ) → free stop text ≡ true → All (λ b. eqb b stop ≡ false) text
free_all stop [] h = All-nil (λ b. eqb b stop ≡ false)
free_all stop (b ∷ text) h =
    let parts = and_parts (not (eqb b stop)) (free stop text) h in
    All-cons (λ x. eqb x stop ≡ false) b text (not-true (eqb b stop) parts.0) (free_all stop text parts.1)

pub pieces_of_joined : (stop : ℕ) (t : List ℕ) (ts : List (List ℕ)) → list_all (free stop) (t ∷ ts) ≡ true → pieces stop (join_with_byte stop (t ∷ ts)) ≡ t ∷ ts
pieces_of_joined stop t [] h = slice_split_none (λ b. eqb b stop) t (free_all stop t (and_parts (free stop t) true h).0)
pieces_of_joined stop t (u ∷ us) h =
    let parts = and_parts (free stop t) (list_all (free stop) (u ∷ us)) h in
    slice_split_at (λ b. eqb b stop) t stop (join_with_byte stop (u ∷ us)) (free_all stop t parts.0) (eq-eqb stop stop refl)
    ∙ ap (λ ps. t ∷ ps) (pieces_of_joined stop u us parts.1)

pub all_free : (stop : ℕ) (text : ℕ → List ℕ) (xs : List ℕ) → Each (λ x. free stop (text x) ≡ true) xs → list_all (free stop) (map text xs) ≡ true
all_free stop text [] h = refl
all_free stop text (x ∷ xs) h = ap (λ b. b && list_all (free stop) (map text xs)) h.0 ∙ all_free stop text xs h.1

pub all_read : (read : List ℕ → Option ℕ) (text : ℕ → List ℕ) (xs : List ℕ) → Each (λ x. read (text x) ≡ Some x) xs → all_some (map read (map text xs)) ≡ Some xs
all_read read text [] h = refl
all_read read text (x ∷ xs) h = ap (λ o. all_some (o ∷ map read (map text xs))) h.0 ∙ ap (option_map (λ ys. x ∷ ys)) (all_read read text xs h.1)

pub exactly_whole : (n : ℕ) (xs : List ℕ) → length xs ≡ n → exactly n (Some xs) ≡ Some xs
exactly_whole n xs e = rw (eq-eqb (length xs) n e) refl
