-- Lists of groups of an IPv6 address.
use Rattle.std.proofs.Common.{◌≡◌, ℕ, ◌+◌, ◌-◌, ◌<◌, ◌≤◌, leb, cond, true, false, List, [], ◌∷◌, ◌++◌, length, map, Option, Some, None, refl, ◌∙◌, arith, length-append, replicate, ◌≢◌, inl, inr}
use Rattle.std.proofs.lemmas.List.{length-replicate, length-set}
use Rattle.std.proofs.lemmas.Bool.Decides.{nat_tests}
use Rattle.std.proofs.lemmas.Bool.{le-leb, lt-leb, le-ltb, lt-ltb, cases_eq, cases_lt, eq-eqb, ne_eqb}
use Rattle.std.specs.Option.{option_map, IfSome}
use Rattle.sdp_text.specs.Limits.{no_longer}
use Rattle.sdp_text.specs.Hosts.{groups, group, all_some, exactly, filled_up}
use Rattle.sdp_text.specs.Pieces.{pieces}

-- a list with more in front
abbrev pub with_front : List ℕ → Option (List ℕ) → Option (List ℕ)
with_front front o = option_map (λ xs. front ++ xs) o

-- the groups of a text that isn't empty
pub groups_of_pieces : (text : List ℕ) → length text ≢ 0 → groups text ≡ all_some (map group (pieces 58 text))
groups_of_pieces [] some = absurd (some refl)
groups_of_pieces (byte ∷ more) some = refl

pub too_long : (front : List ℕ) (g : ℕ) (o : Option (List ℕ)) → length front ≡ 8 → no_longer 8 (with_front front (option_map (λ xs. g ∷ xs) o)) ≡ None
too_long front g None full = refl
too_long front g (Some xs) full =
    let long : 8 < length (front ++ g ∷ xs) = simp length-append (omega arith) in
    rw (lt-leb _ _ long) refl

pub filled_no_longer : (a b : Option (List ℕ)) → filled_up (no_longer 8 a) (no_longer 8 b) ≡ filled_up a b
filled_no_longer None b = refl
filled_no_longer (Some left) None = elim (leb (length left) 8) as (λ t. filled_up (cond t (Some left) None) None ≡ None) [ true ↦ refl | false ↦ refl ]
filled_no_longer (Some left) (Some right) = grind (arith, nat_tests)

length-filled : (left right : List ℕ) → length left + length right < 8 → length (left ++ replicate (8 - (length left + length right)) 0 ++ right) ≡ 8
length-filled left right h = simp (length-append, length-replicate) (omega arith)

pub exactly_is : (o : Option (List ℕ)) → IfSome (exactly 8 o) (λ gs. length gs ≡ 8)
exactly_is None = tt
exactly_is (Some xs) = elim (cases_eq (length xs) 8) [ inl e ↦ rw (eq-eqb _ _ e) e | inr ne ↦ rw (ne_eqb _ _ ne) tt ]

pub filled_is : (a b : Option (List ℕ)) → IfSome (filled_up a b) (λ gs. length gs ≡ 8)
filled_is None b = tt
filled_is (Some left) None = tt
filled_is (Some left) (Some right) = elim (cases_lt (length left + length right) 8) [ inl h ↦ rw (lt-ltb _ _ h) (length-filled left right h) | inr h ↦ rw (le-ltb _ _ h) tt ]
