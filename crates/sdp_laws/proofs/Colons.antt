-- In groups joined by colons no two colons stand together, so `::` is found where it was written.
use Rattle.std.proofs.Common.{◌≡◌, ℕ, ◌+◌, ◌<◌, true, false, not, eqb, List, [], ◌∷◌, ◌++◌, length, Option, Some, None, refl, sym, ap, ◌∙◌, arith, append_assoc, append-nil}
use Rattle.std.proofs.lemmas.Bool.{and_parts, not-true}
use Rattle.sdp_text.proofs.Colons.{behind}
use Rattle.sdp_text.proofs.JoinLemmas.{joined_is, tail_of}
use Rattle.sdp_text.specs.Hosts.{around_double_colon, group_text, joined_groups}
use Rattle.sdp_laws.proofs.Digits.{free, group_free, group_some}
use Rattle.sdp_laws.proofs.Each.{Each}

behind_nil : (o : Option (List ℕ × List ℕ)) → o ≡ behind [] o
behind_nil None = refl
behind_nil (Some sides) = refl

behind_both : (a b : List ℕ) (o : Option (List ℕ × List ℕ)) → behind a (behind b o) ≡ behind (a ++ b) o
behind_both a b None = refl
behind_both a b (Some sides) = ap (λ x. Some (x, sides.1)) (sym (append_assoc a b sides.0))

other_byte : (a : ℕ) (xs : List ℕ) → eqb a 58 ≡ false → around_double_colon (a ∷ xs) ≡ behind (a ∷ []) (around_double_colon xs)
other_byte a [] e = refl
other_byte a (b ∷ more) e = rw e refl

lone_colon : (b : ℕ) (xs : List ℕ) → eqb b 58 ≡ false → around_double_colon (58 ∷ b ∷ xs) ≡ behind (58 ∷ []) (around_double_colon (b ∷ xs))
lone_colon b xs e = rw e refl

over_text : (t rest : List ℕ) → free 58 t ≡ true → around_double_colon (t ++ rest) ≡ behind t (around_double_colon rest)
over_text [] rest h = behind_nil (around_double_colon rest)
over_text (a ∷ t) rest h =
    let parts = and_parts (not (eqb a 58)) (free 58 t) h in
    other_byte a (t ++ rest) (not-true (eqb a 58) parts.0) ∙ ap (behind (a ∷ [])) (over_text t rest parts.1) ∙ behind_both (a ∷ []) t (around_double_colon rest)

over_colon : (t rest : List ℕ) → free 58 t ≡ true → 0 < length t → around_double_colon (58 ∷ (t ++ rest)) ≡ behind (58 ∷ t) (around_double_colon rest)
over_colon [] rest h some = absurd (omega arith)
over_colon (b ∷ t) rest h some =
    let parts = and_parts (not (eqb b 58)) (free 58 t) h in
    lone_colon b (t ++ rest) (not-true (eqb b 58) parts.0) ∙ ap (behind (58 ∷ [])) (over_text (b ∷ t) rest h) ∙ behind_both (58 ∷ []) (b ∷ t) (around_double_colon rest)

over_tail : (gs rest : List ℕ) → Each (λ g. g < 65536) gs → around_double_colon (tail_of 58 group_text gs ++ rest) ≡ behind (tail_of 58 group_text gs) (around_double_colon rest)
over_tail [] rest small = behind_nil (around_double_colon rest)
over_tail (g ∷ gs) rest small =
    let more = tail_of 58 group_text gs in
    ap around_double_colon (append_assoc (58 ∷ group_text g) more rest)
    ∙ over_colon (group_text g) (more ++ rest) (group_free g small.0) (group_some g small.0)
    ∙ ap (behind (58 ∷ group_text g)) (over_tail gs rest small.1)
    ∙ behind_both (58 ∷ group_text g) more (around_double_colon rest)

-- what stands around `::` in a text that begins with joined groups
pub over_groups : (gs rest : List ℕ) → Each (λ g. g < 65536) gs → around_double_colon (joined_groups gs ++ rest) ≡ behind (joined_groups gs) (around_double_colon rest)
over_groups [] rest small = behind_nil (around_double_colon rest)
over_groups (g ∷ gs) rest small =
    let more = tail_of 58 group_text gs in
    ap (λ t. around_double_colon (t ++ rest)) (joined_is 58 group_text g gs)
    ∙ ap around_double_colon (append_assoc (group_text g) more rest)
    ∙ over_text (group_text g) (more ++ rest) (group_free g small.0)
    ∙ ap (behind (group_text g)) (over_tail gs rest small.1)
    ∙ behind_both (group_text g) more (around_double_colon rest)
    ∙ ap (λ t. behind t (around_double_colon rest)) (sym (joined_is 58 group_text g gs))

pub none_in_groups : (gs : List ℕ) → Each (λ g. g < 65536) gs → around_double_colon (joined_groups gs) ≡ None
none_in_groups gs small = ap around_double_colon (sym (append-nil (joined_groups gs))) ∙ over_groups gs [] small

pub found_between : (left right : List ℕ) → Each (λ g. g < 65536) left → around_double_colon (joined_groups left ++ (58 ∷ 58 ∷ []) ++ joined_groups right) ≡ Some (joined_groups left, joined_groups right)
found_between left right small =
    ap around_double_colon (append_assoc (joined_groups left) (58 ∷ 58 ∷ []) (joined_groups right))
    ∙ over_groups left (58 ∷ 58 ∷ joined_groups right) small
    ∙ ap (λ t. Some (t, joined_groups right)) (append-nil (joined_groups left))
