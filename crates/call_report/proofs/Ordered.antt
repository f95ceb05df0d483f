-- The order of two tags.
use Rattle.std.proofs.Common.{◌≡◌, ◌∙◌, sym, refl, ℕ, zero, suc, min, List, [], ◌∷◌, Bool, true, false, cond, Option, Some, None, length, drop, nat_le, arith}
use Rattle.std.proofs.lemmas.Bool.{le-leb, lt-leb}
use Rattle.std.proofs.lemmas.Bool.Decides.{nat_tests}
use Rattle.ng_bencode.specs.Tree.{Tree, no_entries, entry}
use Rattle.port_pool.specs.declared.holder.Side.TheVariants.{A, B}
use Rattle.call_board.specs.Reports.{stands_before, tags_by}
use Rattle.call_report.specs.Tags.{first_side, with_tag}

both_longer : (m n : ℕ) → nat_le m n ≡ nat_le (suc m) (suc n)
both_longer m n = grind (arith, nat_tests)

-- the shorter one stands first
pub one_ended : (a b : List ℕ) (i : ℕ) → i ≡ min (length a) (length b) → stands_before (drop i a) (drop i b) ≡ nat_le (length a) (length b)
one_ended [] b zero ends = sym (le-leb 0 (length b) (omega arith))
one_ended [] b (suc i) ends = absurd (omega (arith, ends))
one_ended (x ∷ a) [] zero ends = sym (lt-leb (length (x ∷ a)) 0 (omega arith))
one_ended (x ∷ a) [] (suc i) ends = absurd (omega (arith, ends))
one_ended (x ∷ a) (y ∷ b) zero ends = absurd (omega (arith, ends))
one_ended (x ∷ a) (y ∷ b) (suc i) ends = one_ended a b i (omega (arith, ends)) ∙ both_longer (length a) (length b)

chosen_a : {T : Type 0} (x y : T) (b : Bool) → cond b A B ≡ A → x ≡ cond b x y
chosen_a x y true e = refl
chosen_a x y false e = absurd (let f = e in cc)

chosen_b : {T : Type 0} (x y : T) (b : Bool) → cond b A B ≡ B → y ≡ cond b x y
chosen_b x y true e = absurd (let f = e in cc)
chosen_b x y false e = refl

pub a_first : (a b : Option (List ℕ)) (of_a of_b : Tree) → first_side a b ≡ A → with_tag (with_tag no_entries a of_a) b of_b ≡ tags_by a of_a b of_b
a_first None None of_a of_b first = refl
a_first None (Some b) of_a of_b first = refl
a_first (Some a) None of_a of_b first = refl
a_first (Some a) (Some b) of_a of_b first =
    chosen_a (entry a of_a (entry b of_b no_entries)) (entry b of_b (entry a of_a no_entries)) (stands_before a b) first

pub b_first : (a b : Option (List ℕ)) (of_a of_b : Tree) → first_side a b ≡ B → with_tag (with_tag no_entries b of_b) a of_a ≡ tags_by a of_a b of_b
b_first None None of_a of_b first = refl
b_first None (Some b) of_a of_b first = refl
b_first (Some a) None of_a of_b first = refl
b_first (Some a) (Some b) of_a of_b first =
    chosen_b (entry a of_a (entry b of_b no_entries)) (entry b of_b (entry a of_a no_entries)) (stands_before a b) first
