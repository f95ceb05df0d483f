-- Pairs that are put at their places, in any order.
use Rattle.std.proofs.Common.{◌≡◌, ℕ, List, Option, Some, None, option_map, option_and_then, refl, sym, ap, ◌∙◌, subst}
use Rattle.std.proofs.lemmas.Cmp.{nat_list_cmp_total, tied_itself}
use Rattle.std.proofs.lemmas.Map.Text.{is_eq-slice_cmp}
use Rattle.std.proofs.lemmas.Slice.Eq.{bytes_eq-Decides}
use Rattle.std.specs.Cmp.Lexicographic.{slice_cmp}
use Rattle.std.specs.Ordering.{nat_cmp, ordering_reverse, is_eq}
use Rattle.std.specs.declared.cmp.Ordering.{Ordering}
use Rattle.std.specs.declared.cmp.Ordering.TheVariants.{Less, Equal, Greater}
use Rattle.ng_bencode.specs.Tree.{Tree, Entries, no_entries, entry}
use Rattle.ng_json.specs.Twins.{with_pair_in_order}

-- ---- the byte order

abbrev pub order : List ℕ → List ℕ → Ordering
order = slice_cmp nat_cmp

pub turned : (a b : List ℕ) → order a b ≡ Less → order b a ≡ Greater
turned a b less = nat_list_cmp_total.antisymm b a ∙ ap ordering_reverse less

pub turned_back : (a b : List ℕ) → order a b ≡ Greater → order b a ≡ Less
turned_back a b greater = nat_list_cmp_total.antisymm b a ∙ ap ordering_reverse greater

pub same_key : (a b : List ℕ) → order a b ≡ Equal → a ≡ b
same_key a b equal = (bytes_eq-Decides a b).0 (sym (is_eq-slice_cmp a b) ∙ ap is_eq equal)

pub itself : (a : List ℕ) → order a a ≡ Equal
itself a = tied_itself nat_list_cmp_total a

pub chained : (a b c : List ℕ) → order a b ≡ Less → order b c ≡ Less → order a c ≡ Less
chained a b c = nat_list_cmp_total.trans a b c

-- where a is less than b, and not less than l, b is greater than l
pub greater_still : (a b l : List ℕ) → order a b ≡ Less → order a l ≡ Greater → order b l ≡ Greater
greater_still a b l less far = turned l b (chained l a b (turned_back a l far) less)

pub greater_at : (a b l : List ℕ) → order a b ≡ Less → order a l ≡ Equal → order b l ≡ Greater
greater_at a b l less equal = ap (order b) (sym (same_key a l equal)) ∙ turned a b less

-- ---- two pairs

abbrev pub both : List ℕ → Tree → List ℕ → Tree → Entries → Option Entries
both a t b u es = option_and_then (λ more. with_pair_in_order a t more) (with_pair_in_order b u es)

past : (l : List ℕ) (v : Tree) (k : List ℕ) (t : Tree) → order k l ≡ Greater → (r : Option Entries)
    → option_and_then (λ more. with_pair_in_order k t more) (option_map (entry l v) r) ≡ option_map (entry l v) (option_and_then (λ more. with_pair_in_order k t more) r)
past l v k t far None = refl
past l v k t far (Some es) = rw far refl

ahead : (l : List ℕ) (v : Tree) (k : List ℕ) (t : Tree) → order k l ≡ Less → (r : Option Entries)
    → option_and_then (λ more. with_pair_in_order k t more) (option_map (entry l v) r) ≡ option_map (entry k t) (option_map (entry l v) r)
ahead l v k t less None = refl
ahead l v k t less (Some es) = rw less refl

stuck : (l : List ℕ) (v : Tree) (k : List ℕ) (t : Tree) → order k l ≡ Equal → (r : Option Entries) → option_and_then (λ more. with_pair_in_order k t more) (option_map (entry l v) r) ≡ None
stuck l v k t equal None = refl
stuck l v k t equal (Some es) = rw equal refl

module _ (a b : List ℕ) (t u : Tree) (less : order a b ≡ Less) where
  ordered : (es : Entries) → both a t b u es ≡ both b u a t es
  ordered no_entries = rw (less, turned a b less) refl
  ordered (entry l v rest) = by (ordered rest) (order a l) refl
    where
      -- the lesser key goes before the first
      front : order a l ≡ Less → (ob : Ordering) → order b l ≡ ob → both a t b u (entry l v rest) ≡ both b u a t (entry l v rest)
      front ea Less eb = rw (ea, eb, turned a b less) (rw less refl)
      front ea Equal eb = rw (ea, eb, turned a b less) refl
      front ea Greater eb = rw (ea, eb, turned a b less) (ahead l v a t ea (with_pair_in_order b u rest))

      by : both a t b u rest ≡ both b u a t rest → (oa : Ordering) → order a l ≡ oa → both a t b u (entry l v rest) ≡ both b u a t (entry l v rest)
      by more Less ea = front ea (order b l) refl
      by more Equal ea = rw (ea, greater_at a b l less ea) (stuck l v a t ea (with_pair_in_order b u rest))
      by more Greater ea =
          let eb = greater_still a b l less ea in
          rw (ea, eb) (past l v a t ea (with_pair_in_order b u rest) ∙ ap (option_map (entry l v)) more ∙ sym (past l v b u eb (with_pair_in_order a t rest)))

never_twice : (a : List ℕ) (t u : Tree) (es : Entries) → both a t a u es ≡ None
never_twice a t u no_entries = rw (itself a) refl
never_twice a t u (entry l v rest) = by (never_twice a t u rest) (order a l) refl
  where
    by : both a t a u rest ≡ None → (o : Ordering) → order a l ≡ o → both a t a u (entry l v rest) ≡ None
    by more Less e = rw e (rw (itself a) refl)
    by more Equal e = rw e refl
    by more Greater e = rw e (past l v a t e (with_pair_in_order a u rest) ∙ ap (option_map (entry l v)) more)

pub commuting : (a b : List ℕ) (t u : Tree) (es : Entries) → both a t b u es ≡ both b u a t es
commuting a b t u es = by (order a b) refl
  where
    by : (o : Ordering) → order a b ≡ o → both a t b u es ≡ both b u a t es
    by Less e = ordered a b t u e es
    by Equal e = subst (λ k. both a t k u es ≡ both k u a t es) (same_key a b e) (never_twice a t u es ∙ sym (never_twice a u t es))
    by Greater e = sym (ordered b a u t (turned_back a b e) es)
