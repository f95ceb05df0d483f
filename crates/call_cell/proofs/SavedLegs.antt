-- Legs that are saved one by one, the first of them first.
use Rattle.std.proofs.Common.{◌≡◌, refl, ap, subst, sym, ◌∙◌, ◌<◌, inl, inr, List, [], ◌∷◌, ◌++◌, drop, map, length, None, get_or, arith, append-nil}
use Rattle.std.proofs.lemmas.List.{append_assoc, map-append}
use Rattle.histories.specs.Words.{In, here, there}
use Rattle.histories.proofs.Lists.{in_append}
use Rattle.call_cell.specs.declared.leg.Leg.{Leg}
use Rattle.call_cell.specs.declared.saved.LegSaved.{LegSaved}
use Rattle.call_cell.specs.SavedCells.{saved_leg, AreEmptied}

abbrev pub saved_legs : {O : Type 0} → List (Leg O) → List LegSaved
saved_legs {O} those = map (λ (leg : Leg O). saved_leg leg) those

-- the first of a list was taken
pub first_taken : {X : Type 0} (xs new : List X) (x : X) → 0 < length xs → x ≡ get_or xs 0 x → new ≡ drop 1 xs → xs ≡ x ∷ new
first_taken [] new x some is rest = absurd (omega (arith, some))
first_taken {X} (y ∷ ys) new x some is rest = ap (λ (z : X). z ∷ ys) (sym is) ∙ ap (λ (l : List X). x ∷ l) (sym rest)

pub first_saved : {O : Type 0} (old new : List (Leg O)) (leg : Leg O) (s : LegSaved) → old ≡ leg ∷ new → s ≡ saved_leg leg
    → saved_legs old ≡ s ∷ saved_legs new
first_saved {O} old new leg s is saved =
    ap (λ (l : List (Leg O)). saved_legs l) is ∙ ap (λ (x : LegSaved). x ∷ saved_legs new) (sym saved)

pub first_emptied : {O : Type 0} (old new : List (Leg O)) (leg : Leg O) → old ≡ leg ∷ new → AreEmptied old → (leg.sending.ends ≡ None) × AreEmptied new
first_emptied {O} old new leg is emptied =
    let all : AreEmptied (leg ∷ new) = subst (λ (l : List (Leg O)). AreEmptied l) is emptied in
    (all leg (here refl), λ other i. all other (there i))

-- one more was saved
pub one_saved : (saved more rest new all : List LegSaved) (s : LegSaved) → saved ++ rest ≡ all → more ≡ saved ++ s ∷ [] → rest ≡ s ∷ new → more ++ new ≡ all
one_saved saved more rest new all s is one first =
    ap (λ (l : List LegSaved). l ++ new) one ∙ append_assoc saved (s ∷ []) new ∙ sym (ap (λ (l : List LegSaved). saved ++ l) first) ∙ is

pub none_left : {X : Type 0} (xs : List X) → length xs ≡ 0 → xs ≡ []
none_left [] q = refl
none_left (x ∷ xs) q = absurd (omega (arith, q))

-- all were saved
pub all_saved : {O : Type 0} (saved : List LegSaved) (left first : List (Leg O)) → left ≡ [] → saved ++ saved_legs left ≡ saved_legs first → saved ≡ saved_legs first
all_saved {O} saved left first none is =
    sym (append-nil saved) ∙ sym (ap (λ (l : List (Leg O)). saved ++ saved_legs l) none) ∙ is

-- one more was loaded
pub one_loaded : {O : Type 0} (done new : List (Leg O)) (leg : Leg O) (s : LegSaved) (left rest all : List LegSaved) → saved_legs done ++ left ≡ all → left ≡ s ∷ rest
    → new ≡ done ++ leg ∷ [] → saved_leg leg ≡ s → saved_legs new ++ rest ≡ all
one_loaded {O} done new leg s left rest all is first one same =
    ap (λ (l : List (Leg O)). saved_legs l ++ rest) one
    ∙ ap (λ (l : List LegSaved). l ++ rest) (map-append (λ (x : Leg O). saved_leg x) done (leg ∷ []))
    ∙ append_assoc (saved_legs done) (saved_leg leg ∷ []) rest
    ∙ ap (λ (x : LegSaved). saved_legs done ++ x ∷ rest) same
    ∙ ap (λ (l : List LegSaved). saved_legs done ++ l) (sym first)
    ∙ is

pub one_emptied : {O : Type 0} (done new : List (Leg O)) (leg : Leg O) → AreEmptied done → leg.sending.ends ≡ None → new ≡ done ++ leg ∷ [] → AreEmptied new
one_emptied {O} done new leg all none one =
    subst AreEmptied (sym one) (λ other i. elim (in_append done (leg ∷ []) i) [
      | inl before ↦ all other before
      | inr last ↦ only_one other last
    ])
  where
    only_one : (other : Leg O) → In other (leg ∷ []) → other.sending.ends ≡ None
    only_one other (here is) = ap (λ (l : Leg O). l.sending.ends) is ∙ none
    only_one other (there i) = elim i [ ]

pub no_leg_emptied : {O : Type 0} (legs : List (Leg O)) → legs ≡ [] → AreEmptied legs
no_leg_emptied {O} legs none other i = elim (subst (λ (l : List (Leg O)). In other l) none i) [ ]
