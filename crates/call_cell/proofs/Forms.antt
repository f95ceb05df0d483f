-- Legs stay and go whole, whatever the cell holds.
use Rattle.std.proofs.Common.{◌≡◌, refl, ap, subst, sym, ◌∙◌, ℕ, ◌<◌, List, [], ◌∷◌, ◌++◌, map, length, drop, Option, Some, None, Box, Global, get_or, set, ◌⊎◌, inl, inr, arith, append-nil}
use Rattle.std.specs.Option.{option_to_list}
use Rattle.std.proofs.Math.Seq.{map-set_same}
use Rattle.sdes_lines.specs.declared.crypto_line.Suite.{Suite}
use Rattle.sdes_lines.specs.declared.crypto_line.Suite.TheVariants.{Tag80, Tag32}
use Rattle.histories.specs.Words.{In, here, there}
use Rattle.histories.proofs.Lists.{in_left, in_right, in_append, maps, mapped}
use Rattle.port_pool.specs.declared.pairs.Lease.{Lease}
use Rattle.port_pool.specs.declared.signal.LegSignal.{LegSignal}
use Rattle.port_pool.specs.declared.signal.SectionSignal.{SectionSignal}
use Rattle.call_cell.specs.declared.contexts.Outbound.{Outbound}
use Rattle.call_cell.specs.declared.leg.Leg.{Leg}
use Rattle.call_cell.specs.declared.prepare.PreparedKey.{PreparedKey}
use Rattle.call_cell.specs.LegHistories.{with_sending}
use Rattle.call_cell.specs.CellEnds.{parts_with, parts_of}
use Rattle.call_cell.specs.DroppedLegs.{StayWhole}
use Rattle.call_cell.specs.Commits.{LegCommitsBy, LegsCommit, said_of}
use Rattle.call_cell.specs.Preparations.{with_contexts}
use Rattle.call_cell.specs.Shapes.{LegForm, FormsStay, leg_form, leg_forms}
use Rattle.call_cell.proofs.Answered.{Pairwise, none, more, pairwise}
use Rattle.call_cell.proofs.Joined.{map_map}

-- Legs that move.

pub all_stay : {O : Type 0} (those : List (Leg O)) (gone : List (Lease × O × O)) → StayWhole those those gone gone
all_stay those gone = record { stay = λ leg i. i; went = λ parts i. inl i }

-- first these moves, and then those
pub stay_on : {O : Type 0} (xs ys zs : List (Leg O)) (before mid after : List (Lease × O × O)) → StayWhole xs ys before mid → StayWhole ys zs mid after
    → StayWhole xs zs before after
stay_on {O} xs ys zs before mid after one two = record {
  stay = λ leg i. one.stay leg (two.stay leg i);
  went = λ parts i. from parts (two.went parts i);
}
  where
    from : (parts : Lease × O × O) → In parts mid ⊎ In (Some parts) (map (λ (leg : Leg O). parts_of leg) ys)
        → In parts before ⊎ In (Some parts) (map (λ (leg : Leg O). parts_of leg) xs)
    from parts (inl i) = one.went parts i
    from parts (inr i) =
        let m = mapped (λ (leg : Leg O). parts_of leg) ys i in
        inr (subst (λ (o : Option (Lease × O × O)). In o (map (λ (leg : Leg O). parts_of leg) xs)) m.makes (maps (λ (leg : Leg O). parts_of leg) xs (one.stay m.from m.is_in)))

pub first_in : {X : Type 0} (xs : List X) (x : X) → 0 < length xs → x ≡ get_or xs 0 x → In x xs
first_in [] x some is = absurd (omega (arith, some))
first_in (y ∷ xs) x some is = here is

rest_in : {X : Type 0} {x : X} (xs : List X) → In x (drop 1 xs) → In x xs
rest_in [] i = i
rest_in (y ∷ xs) i = there i

only_one : {X : Type 0} {x y : X} → In x (y ∷ []) → x ≡ y
only_one (here q) = q
only_one (there i) = elim i [ ]

-- the first leg moves behind the others
pub first_stays : {O : Type 0} (old new : List (Leg O)) (first : Leg O) (gone : List (Lease × O × O)) → In first old → new ≡ drop 1 old ++ first ∷ []
    → StayWhole old new gone gone
first_stays {O} old new first gone there_is is = record {
  stay = λ leg i. from leg (in_append (drop 1 old) (first ∷ []) (subst (λ (l : List (Leg O)). In leg l) is i));
  went = λ parts i. inl i;
}
  where
    from : (leg : Leg O) → In leg (drop 1 old) ⊎ In leg (first ∷ []) → In leg old
    from leg (inl i) = rest_in old i
    from leg (inr i) = subst (λ (l : Leg O). In l old) (sym (only_one i)) there_is

listed : {X : Type 0} {x : X} (o : Option X) → In x (option_to_list o) → Some x ≡ o
listed None i = elim i [ ]
listed {X} {x} (Some y) i = ap (λ (z : X). Some z) (only_one i)

-- or goes, with its lease and its ends
pub first_goes : {O : Type 0} (old new : List (Leg O)) (first : Leg O) (before after : List (Lease × O × O)) → In first old → new ≡ drop 1 old
    → after ≡ before ++ option_to_list (parts_of first) → StayWhole old new before after
first_goes {O} old new first before after there_is is went = record {
  stay = λ leg i. rest_in old (subst (λ (l : List (Leg O)). In leg l) is i);
  went = λ parts i. from parts (in_append before (option_to_list (parts_of first)) (subst (λ (l : List (Lease × O × O)). In parts l) went i));
}
  where
    from : (parts : Lease × O × O) → In parts before ⊎ In parts (option_to_list (parts_of first)) → In parts before ⊎ In (Some parts) (map (λ (leg : Leg O). parts_of leg) old)
    from parts (inl i) = inl i
    from parts (inr i) =
        inr (subst (λ (o : Option (Lease × O × O)). In o (map (λ (leg : Leg O). parts_of leg) old)) (sym (listed (parts_of first) i))
        (maps (λ (leg : Leg O). parts_of leg) old there_is))

-- Keys that come.

with_form : {O : Type 0} (s : Suite) (box : Box (Option Outbound) Global) (leg : Leg O) → leg_form (with_sending leg (with_contexts s box leg.sending)) ≡ leg_form leg
with_form Tag80 box leg = refl
with_form Tag32 box leg = refl

pub forms_put : {O : Type 0} (key : PreparedKey) (those : List (Leg O)) (at : ℕ) (x new : Leg O)
    → new ≡ with_sending (get_or those at x) (with_contexts key.suite key.contexts (get_or those at x).sending) → leg_forms (set those at new) ≡ leg_forms those
forms_put {O} key those at x new is =
    map-set_same (λ (leg : Leg O). leg_form leg) those at new x (ap (λ (leg : Leg O). leg_form leg) is ∙ with_form key.suite key.contexts (get_or those at x))

-- An answer.

same_forms : {O : Type 0} (old new : List (Leg O)) → Pairwise (λ (a b : Leg O). leg_form b ≡ leg_form a) old new → leg_forms new ≡ leg_forms old
same_forms [] [] none = refl
same_forms [] (y ∷ ys) z = elim z [ ]
same_forms (x ∷ xs) [] z = elim z [ ]
same_forms {O} (x ∷ xs) (y ∷ ys) (more same rest) =
    ap (λ (f : LegForm O). f ∷ leg_forms ys) same ∙ ap (λ (l : List (LegForm O)). leg_form x ∷ l) (same_forms xs ys rest)

form_by : {O : Type 0} (said : Option LegSignal) (a b : Leg O) → LegCommitsBy said a b → leg_form b ≡ leg_form a
form_by {O} None a b does = ap (λ (l : Leg O). leg_form l) does
form_by {O} (Some s) a b does = ap (λ (l : Leg O). leg_form l) does.rest

pub forms_committed : {O : Type 0} (signal : List SectionSignal) (old new : List (Leg O)) → length new ≡ length old → LegsCommit signal old new
    → leg_forms new ≡ leg_forms old
forms_committed {O} signal old new long does =
    same_forms old new
    (pairwise (λ (a b : Leg O). leg_form b ≡ leg_form a) old new long
    (λ i d below. form_by (said_of signal (get_or old i d).holder) (get_or old i d) (get_or new i d) (does i d below)))

-- A whole call.

abbrev parts_in : {O : Type 0} → LegForm O → Option (Lease × O × O)
parts_in form = parts_with form.lease form.ends

same_parts : {O : Type 0} (old new : List (Leg O)) → leg_forms new ≡ leg_forms old → map (λ (leg : Leg O). parts_of leg) new ≡ map (λ (leg : Leg O). parts_of leg) old
same_parts {O} old new same =
    sym (map_map (λ (f : LegForm O). parts_in f) (λ (leg : Leg O). leg_form leg) new)
    ∙ ap (map (λ (f : LegForm O). parts_in f)) same
    ∙ map_map (λ (f : LegForm O). parts_in f) (λ (leg : Leg O). leg_form leg) old

-- the legs are changed but for their forms, some of them go, others come, and all are changed again
pub forms_stay : {O : Type 0} (came old mid kept joined new : List (Leg O)) (before after : List (Lease × O × O)) → leg_forms mid ≡ leg_forms old
    → StayWhole mid kept before after → before ≡ [] → joined ≡ kept ++ came → leg_forms new ≡ leg_forms joined → FormsStay came old new after
forms_stay {O} came old mid kept joined new before after first whole empty joins last = record {
  new_are = λ leg i.
      let m = mapped (λ (l : Leg O). leg_form l) joined (subst (λ (l : List (LegForm O)). In (leg_form leg) l) last (maps (λ (l : Leg O). leg_form l) new i)) in
      subst (λ (f : LegForm O). In f (leg_forms old ++ leg_forms came)) m.makes
      (stayed m.from (in_append kept came (subst (λ (l : List (Leg O)). In m.from l) joins m.is_in)));
  gone_are = λ parts i. gone parts (whole.went parts i);
}
  where
    stayed : (leg : Leg O) → In leg kept ⊎ In leg came → In (leg_form leg) (leg_forms old ++ leg_forms came)
    stayed leg (inl i) =
        in_left (leg_forms old) (leg_forms came)
        (subst (λ (l : List (LegForm O)). In (leg_form leg) l) first (maps (λ (l : Leg O). leg_form l) mid (whole.stay leg i)))
    stayed leg (inr i) = in_right (leg_forms old) (leg_forms came) (maps (λ (l : Leg O). leg_form l) came i)

    gone : (parts : Lease × O × O) → In parts before ⊎ In (Some parts) (map (λ (leg : Leg O). parts_of leg) mid)
        → In (Some parts) (map (λ (leg : Leg O). parts_of leg) old)
    gone parts (inl i) = elim (subst (λ (l : List (Lease × O × O)). In parts l) empty i) [ ]
    gone parts (inr i) = subst (λ (l : List (Option (Lease × O × O))). In (Some parts) l) (same_parts old mid first) i

-- where none comes
pub forms_go : {O : Type 0} (old mid new : List (Leg O)) (before after : List (Lease × O × O)) → leg_forms mid ≡ leg_forms old
    → StayWhole mid new before after → before ≡ [] → FormsStay [] old new after
forms_go old mid new before after first whole empty = forms_stay [] old mid new new new before after first whole empty (sym (append-nil new)) refl
