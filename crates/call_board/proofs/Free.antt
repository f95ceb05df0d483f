-- The pairs: one is free or is held, and by one leg.
use Rattle.std.proofs.Common.{◌≡◌, ◌∙◌, sym, ap, subst, ℕ, ◌<◌, ◌⊎◌, inl, inr, List, [], ◌∷◌, ◌++◌, map, filter, drop, Bool, true, false, cond, not, refl, arith}
use Rattle.std.proofs.lemmas.List.{map-append}
use Rattle.relay_outside.specs.declared.settings.Config.{Config}
use Rattle.relay_outside.specs.declared.address.Family.{Family}
use Rattle.relay_outside.specs.declared.address.Family.TheVariants.{V4, V6}
use Rattle.histories.specs.Words.{In, here, there, has, last_once, numbers}
use Rattle.histories.proofs.Lists.{in_left, in_right, in_append, filtered, maps, mapped, it_has}
use Rattle.port_pool.specs.Ports.{pair_count, pair_family, family_eq, pairs_of_family}
use Rattle.port_pool.specs.declared.holder.Holder.{Holder}
use Rattle.offer_answer.specs.Rounds.{NewLeg}
use Rattle.call_board.specs.Acts as act
use Rattle.call_board.specs.Acts.{Call, Lease, Offer, Act, BoardEntry, act}
use Rattle.call_board.specs.Pairs.{held, legs_of_act, closed, all_leased, leased_by_act, returned, undone_pairs, free, free_in, first_of, without_front, fronts, next_lease, leased_new_legs, closes_leg}
use Rattle.call_board.specs.Fits.{FitsBoard, IsFitting}
use Rattle.call_board.proofs.Once.{Once, once_equal, once_append, once_some, once_filtered, once_numbers, in_numbers, once_last, last_in}
use Rattle.call_board.proofs.Told.{Tells}
use Rattle.call_board.proofs.Tells.{tells, offer_told}
use Rattle.call_board.proofs.Held.{held_split, closed_held, new_leg_is}

abbrev pair_of : Holder → ℕ
pair_of leg = leg.pair

-- What was leased.

pub legs_leased : (a : Holder) (x : Act) → In a (legs_of_act x) → In a.pair (leased_by_act x)
legs_leased a (act.Offered o) i = maps pair_of o.legs i
legs_leased a act.Repeated i = elim i [ ]
legs_leased a act.OutOfMemory i = elim i [ ]
legs_leased a (act.Failed code) i = elim i [ ]
legs_leased a (act.Undone code leases draws) i = elim i [ ]
legs_leased a (act.Answered x) i = elim i [ ]
legs_leased a (act.Deleted of) i = elim i [ ]
legs_leased a (act.Queried of) i = elim i [ ]
legs_leased a act.Told i = elim i [ ]
legs_leased a (act.Delayed of s) i = elim i [ ]

was_leased_case : (h : List BoardEntry) (e : BoardEntry) (a : Holder) → (In a (held h) → In a.pair (all_leased h))
    → (In a (held h) × (closes_leg e a ≡ false)) ⊎ In a (legs_of_act (act e)) → In a.pair (all_leased (e ∷ h))
was_leased_case h e a rest (inl i) = in_right (leased_by_act (act e)) (all_leased h) (rest i.0)
was_leased_case h e a rest (inr i) = in_left (leased_by_act (act e)) (all_leased h) (legs_leased a (act e) i)

pub held_was_leased : (h : List BoardEntry) (a : Holder) → In a (held h) → In a.pair (all_leased h)
held_was_leased [] a i = elim i [ ]
held_was_leased (e ∷ h) a i = was_leased_case h e a (held_was_leased h a) (held_split h e a i)

pub undone_leased : (p : ℕ) (x : Act) → In p (undone_pairs x) → In p (leased_by_act x)
undone_leased p (act.Undone code leases draws) i = i
undone_leased p (act.Offered o) i = elim i [ ]
undone_leased p act.Repeated i = elim i [ ]
undone_leased p act.OutOfMemory i = elim i [ ]
undone_leased p (act.Failed code) i = elim i [ ]
undone_leased p (act.Answered x) i = elim i [ ]
undone_leased p (act.Deleted of) i = elim i [ ]
undone_leased p (act.Queried of) i = elim i [ ]
undone_leased p act.Told i = elim i [ ]
undone_leased p (act.Delayed of s) i = elim i [ ]

closed_leased : (h : List BoardEntry) (e : BoardEntry) (p : ℕ) → In p (map pair_of (closed h e)) → In p (all_leased h)
closed_leased h e p i = let m = mapped pair_of (closed h e) i in
    subst (λ q. In q (all_leased h)) m.makes (held_was_leased h m.from (closed_held h e m.from m.is_in).0)

returned_before : (h : List BoardEntry) (e : BoardEntry) (p : ℕ) → (In p (returned h) → In p (all_leased h)) → In p (returned h) ⊎ In p (map pair_of (closed h e)) → In p (all_leased (e ∷ h))
returned_before h e p rest (inl i) = in_right (leased_by_act (act e)) (all_leased h) (rest i)
returned_before h e p rest (inr i) = in_right (leased_by_act (act e)) (all_leased h) (closed_leased h e p i)

returned_case : (h : List BoardEntry) (e : BoardEntry) (p : ℕ) → (In p (returned h) → In p (all_leased h))
    → In p (returned h ++ map pair_of (closed h e)) ⊎ In p (undone_pairs (act e)) → In p (all_leased (e ∷ h))
returned_case h e p rest (inl i) = returned_before h e p rest (in_append (returned h) (map pair_of (closed h e)) i)
returned_case h e p rest (inr i) = in_left (leased_by_act (act e)) (all_leased h) (undone_leased p (act e) i)

pub returned_was_leased : (h : List BoardEntry) (p : ℕ) → In p (returned h) → In p (all_leased h)
returned_was_leased [] p i = elim i [ ]
returned_was_leased (e ∷ h) p i =
    returned_case h e p (returned_was_leased h p) (in_append (returned h ++ map pair_of (closed h e)) (undone_pairs (act e)) i)

-- What is free.

abbrev never_leased : Config → List BoardEntry → List ℕ
never_leased config h = filter (λ p. not (has (all_leased h) p)) (numbers 0 (pair_count config))

abbrev given_back : List BoardEntry → List ℕ
given_back h = filter (λ p. not (has (map pair_of (held h)) p)) (last_once (returned h))

not_in : (p : ℕ) (xs : List ℕ) → not (has xs p) ≡ true → In p xs → ⊥
not_in p xs out i = let h : has xs p ≡ true = it_has p xs i in let wrong : not true ≡ true = ap not (sym h) ∙ out in cc

pub free_once : (config : Config) (h : List BoardEntry) → Once (free config h)
free_once config h =
    once_append (never_leased config h) (given_back h)
    (once_some (λ p. not (has (all_leased h) p)) (numbers 0 (pair_count config)) (once_numbers 0 (pair_count config)))
    (once_some (λ p. not (has (map pair_of (held h)) p)) (last_once (returned h)) (once_last (returned h)))
    (λ n i j. not_in n (all_leased h) (filtered (λ p. not (has (all_leased h) p)) (numbers 0 (pair_count config)) i).1
    (returned_was_leased h n (last_in n (returned h) (filtered (λ p. not (has (map pair_of (held h)) p)) (last_once (returned h)) j).0)))

not_held_case : (config : Config) (h : List BoardEntry) (p : ℕ) (a : Holder) → In a (held h) → a.pair ≡ p → In p (never_leased config h) ⊎ In p (given_back h) → ⊥
not_held_case config h p a j e (inl i) =
    not_in p (all_leased h) (filtered (λ p. not (has (all_leased h) p)) (numbers 0 (pair_count config)) i).1 (subst (λ q. In q (all_leased h)) e (held_was_leased h a j))
not_held_case config h p a j e (inr i) =
    not_in p (map pair_of (held h)) (filtered (λ p. not (has (map pair_of (held h)) p)) (last_once (returned h)) i).1
    (subst (λ q. In q (map pair_of (held h))) e (maps pair_of (held h) j))

pub free_not_held : (config : Config) (h : List BoardEntry) (p : ℕ) (a : Holder) → In p (free config h) → In a (held h) → a.pair ≡ p → ⊥
free_not_held config h p a i j e = not_held_case config h p a j e (in_append (never_leased config h) (given_back h) i)

below_case : (config : Config) (h : List BoardEntry) (p : ℕ) → (In p (all_leased h) → p < pair_count config) → In p (never_leased config h) ⊎ In p (given_back h) → p < pair_count config
below_case config h p rest (inl i) =
    let b = in_numbers p 0 (pair_count config) (filtered (λ p. not (has (all_leased h) p)) (numbers 0 (pair_count config)) i).0 in omega (arith, b.1)
below_case config h p rest (inr i) =
    rest (returned_was_leased h p (last_in p (returned h) (filtered (λ p. not (has (map pair_of (held h)) p)) (last_once (returned h)) i).0))

-- Fronts of the families' lists.

record IsFront (lists : Family → List ℕ) (p : ℕ) : Type 0 where
  family : Family
  is_in : In p (lists family)

pub in_first : (p : ℕ) (xs : List ℕ) → In p (first_of xs) → In p xs
in_first p [] i = elim i [ ]
in_first p (x ∷ xs) (here e) = here e
in_first p (x ∷ xs) (there i) = elim i [ ]

in_rest : (p : ℕ) (xs : List ℕ) → In p (drop 1 xs) → In p xs
in_rest p [] i = elim i [ ]
in_rest p (x ∷ xs) i = there i

without_case : (p : ℕ) (xs : List ℕ) (b : Bool) → In p (cond b (drop 1 xs) xs) → In p xs
without_case p xs true i = in_rest p xs i
without_case p xs false i = i

in_without : (lists : Family → List ℕ) (taken family : Family) (p : ℕ) → In p (without_front lists taken family) → In p (lists family)
in_without lists taken family p i = without_case p (lists family) (family_eq taken family) i

front_case : (lists : Family → List ℕ) (leg : NewLeg) (p : ℕ) (tail : List ℕ) → (In p tail → IsFront (without_front lists leg.family) p)
    → In p (first_of (lists leg.family)) ⊎ In p tail → IsFront lists p
front_case lists leg p tail rest (inl i) = record { family = leg.family; is_in = in_first p (lists leg.family) i }
front_case lists leg p tail rest (inr i) = let r = rest i in record { family = r.family; is_in = in_without lists leg.family r.family p r.is_in }

front_in : (lists : Family → List ℕ) (legs : List NewLeg) (p : ℕ) → In p (fronts lists legs) → IsFront lists p
front_in lists [] p i = elim i [ ]
front_in lists (leg ∷ legs) p i =
    front_case lists leg p (fronts (without_front lists leg.family) legs) (front_in (without_front lists leg.family) legs p)
    (in_append (first_of (lists leg.family)) (fronts (without_front lists leg.family) legs) i)

-- each family's list has each number once, and no number stands in two
pub record AreApart (lists : Family → List ℕ) : Type 0 where
  pub each : (family : Family) → Once (lists family)
  pub apart : (f g : Family) (p : ℕ) → In p (lists f) → In p (lists g) → f ≡ g

once_rest : (xs : List ℕ) → Once xs → Once (drop 1 xs)
once_rest [] once = tt
once_rest (x ∷ xs) once = once.1

once_without : (xs : List ℕ) (b : Bool) → Once xs → Once (cond b (drop 1 xs) xs)
once_without xs true once = once_rest xs once
once_without xs false once = once

pub apart_without : (lists : Family → List ℕ) (taken : Family) → AreApart lists → AreApart (without_front lists taken)
apart_without lists taken a = record {
  each = λ family. once_without (lists family) (family_eq taken family) (a.each family);
  apart = λ f g p i j. a.apart f g p (in_without lists taken f p i) (in_without lists taken g p j);
}

once_first : (xs : List ℕ) → Once (first_of xs)
once_first [] = tt
once_first (x ∷ xs) = (λ i. elim i [ ], tt)

first_not_rest : (p : ℕ) (xs : List ℕ) → Once xs → In p (first_of xs) → In p (drop 1 xs) → ⊥
first_not_rest p [] once i j = elim i [ ]
first_not_rest p (x ∷ xs) once (here e) j = once.0 (subst (λ q. In q xs) e j)
first_not_rest p (x ∷ xs) once (there i) j = elim i [ ]

eq_families : (f : Family) → family_eq f f ≡ true
eq_families V4 = refl
eq_families V6 = refl

first_apart : (lists : Family → List ℕ) (taken : Family) (p : ℕ) → AreApart lists → In p (first_of (lists taken)) → IsFront (without_front lists taken) p → ⊥
first_apart lists taken p a i front =
    let same : taken ≡ front.family = a.apart taken front.family p (in_first p (lists taken) i) (in_without lists taken front.family p front.is_in) in
    let at : In p (without_front lists taken taken) = subst (λ f. In p (without_front lists taken f)) (sym same) front.is_in in
    first_not_rest p (lists taken) (a.each taken) i (subst (λ b. In p (cond b (drop 1 (lists taken)) (lists taken))) (eq_families taken) at)

pub fronts_once : (lists : Family → List ℕ) (legs : List NewLeg) → AreApart lists → Once (fronts lists legs)
fronts_once lists [] a = tt
fronts_once lists (leg ∷ legs) a =
    once_append (first_of (lists leg.family)) (fronts (without_front lists leg.family) legs) (once_first (lists leg.family))
    (fronts_once (without_front lists leg.family) legs (apart_without lists leg.family a))
    (λ p i j. first_apart lists leg.family p a i (front_in (without_front lists leg.family) legs p j))

pub family_if : (f g : Family) → family_eq f g ≡ true → f ≡ g
family_if V4 V4 h = refl
family_if V6 V6 h = refl
family_if V4 V6 h = absurd (let e = h in cc)
family_if V6 V4 h = absurd (let e = h in cc)

-- the pairs of each family, where each stands once
pub pairs_apart : (config : Config) (pairs : List ℕ) → Once pairs → AreApart (pairs_of_family config pairs)
pairs_apart config pairs once = record {
  each = λ family. once_some (λ p. family_eq (pair_family config p) family) pairs once;
  apart = λ f g p i j.
      sym (family_if (pair_family config p) f (filtered (λ q. family_eq (pair_family config q) f) pairs i).1)
      ∙ family_if (pair_family config p) g (filtered (λ q. family_eq (pair_family config q) g) pairs j).1;
}

pub families_apart : (config : Config) (h : List BoardEntry) → AreApart (free_in config h)
families_apart config h = pairs_apart config (free config h) (free_once config h)

-- a front of some pairs' families is one of these pairs
pub front_among : (config : Config) (pairs : List ℕ) (legs : List NewLeg) (p : ℕ) → In p (fronts (pairs_of_family config pairs) legs) → In p pairs
front_among config pairs legs p i = let f = front_in (pairs_of_family config pairs) legs p i in
    (filtered (λ q. family_eq (pair_family config q) f.family) pairs f.is_in).0

-- a front of the free pairs is free
pub front_free : (config : Config) (h : List BoardEntry) (legs : List NewLeg) (p : ℕ) → In p (fronts (free_in config h) legs) → In p (free config h)
front_free config h legs p i = front_among config (free config h) legs p i

-- What an entry leases was free.

-- the pairs of an offer's new legs were free before it, and stand once
pub new_leg_free : (config : Config) (h : List BoardEntry) (e : BoardEntry) (o : Offer) (a : Holder) → FitsBoard config h e → act e ≡ act.Offered o → In a o.legs → In a.pair (free config h)
new_leg_free config h e o a fits is i =
    let shown = offer_told config h e o fits is in
    let n = new_leg_is h o.of (fronts (free_in config h) shown.demand.pairs) shown.demand.pairs a (subst (λ xs. In a xs) shown.legs_are i) in
    front_free config h shown.demand.pairs a.pair n.pair_in

pairs_once : (h : List BoardEntry) (c : Call) (pairs : List ℕ) (legs : List NewLeg) → Once pairs → Once (map pair_of (leased_new_legs h c pairs legs))
pairs_once h c [] legs once = tt
pairs_once h c (p ∷ pairs) [] once = tt
pairs_once h c (p ∷ pairs) (leg ∷ legs) once = (
  λ i. let m = mapped pair_of (leased_new_legs h c pairs legs) i in
      once.0 (subst (λ q. In q pairs) m.makes (new_leg_is h c pairs legs m.from m.is_in).pair_in),
  pairs_once h c pairs legs once.1,
)

pub new_legs_once : (config : Config) (h : List BoardEntry) (e : BoardEntry) (o : Offer) → FitsBoard config h e → act e ≡ act.Offered o → Once (map (λ (a : Holder). a.pair) o.legs)
new_legs_once config h e o fits is =
    let shown = offer_told config h e o fits is in
    subst (λ xs. Once (map pair_of xs)) (sym shown.legs_are)
    (pairs_once h o.of (fronts (free_in config h) shown.demand.pairs) shown.demand.pairs (fronts_once (free_in config h) shown.demand.pairs (families_apart config h)))

abbrev pair_leased : Lease → ℕ
pair_leased lease = lease.pair

lease_free : (config : Config) (h : List BoardEntry) (e : BoardEntry) (p : ℕ) (x : Act) → FitsBoard config h e → act e ≡ x → Tells config h e x → In p (leased_by_act x) → In p (free config h)
lease_free config h e p (act.Offered o) fits is shown i = let m = mapped pair_of o.legs i in
    subst (λ q. In q (free config h)) m.makes (new_leg_free config h e o m.from fits is m.is_in)
lease_free config h e p (act.Undone code leases draws) fits is shown i =
    let m = mapped pair_leased leases i in
    let n = mapped (next_lease h) (fronts (free_in config h) shown.demand.pairs) (subst (λ xs. In m.from xs) shown.leases_are m.is_in) in
    let same : n.from ≡ p = ap pair_leased n.makes ∙ m.makes in
    subst (λ q. In q (free config h)) same (front_free config h shown.demand.pairs n.from n.is_in)
lease_free config h e p act.Repeated fits is shown i = elim i [ ]
lease_free config h e p act.OutOfMemory fits is shown i = elim i [ ]
lease_free config h e p (act.Failed code) fits is shown i = elim i [ ]
lease_free config h e p (act.Answered x) fits is shown i = elim i [ ]
lease_free config h e p (act.Deleted of) fits is shown i = elim i [ ]
lease_free config h e p (act.Queried of) fits is shown i = elim i [ ]
lease_free config h e p act.Told fits is shown i = elim i [ ]
lease_free config h e p (act.Delayed of s) fits is shown i = elim i [ ]

-- a pair that an entry leases was free
pub leased_free : (config : Config) (h : List BoardEntry) (e : BoardEntry) (p : ℕ) → FitsBoard config h e → In p (leased_by_act (act e)) → In p (free config h)
leased_free config h e p fits i = lease_free config h e p (act e) fits refl (tells config h e fits) i

leased_case : (config : Config) (h : List BoardEntry) (e : BoardEntry) (p : ℕ) → FitsBoard config h e → (In p (all_leased h) → p < pair_count config)
    → In p (leased_by_act (act e)) ⊎ In p (all_leased h) → p < pair_count config
leased_case config h e p fits rest (inl i) = below_case config h p rest (in_append (never_leased config h) (given_back h) (leased_free config h e p fits i))
leased_case config h e p fits rest (inr i) = rest i

pub leased_below : (config : Config) (h : List BoardEntry) (p : ℕ) → IsFitting config h → In p (all_leased h) → p < pair_count config
leased_below config [] p fits i = elim i [ ]
leased_below config (e ∷ h) p fits i = leased_case config h e p fits.0 (leased_below config h p fits.1) (in_append (leased_by_act (act e)) (all_leased h) i)

pub free_below : (config : Config) (h : List BoardEntry) (p : ℕ) → IsFitting config h → In p (free config h) → p < pair_count config
free_below config h p fits i = below_case config h p (leased_below config h p fits) (in_append (never_leased config h) (given_back h) i)

-- Who holds a pair.

legs_once : (config : Config) (h : List BoardEntry) (e : BoardEntry) (x : Act) → FitsBoard config h e → act e ≡ x → Once (map pair_of (legs_of_act x))
legs_once config h e (act.Offered o) fits is = new_legs_once config h e o fits is
legs_once config h e act.Repeated fits is = tt
legs_once config h e act.OutOfMemory fits is = tt
legs_once config h e (act.Failed code) fits is = tt
legs_once config h e (act.Undone code leases draws) fits is = tt
legs_once config h e (act.Answered x) fits is = tt
legs_once config h e (act.Deleted of) fits is = tt
legs_once config h e (act.Queried of) fits is = tt
legs_once config h e act.Told fits is = tt
legs_once config h e (act.Delayed of s) fits is = tt

abbrev still_held : BoardEntry → List BoardEntry → List Holder
still_held e h = filter (λ leg. not (closes_leg e leg)) (held h)

old_and_new : (config : Config) (h : List BoardEntry) (e : BoardEntry) (p : ℕ) → FitsBoard config h e → In p (map pair_of (still_held e h)) → In p (map pair_of (legs_of_act (act e))) → ⊥
old_and_new config h e p fits i j =
    let old = mapped pair_of (still_held e h) i in
    let new = mapped pair_of (legs_of_act (act e)) j in
    let free_now = leased_free config h e new.from.pair fits (legs_leased new.from (act e) new.is_in) in
    free_not_held config h new.from.pair old.from free_now (filtered (λ leg. not (closes_leg e leg)) (held h) old.is_in).0 (old.makes ∙ sym new.makes)

-- no pair has two holders
pub held_once : (config : Config) (h : List BoardEntry) → IsFitting config h → Once (map (λ (a : Holder). a.pair) (held h))
held_once config [] fits = tt
held_once config (e ∷ h) fits =
    subst Once (sym (map-append pair_of (still_held e h) (legs_of_act (act e))))
    (once_append (map pair_of (still_held e h)) (map pair_of (legs_of_act (act e)))
    (once_filtered pair_of (λ leg. not (closes_leg e leg)) (held h) (held_once config h fits.1))
    (legs_once config h e (act e) fits.0 refl)
    (λ p i j. old_and_new config h e p fits.0 i j))

pub held_apart : (config : Config) (h : List BoardEntry) (a b : Holder) → IsFitting config h → In a (held h) → In b (held h) → a.pair ≡ b.pair → a ≡ b
held_apart config h a b fits i j e = once_equal pair_of (held h) (held_once config h fits) i j e

pub held_below : (config : Config) (h : List BoardEntry) (a : Holder) → IsFitting config h → In a (held h) → a.pair < pair_count config
held_below config h a fits i = leased_below config h a.pair fits (held_was_leased h a i)
