-- An accepted offer leases a pair for each leg, and draws a key for each key, that its plan demands, in this order.
use Rattle.std.proofs.Common.{◌≡◌, ◌∙◌, ap, subst, ℕ, ◌+◌, ◌-◌, ◌≤◌, List, [], ◌∷◌, map, drop, length, Bool, true, false, cond, refl, arith, length-append}
use Rattle.std.specs.Prelude.{count_by, nat_lt, ◌||◌}
use Rattle.std.proofs.lemmas.Bool.Decides.{nat_tests}
use Rattle.std.proofs.lemmas.List.Sums.{sum_by-append}
use Rattle.relay_outside.specs.declared.settings.Config.{Config}
use Rattle.relay_outside.specs.declared.address.Family.{Family}
use Rattle.relay_outside.specs.declared.address.Family.TheVariants.{V4, V6}
use Rattle.port_pool.specs.Ports.{family_eq}
use Rattle.port_pool.specs.declared.holder.Side.{Side}
use Rattle.port_pool.specs.declared.holder.Holder.{Holder}
use Rattle.port_pool.specs.Signals.{NewKey}
use Rattle.offer_answer.specs.Rounds.{NewLeg, KeyPlace}
use Rattle.call_board.specs.Acts.{Call, Offer, BoardEntry}
use Rattle.call_board.specs.Pairs.{first_of, without_front, fronts, is_short, is_short_of, free_in, leased_new_legs, drawn_keys_from}
use Rattle.call_board.proofs.Told.{IsOffer}

abbrev as_one : Bool → ℕ
as_one b = cond b 1 0

abbrev pub count_of : Family → List NewLeg → ℕ
count_of family legs = count_by (λ (leg : NewLeg). family_eq leg.family family) legs

-- each family has as many pairs as there are legs of it
abbrev pub AreEnough : (Family → List ℕ) → List NewLeg → Type 0
AreEnough lists legs = (family : Family) → count_of family legs ≤ length (lists family)

pub count_next : (family : Family) (leg : NewLeg) (legs : List NewLeg) → count_of family (leg ∷ legs) ≡ as_one (family_eq leg.family family) + count_of family legs
count_next family leg legs = let both = sum_by-append (λ (l : NewLeg). cond (family_eq l.family family) 1 0) (leg ∷ []) legs in omega (arith, both)

not_short : (a b : Bool) → (a || b) ≡ false → (a ≡ false) × (b ≡ false)
not_short true b h = absurd (let e = h in cc)
not_short false b h = (refl, h)

not_below : (m n : ℕ) → nat_lt m n ≡ false → n ≤ m
not_below m n h = grind (arith, nat_tests)

pub enough_of : (lists : Family → List ℕ) (legs : List NewLeg) → is_short lists legs ≡ false → AreEnough lists legs
enough_of lists legs h V4 = not_below (length (lists V4)) (count_of V4 legs) (not_short (is_short_of lists legs V4) (is_short_of lists legs V6) h).0
enough_of lists legs h V6 = not_below (length (lists V6)) (count_of V6 legs) (not_short (is_short_of lists legs V4) (is_short_of lists legs V6) h).1

rest_length : (xs : List ℕ) → length (drop 1 xs) ≡ length xs - 1
rest_length [] = refl
rest_length (x ∷ xs) = omega arith

next_case : (n : ℕ) (xs : List ℕ) (b : Bool) → as_one b + n ≤ length xs → n ≤ length (cond b (drop 1 xs) xs)
next_case n xs true h = let rest = rest_length xs in omega (arith, rest)
next_case n xs false h = omega arith

pub enough_next : (lists : Family → List ℕ) (leg : NewLeg) (legs : List NewLeg) → AreEnough lists (leg ∷ legs) → AreEnough (without_front lists leg.family) legs
enough_next lists leg legs enough family =
    next_case (count_of family legs) (lists family) (family_eq leg.family family)
    (subst (λ n. n ≤ length (lists family)) (count_next family leg legs) (enough family))

eq_families : (f : Family) → family_eq f f ≡ true
eq_families V4 = refl
eq_families V6 = refl

first_length : (xs : List ℕ) → 1 ≤ length xs → length (first_of xs) ≡ 1
first_length [] h = absurd (omega arith)
first_length (x ∷ xs) h = refl

pub fronts_length : (lists : Family → List ℕ) (legs : List NewLeg) → AreEnough lists legs → length (fronts lists legs) ≡ length legs
fronts_length lists [] enough = refl
fronts_length lists (leg ∷ legs) enough =
    let rest = fronts_length (without_front lists leg.family) legs (enough_next lists leg legs enough) in
    let here = enough leg.family in
    let count = count_next leg.family leg legs in
    let one : as_one (family_eq leg.family leg.family) ≡ 1 = ap as_one (eq_families leg.family) in
    let front = first_length (lists leg.family) (omega (arith, here, count, one)) in
    let both = length-append (first_of (lists leg.family)) (fronts (without_front lists leg.family) legs) in
    omega (arith, rest, front, both)

-- the section and the side of a leg or a key
pub record Place : Type 0 where
  pub section : ℕ
  pub side : Side

abbrev pub of_leg : Holder → Place
of_leg leg = record { section = leg.section; side = leg.side }

abbrev pub of_new_leg : NewLeg → Place
of_new_leg leg = record { section = leg.section; side = leg.side }

abbrev pub of_key : NewKey → Place
of_key key = record { section = key.section; side = key.side }

abbrev pub of_new_key : KeyPlace → Place
of_new_key place = record { section = place.section; side = place.side }

legs_places : (h : List BoardEntry) (c : Call) (pairs : List ℕ) (legs : List NewLeg) → length pairs ≡ length legs → map of_leg (leased_new_legs h c pairs legs) ≡ map of_new_leg legs
legs_places h c [] [] same = refl
legs_places h c [] (leg ∷ legs) same = absurd (let e = same in omega (arith, e))
legs_places h c (p ∷ pairs) [] same = absurd (let e = same in omega (arith, e))
legs_places h c (p ∷ pairs) (leg ∷ legs) same = ap (λ rest. of_new_leg leg ∷ rest) (legs_places h c pairs legs (let e = same in omega (arith, e)))

keys_places : (n : ℕ) (draws : List (List ℕ)) (places : List KeyPlace) → length draws ≡ length places → map of_key (drawn_keys_from n draws places) ≡ map of_new_key places
keys_places n [] [] same = refl
keys_places n [] (place ∷ places) same = absurd (let e = same in omega (arith, e))
keys_places n (bytes ∷ draws) [] same = absurd (let e = same in omega (arith, e))
keys_places n (bytes ∷ draws) (place ∷ places) same = ap (λ rest. of_new_key place ∷ rest) (keys_places (n + 1) draws places (let e = same in omega (arith, e)))

-- the new legs of an offer are those that its plan demands, in order
pub legs_demanded : (config : Config) (h : List BoardEntry) (e : BoardEntry) (o : Offer) → (shown : IsOffer config h e o) → map of_leg o.legs ≡ map of_new_leg shown.demand.pairs
legs_demanded config h e o shown =
    ap (map of_leg) shown.legs_are
    ∙ legs_places h o.of (fronts (free_in config h) shown.demand.pairs) shown.demand.pairs
    (fronts_length (free_in config h) shown.demand.pairs (enough_of (free_in config h) shown.demand.pairs shown.enough))

legs_length : (h : List BoardEntry) (c : Call) (pairs : List ℕ) (legs : List NewLeg) → length pairs ≡ length legs → length (leased_new_legs h c pairs legs) ≡ length legs
legs_length h c [] [] same = refl
legs_length h c [] (leg ∷ legs) same = absurd (let e = same in omega (arith, e))
legs_length h c (p ∷ pairs) [] same = absurd (let e = same in omega (arith, e))
legs_length h c (p ∷ pairs) (leg ∷ legs) same = let rest = legs_length h c pairs legs (let e = same in omega (arith, e)) in omega (arith, rest)

-- where no family is short of pairs there is a leg with a pair for each new leg
pub legs_count : (config : Config) (h : List BoardEntry) (c : Call) (legs : List NewLeg) → is_short (free_in config h) legs ≡ false
    → length (leased_new_legs h c (fronts (free_in config h) legs) legs) ≡ length legs
legs_count config h c legs enough =
    legs_length h c (fronts (free_in config h) legs) legs (fronts_length (free_in config h) legs (enough_of (free_in config h) legs enough))
