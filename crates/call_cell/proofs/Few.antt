-- A cell has at most 16 legs, since they stand apart, and in sections below 8.
use Rattle.std.proofs.Common.{◌≡◌, refl, subst, sym, ℕ, zero, suc, ◌+◌, ◌<◌, ◌≤◌, ◌≢◌, inl, inr, true, eqb, List, [], ◌∷◌, map, length, get_or, arith}
use Rattle.std.specs.List.{AllPairs, list_any}
use Rattle.std.proofs.lemmas.Bool.{cases_order}
use Rattle.std.proofs.lemmas.Bool.Decides.{Decides-eqb}
use Rattle.std.proofs.lemmas.List.{length-map, get_or-map}
use Rattle.std.proofs.lemmas.Map.Made.{IsDistinct-from_AllPairs}
use Rattle.std.proofs.lemmas.Map.Steps.{length-le_from_distinct_below}
use Rattle.relay_outside.specs.declared.settings.Config.{Config}
use Rattle.histories.specs.Words.{In, here, there}
use Rattle.histories.proofs.Lists.{mapped, any_is_in}
use Rattle.port_pool.specs.declared.holder.Side.{Side}
use Rattle.port_pool.specs.declared.holder.Side.TheVariants.{A, B}
use Rattle.port_pool.specs.Signals.{same_leg}
use Rattle.call_cell.specs.declared.leg.Leg.{Leg}
use Rattle.call_cell.specs.Cells.{CellEntry}
use Rattle.call_cell.specs.LegHistories.{LegStandsFor, LegsStandFor, AreApart}
use Rattle.call_cell.proofs.Placing.{same_swap}

-- Elements and places.

pub record IsAt {X : Type 0} (x : X) (xs : List X) : Type 0 where
  pub at : ℕ
  pub below : at < length xs
  pub is : (d : X) → get_or xs at d ≡ x

later_at : {X : Type 0} {x : X} (y : X) (xs : List X) → IsAt x xs → IsAt x (y ∷ xs)
later_at y xs i = record { at = suc i.at; below = omega (arith, i.below); is = i.is }

pub in_at : {X : Type 0} {x : X} (xs : List X) → In x xs → IsAt x xs
in_at [] i = elim i [ ]
in_at (y ∷ xs) (here q) = record { at = 0; below = omega arith; is = λ d. sym q }
in_at (y ∷ xs) (there i) = later_at y xs (in_at xs i)

pub at_in : {X : Type 0} (xs : List X) (i : ℕ) (d : X) → i < length xs → In (get_or xs i d) xs
at_in [] i d below = absurd (omega (arith, below))
at_in (x ∷ xs) zero d below = here refl
at_in (x ∷ xs) (suc i) d below = there (at_in xs i d (omega (arith, below)))

pub each_in : {O : Type 0} (config : Config) (h : List CellEntry) (those : List (Leg O)) (leg : Leg O) → LegsStandFor config h those → In leg those → LegStandsFor config h leg
each_in {O} config h those leg for i =
    let a = in_at those i in
    subst (λ (l : Leg O). LegStandsFor config h l) (a.is leg) (for.each a.at leg a.below)

-- Legs that are apart.

pub record Apart {O : Type 0} (a b : Leg O) : Type 0 where
  pub lease : same_leg a.holder b.holder ≡ true → ⊥
  pub place : a.holder.section ≡ b.holder.section → a.holder.side ≡ b.holder.side → ⊥

pub pairs_of : {O : Type 0} (those : List (Leg O)) → AreApart those → AllPairs (λ (a b : Leg O). Apart a b) those
pairs_of those apart i j d less below = record {
  lease = λ same. omega (arith, less, apart.leases i j d (omega (arith, less, below)) below same);
  place = λ section side. omega (arith, less, apart.places i j d (omega (arith, less, below)) below section side);
}

pub apart_of : {O : Type 0} (those : List (Leg O)) → AllPairs (λ (a b : Leg O). Apart a b) those → AreApart those
apart_of {O} those pairs = record {
  leases = λ i j d one two same. elim (cases_order i j) [
    | inl is ↦ is
    | inr (inl less) ↦ absurd ((pairs i j d less two).lease same)
    | inr (inr more) ↦ absurd ((pairs j i d more one).lease (same_swap (get_or those i d).holder (get_or those j d).holder same))
  ];
  places = λ i j d one two section side. elim (cases_order i j) [
    | inl is ↦ is
    | inr (inl less) ↦ absurd ((pairs i j d less two).place section side)
    | inr (inr more) ↦ absurd ((pairs j i d more one).place (sym section) (sym side))
  ];
}

-- The number of legs.

abbrev pub side_number : Side → ℕ
side_number A = 0
side_number B = 1

abbrev pub number : {O : Type 0} → Leg O → ℕ
number leg = leg.holder.section + leg.holder.section + side_number leg.holder.side

side_small : (s : Side) → side_number s < 2
side_small A = omega arith
side_small B = omega arith

number_small : {O : Type 0} (leg : Leg O) → leg.holder.section < 8 → number leg < 16
number_small leg small = omega (arith, small, side_small leg.holder.side)

side_same : (s t : Side) → side_number s ≡ side_number t → s ≡ t
side_same A A q = refl
side_same B B q = refl
side_same A B q = absurd (omega (arith, q))
side_same B A q = absurd (omega (arith, q))

number_apart : {O : Type 0} (a b : Leg O) → Apart a b → number a ≢ number b
number_apart a b apart same =
    let s = side_small a.holder.side in
    let t = side_small b.holder.side in
    apart.place (omega (arith, same, s, t)) (side_same a.holder.side b.holder.side (omega (arith, same, s, t)))

some_of : {X : Type 0} (xs : List X) (i : ℕ) → i < length xs → X
some_of [] i below = absurd (omega (arith, below))
some_of (x ∷ xs) i below = x

at_number : {O : Type 0} (those : List (Leg O)) (i d : ℕ) (x : Leg O) → i < length those → get_or (map (λ (leg : Leg O). number leg) those) i d ≡ number (get_or those i x)
at_number {O} those i d x below =
    get_or-map (λ (leg : Leg O). number leg) those i x d below

-- legs that are apart have different numbers
pub numbers_apart : {O : Type 0} (those : List (Leg O)) → AllPairs (λ (a b : Leg O). Apart a b) those → AllPairs (λ (a b : ℕ). a ≢ b) (map (λ (leg : Leg O). number leg) those)
numbers_apart {O} those pairs i j d less below =
    let f : Leg O → ℕ = λ (leg : Leg O). number leg in
    let two : j < length those = omega (arith, below, length-map those f) in
    let one : i < length those = omega (arith, less, two) in
    let x = some_of those j two in
    subst (λ (n : ℕ). n ≢ get_or (map f those) j d) (sym (at_number those i d x one))
    (subst (λ (n : ℕ). number (get_or those i x) ≢ n) (sym (at_number those j d x two))
    (number_apart (get_or those i x) (get_or those j x) (pairs i j x less two)))

pub few : {O : Type 0} (config : Config) (h : List CellEntry) (those : List (Leg O)) → LegsStandFor config h those → length those ≤ 16
few {O} config h those for =
    let f : Leg O → ℕ = λ (leg : Leg O). number leg in
    let long : length (map f those) ≡ length those = length-map those f in
    let pairs = numbers_apart those (pairs_of those for.apart) in
    let small : (q : ℕ) → list_any (eqb q) (map f those) ≡ true → q < 16 = λ q any.
    let m = any_is_in (eqb q) (map f those) any in
    let n = mapped f those m.is_in in
    let same : q ≡ m.from = (Decides-eqb q m.from).0 m.makes in
    omega (arith, same, n.makes, number_small n.from (each_in config h those n.from for n.is_in).section) in
    omega (arith, long, length-le_from_distinct_below (map f those) 16 (IsDistinct-from_AllPairs (λ a b. Decides-eqb a b) (map f those) pairs) small)
