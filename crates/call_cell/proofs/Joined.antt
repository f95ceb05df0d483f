-- Keys that come to the legs that they are for, one by one.
use Rattle.std.proofs.Common.{◌≡◌, refl, ap, subst, sym, ◌∙◌, ℕ, zero, suc, ◌<◌, inl, inr, Bool, true, false, cond, List, [], ◌∷◌, ◌++◌, map, length, Option, Some, None, get_or, set, arith}
use Rattle.std.specs.Prelude.{◌&&◌, ◌||◌, ◌==◌, is_some, position}
use Rattle.std.specs.List.{list_any}
use Rattle.std.proofs.lemmas.List.{length-map, get_or-map}
use Rattle.srtp_sources.proofs.Knowing.{equal_if, any-position}
use Rattle.histories.specs.Words.{In, here, there}
use Rattle.port_pool.specs.declared.holder.Side.{Side}
use Rattle.port_pool.specs.declared.holder.Side.TheVariants.{A, B}
use Rattle.port_pool.specs.declared.holder.Holder.{Holder}
use Rattle.port_pool.specs.Signals.{side_eq}
use Rattle.call_cell.specs.declared.leg.Leg.{Leg}
use Rattle.call_cell.specs.declared.prepare.PreparedKey.{PreparedKey}
use Rattle.call_cell.specs.LegHistories.{AreApart, with_sending}
use Rattle.call_cell.specs.Preparations.{is_key_at, with_contexts, with_key, put_if, with_keys}
use Rattle.call_cell.proofs.Splits.{both_left, both_right}
use Rattle.call_cell.proofs.Placing.{place_is, other_default, true_or_not}
use Rattle.call_cell.proofs.Answered.{apart_so}

-- Lists.

map_same : {X : Type 0} (f : X → X) (xs : List X) → ((x : X) → In x xs → f x ≡ x) → map f xs ≡ xs
map_same f [] same = refl
map_same {X} f (x ∷ xs) same = ap (λ (y : X). y ∷ map f xs) (same x (here refl)) ∙ ap (λ (l : List X). x ∷ l) (map_same f xs (λ y i. same y (there i)))

map_same_at : {X : Type 0} (f : X → X) (xs : List X) → ((i : ℕ) (d : X) → i < length xs → f (get_or xs i d) ≡ get_or xs i d) → map f xs ≡ xs
map_same_at f [] same = refl
map_same_at {X} f (x ∷ xs) same =
    ap (λ (y : X). y ∷ map f xs) (same zero x (omega arith))
    ∙ ap (λ (l : List X). x ∷ l) (map_same_at f xs (λ i d below. same (suc i) d (omega (arith, below))))

set_map : {X : Type 0} (f : X → X) (xs : List X) (at : ℕ) (v : X) → at < length xs → ((d : X) → v ≡ f (get_or xs at d))
    → ((i : ℕ) (d : X) → i < length xs → (i ≡ at → ⊥) → f (get_or xs i d) ≡ get_or xs i d) → set xs at v ≡ map f xs
set_map f [] at v below is others = absurd (omega (arith, below))
set_map {X} f (x ∷ xs) zero v below is others =
    ap (λ (y : X). y ∷ xs) (is x)
    ∙ ap (λ (l : List X). f x ∷ l) (sym (map_same_at f xs (λ i d less. others (suc i) d (omega (arith, less)) (λ q. omega (arith, q)))))
set_map {X} f (x ∷ xs) (suc at) v below is others =
    ap (λ (y : X). y ∷ set xs at v) (sym (others zero x (omega arith) (λ q. omega (arith, q))))
    ∙ ap (λ (l : List X). f x ∷ l)
    (set_map f xs at v (omega (arith, below)) is (λ i d less off. others (suc i) d (omega (arith, less)) (λ q. off (omega (arith, q)))))

pub map_map : {X Y Z : Type 0} (f : Y → Z) (g : X → Y) (xs : List X) → map f (map g xs) ≡ map (λ (x : X). f (g x)) xs
map_map f g [] = refl
map_map {X} {Y} {Z} f g (x ∷ xs) = ap (λ (l : List Z). f (g x) ∷ l) (map_map f g xs)

pub map_by : {X Y : Type 0} (f g : X → Y) → ((x : X) → f x ≡ g x) → (xs : List X) → map f xs ≡ map g xs
map_by f g same [] = refl
map_by {X} {Y} f g same (x ∷ xs) = ap (λ (y : Y). y ∷ map f xs) (same x) ∙ ap (λ (l : List Y). g x ∷ l) (map_by f g same xs)

or_one : (a b : Bool) → (a || b) ≡ false → a ≡ false
or_one true b q = absurd (let f = q in cc)
or_one false b q = refl

or_two : (a b : Bool) → (a || b) ≡ false → b ≡ false
or_two true b q = absurd (let f = q in cc)
or_two false b q = q

none_passes : {X : Type 0} (p : X → Bool) (xs : List X) → list_any p xs ≡ false → (x : X) → In x xs → p x ≡ false
none_passes p [] q x i = elim i [ ]
none_passes p (y ∷ ys) q x (here e) = ap p e ∙ or_one (p y) (list_any p ys) q
none_passes p (y ∷ ys) q x (there i) = none_passes p ys (or_two (p y) (list_any p ys) q) x i

-- One key.

pub side_is : (a b : Side) → side_eq a b ≡ true → a ≡ b
side_is A A q = refl
side_is B B q = refl
side_is A B q = absurd (let e = q in cc)
side_is B A q = absurd (let e = q in cc)

abbrev on_place : PreparedKey → Holder → Bool
on_place key holder = (key.section == holder.section) && side_eq key.side holder.side

one_place : (key : PreparedKey) (a b : Holder) → on_place key a ≡ true → on_place key b ≡ true → (a.section ≡ b.section) × (a.side ≡ b.side)
one_place key a b p q = (
  sym (equal_if key.section a.section (both_left (key.section == a.section) (side_eq key.side a.side) p))
      ∙ equal_if key.section b.section (both_left (key.section == b.section) (side_eq key.side b.side) q),
  sym (side_is key.side a.side (both_right (key.section == a.section) (side_eq key.side a.side) p))
      ∙ side_is key.side b.side (both_right (key.section == b.section) (side_eq key.side b.side) q),
)

pub put_by : {O : Type 0} (key : PreparedKey) (leg : Leg O) (b : Bool) → is_key_at key leg ≡ b → put_if key leg ≡ cond b (with_key key leg) leg
put_by {O} key leg b q = ap (λ (c : Bool). cond c (with_key key leg) leg) q

pub put_at : {O : Type 0} (key : PreparedKey) (those : List (Leg O)) (at : ℕ) (x new : Leg O) → AreApart those
    → position (λ (leg : Leg O). is_key_at key leg) those ≡ Some at
    → new ≡ with_sending (get_or those at x) (with_contexts key.suite key.contexts (get_or those at x).sending)
    → set those at new ≡ map (λ (leg : Leg O). put_if key leg) those
put_at {O} key those at x new apart is new_is =
    let place = place_is (on_place key) those at x is in
    let f : Leg O → Leg O = λ (leg : Leg O). put_if key leg in
    set_map f those at new place.below
    (λ d. new_is ∙ sym (put_by key (get_or those at x) true place.passes) ∙ ap f (other_default those at x d place.below))
    (λ i d below off. put_by key (get_or those i d) false (elim (true_or_not (on_place key (get_or those i d).holder)) [
      | inl so ↦
          let here_too : on_place key (get_or those at d).holder ≡ true
          = subst (λ (leg : Leg O). on_place key leg.holder ≡ true) (other_default those at x d place.below) place.passes in
          let same = one_place key (get_or those i d).holder (get_or those at d).holder so here_too in
          absurd (off (apart.places i at d below place.below same.0 same.1))
      | inr off_it ↦ off_it
    ]))

pub put_nowhere : {O : Type 0} (key : PreparedKey) (those : List (Leg O)) → position (λ (leg : Leg O). is_key_at key leg) those ≡ None
    → those ≡ map (λ (leg : Leg O). put_if key leg) those
put_nowhere {O} key those none =
    let p : Leg O → Bool = λ (leg : Leg O). is_key_at key leg in
    let any : list_any p those ≡ false = any-position p those ∙ ap (λ (o : Option ℕ). is_some o) none in
    sym (map_same (λ (leg : Leg O). put_if key leg) those (λ leg i. put_by key leg false (none_passes p those any leg i)))

-- All keys.

pub put_holder : {O : Type 0} (key : PreparedKey) (leg : Leg O) → (put_if key leg).holder ≡ leg.holder
put_holder key leg = of_case (is_key_at key leg)
  where
    of_case : (b : Bool) → (cond b (with_key key leg) leg).holder ≡ leg.holder
    of_case true = refl
    of_case false = refl

pub apart_map : {O : Type 0} (f : Leg O → Leg O) (those : List (Leg O)) → ((leg : Leg O) → (f leg).holder ≡ leg.holder) → AreApart those → AreApart (map f those)
apart_map {O} f those same apart =
    apart_so those (map f those) (length-map those f)
    (λ i d below. ap (λ (leg : Leg O). leg.holder) (get_or-map f those i d d below) ∙ same (get_or those i d)) apart

with_more : {O : Type 0} (keys : List PreparedKey) (key : PreparedKey) (leg : Leg O) → with_keys (keys ++ key ∷ []) leg ≡ with_keys keys (put_if key leg)
with_more [] key leg = refl
with_more {O} (k ∷ keys) key leg = ap (λ (l : Leg O). put_if k l) (with_more keys key leg)

pub one_put : {O : Type 0} (all keys rest : List PreparedKey) (key : PreparedKey) (first old new : List (Leg O)) → keys ≡ rest ++ key ∷ []
    → AreApart old × (map (λ (leg : Leg O). with_keys keys leg) old ≡ map (λ (leg : Leg O). with_keys all leg) first)
    → (AreApart old → new ≡ map (λ (leg : Leg O). put_if key leg) old)
    → AreApart new × (map (λ (leg : Leg O). with_keys rest leg) new ≡ map (λ (leg : Leg O). with_keys all leg) first)
one_put {O} all keys rest key first old new is before does =
    let put : Leg O → Leg O = λ (leg : Leg O). put_if key leg in
    let it : new ≡ map put old = does before.0 in (
      subst (λ (l : List (Leg O)). AreApart l) (sym it) (apart_map put old (λ leg. put_holder key leg) before.0),
      ap (λ (l : List (Leg O)). map (λ (leg : Leg O). with_keys rest leg) l) it
          ∙ map_map (λ (leg : Leg O). with_keys rest leg) put old
          ∙ map_by (λ (leg : Leg O). with_keys rest (put_if key leg)) (λ (leg : Leg O). with_keys (rest ++ key ∷ []) leg) (λ leg. sym (with_more rest key leg)) old
          ∙ ap (λ (l : List PreparedKey). map (λ (leg : Leg O). with_keys l leg) old) (sym is) ∙ before.1,
    )

map_all : {O : Type 0} (those : List (Leg O)) → map (λ (leg : Leg O). with_keys [] leg) those ≡ those
map_all {O} those = map_same (λ (leg : Leg O). leg) those (λ leg i. refl)

pub all_put : {O : Type 0} (all keys : List PreparedKey) (first old : List (Leg O)) → keys ≡ []
    → map (λ (leg : Leg O). with_keys keys leg) old ≡ map (λ (leg : Leg O). with_keys all leg) first → old ≡ map (λ (leg : Leg O). with_keys all leg) first
all_put {O} all keys first old none is =
    sym (map_all old) ∙ ap (λ (l : List PreparedKey). map (λ (leg : Leg O). with_keys l leg) old) (sym none) ∙ is

pub nil_of : {X : Type 0} (xs : List X) → length xs ≡ 0 → xs ≡ []
nil_of [] q = refl
nil_of (x ∷ xs) q = absurd (omega (arith, q))
