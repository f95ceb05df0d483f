-- Places of legs: where one is found, what a change of one leg changes, and when two are one.
use Rattle.std.proofs.Common.{◌≡◌, refl, ap, subst, sym, ◌∙◌, ℕ, zero, suc, ◌<◌, ◌⊎◌, inl, inr, Bool, true, false, cond, not, List, [], ◌∷◌, length, map, filter, Option, Some, None, arith, get_or, set}
use Rattle.std.specs.Prelude.{◌||◌, ◌&&◌, ◌==◌, is_some, position}
use Rattle.std.specs.List.{list_any}
use Rattle.std.proofs.lemmas.Bool.{cases_order}
use Rattle.std.proofs.lemmas.List.{length-set, get_or_default, get_or-set_same, get_or-set_other}
use Rattle.std.proofs.lemmas.List.Quantifiers.{position-Some}
use Rattle.std.proofs.Math.Seq.{map-set_same}
use Rattle.histories.specs.Words.{first}
use Rattle.srtp_sources.proofs.Knowing.{equal, equal_if, any-position}
use Rattle.port_pool.specs.declared.holder.Side.{Side}
use Rattle.port_pool.specs.declared.holder.Side.TheVariants.{A, B}
use Rattle.port_pool.specs.declared.holder.Holder.{Holder}
use Rattle.port_pool.specs.Signals.{same_leg, side_eq}
use Rattle.call_cell.specs.declared.leg.Leg.{Leg}
use Rattle.call_cell.specs.Cells.{is_opposite}
use Rattle.call_cell.specs.LegHistories.{AreApart}
use Rattle.call_cell.proofs.Splits.{both, both_left, both_right}

abbrev pub holders_of : {O : Type 0} → List (Leg O) → List Holder
holders_of those = map (λ (leg : Leg _). leg.holder) those

first_at : {O : Type 0} (q : Holder → Bool) (those : List (Leg O)) (i : ℕ) (x : Leg O) → i < length those → q (get_or those i x).holder ≡ true
    → ((k : ℕ) → k < i → q (get_or those k x).holder ≡ false) → first (filter q (holders_of those)) ≡ Some (get_or those i x).holder
first_at q [] i x below is_so is_not = absurd (omega (arith, below))
first_at q (y ∷ ys) zero x below is_so is_not =
    ap (λ (b : Bool). first (cond b (y.holder ∷ filter q (holders_of ys)) (filter q (holders_of ys)))) is_so
first_at q (y ∷ ys) (suc i) x below is_so is_not =
    ap (λ (b : Bool). first (cond b (y.holder ∷ filter q (holders_of ys)) (filter q (holders_of ys)))) (is_not zero (omega arith))
    ∙ first_at q ys i x (omega (arith, below)) is_so (λ k lt. is_not (suc k) (omega (arith, lt)))

-- the first leg that passes stands at this place
pub record IsPlace {O : Type 0} (q : Holder → Bool) (those : List (Leg O)) (i : ℕ) (x : Leg O) : Type 0 where
  pub below : i < length those
  pub passes : q (get_or those i x).holder ≡ true
  pub is_first : first (filter q (holders_of those)) ≡ Some (get_or those i x).holder

pub place_is : {O : Type 0} (q : Holder → Bool) (those : List (Leg O)) (i : ℕ) (x : Leg O) → position (λ (leg : Leg O). q leg.holder) those ≡ Some i
    → IsPlace q those i x
place_is {O} q those i x e =
    let f = position-Some (λ (leg : Leg O). q leg.holder) those i x e in
    record { below = f.0; passes = f.1; is_first = first_at q those i x f.0 f.1 f.2 }

or_one : (a b : Bool) → (a || b) ≡ false → a ≡ false
or_one true b q = absurd (let f = q in cc)
or_one false b q = refl

or_two : (a b : Bool) → (a || b) ≡ false → b ≡ false
or_two true b q = absurd (let f = q in cc)
or_two false b q = q

none_first : {O : Type 0} (q : Holder → Bool) (those : List (Leg O)) → list_any (λ (leg : Leg O). q leg.holder) those ≡ false
    → first (filter q (holders_of those)) ≡ None
none_first q [] e = refl
none_first {O} q (y ∷ ys) e =
    ap (λ (b : Bool). first (cond b (y.holder ∷ filter q (holders_of ys)) (filter q (holders_of ys)))) (or_one (q y.holder) (list_any (λ (leg : Leg O). q leg.holder) ys) e)
    ∙ none_first q ys (or_two (q y.holder) (list_any (λ (leg : Leg O). q leg.holder) ys) e)

pub no_place : {O : Type 0} (q : Holder → Bool) (those : List (Leg O)) → position (λ (leg : Leg O). q leg.holder) those ≡ None
    → first (filter q (holders_of those)) ≡ None
no_place {O} q those e =
    none_first q those (any-position (λ (leg : Leg O). q leg.holder) those ∙ ap (λ (o : Option ℕ). is_some o) e)

-- Two places.

pub same_or_not : (i j : ℕ) → (i ≡ j) ⊎ (i ≡ j → ⊥)
same_or_not i j = elim (cases_order i j) [
  | inl is ↦ inl is
  | inr (inl less) ↦ inr (λ q. omega (arith, less, q))
  | inr (inr more) ↦ inr (λ q. omega (arith, more, q))
]

pub at_set : {O : Type 0} (those : List (Leg O)) (i : ℕ) (y x : Leg O) → i < length those → get_or (set those i y) i x ≡ y
at_set those i y x below = get_or-set_same those i y x below

pub off_set : {O : Type 0} (those : List (Leg O)) (i j : ℕ) (y x : Leg O) → (j ≡ i → ⊥) → get_or (set those i y) j x ≡ get_or those j x
off_set those i j y x apart = get_or-set_other those i j y x apart

pub same_holders : {O : Type 0} (those : List (Leg O)) (i : ℕ) (y x : Leg O) → y.holder ≡ (get_or those i x).holder
    → holders_of (set those i y) ≡ holders_of those
same_holders {O} those i y x q = map-set_same (λ (leg : Leg O). leg.holder) those i y x q

-- Same legs.

pub same_swap : (a b : Holder) → same_leg a b ≡ true → same_leg b a ≡ true
same_swap a b q =
    let one = both_left ((a.call == b.call) && (a.pair == b.pair)) (a.generation == b.generation) q in
    let call = equal_if a.call b.call (both_left (a.call == b.call) (a.pair == b.pair) one) in
    let pair = equal_if a.pair b.pair (both_right (a.call == b.call) (a.pair == b.pair) one) in
    let generation = equal_if a.generation b.generation (both_right ((a.call == b.call) && (a.pair == b.pair)) (a.generation == b.generation) q) in
    both ((b.call == a.call) && (b.pair == a.pair)) (b.generation == a.generation)
    (both (b.call == a.call) (b.pair == a.pair) (equal b.call a.call (sym call)) (equal b.pair a.pair (sym pair)))
    (equal b.generation a.generation (sym generation))

pub same_both : (a b c : Holder) → same_leg a b ≡ true → same_leg b c ≡ true → same_leg a c ≡ true
same_both a b c q r =
    let one = both_left ((a.call == b.call) && (a.pair == b.pair)) (a.generation == b.generation) q in
    let two = both_left ((b.call == c.call) && (b.pair == c.pair)) (b.generation == c.generation) r in
    let call = equal_if a.call b.call (both_left (a.call == b.call) (a.pair == b.pair) one) ∙ equal_if b.call c.call (both_left (b.call == c.call) (b.pair == c.pair) two) in
    let pair = equal_if a.pair b.pair (both_right (a.call == b.call) (a.pair == b.pair) one) ∙ equal_if b.pair c.pair (both_right (b.call == c.call) (b.pair == c.pair) two) in
    let generation = equal_if a.generation b.generation (both_right ((a.call == b.call) && (a.pair == b.pair)) (a.generation == b.generation) q)
    ∙ equal_if b.generation c.generation (both_right ((b.call == c.call) && (b.pair == c.pair)) (b.generation == c.generation) r) in
    both ((a.call == c.call) && (a.pair == c.pair)) (a.generation == c.generation)
    (both (a.call == c.call) (a.pair == c.pair) (equal a.call c.call call) (equal a.pair c.pair pair))
    (equal a.generation c.generation generation)

pub same_itself : (a : Holder) → same_leg a a ≡ true
same_itself a =
    both ((a.call == a.call) && (a.pair == a.pair)) (a.generation == a.generation)
    (both (a.call == a.call) (a.pair == a.pair) (equal a.call a.call refl) (equal a.pair a.pair refl)) (equal a.generation a.generation refl)

side_itself : (s : Side) → side_eq s s ≡ true
side_itself A = refl
side_itself B = refl

-- no leg is its own opposite
pub not_opposite : (a : Holder) → is_opposite a a ≡ true → ⊥
not_opposite a q =
    let one = both_right (a.section == a.section) (not (side_eq a.side a.side)) q in
    let other : not (side_eq a.side a.side) ≡ false = ap not (side_itself a.side) in
    let clash : true ≡ false = sym one ∙ other in
    cc

pub true_or_not : (b : Bool) → (b ≡ true) ⊎ (b ≡ false)
true_or_not true = inl refl
true_or_not false = inr refl

-- A change of one leg that keeps its holder.

pub other_default : {O : Type 0} (those : List (Leg O)) (i : ℕ) (x y : Leg O) → i < length those → get_or those i x ≡ get_or those i y
other_default those i x y below = get_or_default those i x y below

pub holder_over : {O : Type 0} (those : List (Leg O)) (i : ℕ) (new x : Leg O) → i < length those → new.holder ≡ (get_or those i x).holder
    → (j : ℕ) (y : Leg O) → j < length those → (get_or (set those i new) j y).holder ≡ (get_or those j y).holder
holder_over {O} those i new x below q j y within = elim (same_or_not j i) [
  | inl is ↦ ap (λ (k : ℕ). (get_or (set those i new) k y).holder) is
      ∙ ap (λ (leg : Leg O). leg.holder) (at_set those i new y below) ∙ q
      ∙ ap (λ (leg : Leg O). leg.holder) (other_default those i x y below)
      ∙ sym (ap (λ (k : ℕ). (get_or those k y).holder) is)
  | inr apart ↦ ap (λ (leg : Leg O). leg.holder) (off_set those i j new y apart)
]

pub apart_over : {O : Type 0} (those : List (Leg O)) (i : ℕ) (new x : Leg O) → i < length those → new.holder ≡ (get_or those i x).holder
    → AreApart those → AreApart (set those i new)
apart_over {O} those i new x below q apart =
    let long : length (set those i new) ≡ length those = length-set those i new in
    let over = holder_over those i new x below q in
    record {
      leases = λ j k d one two same.
          let a : j < length those = omega (arith, one, long) in
          let b : k < length those = omega (arith, two, long) in
          apart.leases j k d a b
          (subst (λ (z : Holder). same_leg z (get_or those k d).holder ≡ true) (over j d a)
          (subst (λ (z : Holder). same_leg (get_or (set those i new) j d).holder z ≡ true) (over k d b) same));
      places = λ j k d one two section side.
          let a : j < length those = omega (arith, one, long) in
          let b : k < length those = omega (arith, two, long) in
          apart.places j k d a b
          (sym (ap (λ (z : Holder). z.section) (over j d a)) ∙ section ∙ ap (λ (z : Holder). z.section) (over k d b))
          (sym (ap (λ (z : Holder). z.side) (over j d a)) ∙ side ∙ ap (λ (z : Holder). z.side) (over k d b));
    }
