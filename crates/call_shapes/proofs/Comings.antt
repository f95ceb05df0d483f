-- Which offers and answers can come to a cell after each history that it stands for.
use Rattle.std.proofs.Common.{◌≡◌, refl, sym, ◌∙◌, ap, subst, ℕ, suc, ◌<◌, ◌==◌, ◌&&◌, ◌||◌, ◌⊎◌, inl, inr, Bool, true, false, not, cond, List, [], ◌∷◌, ◌++◌, Option, Some, None, map, filter, length, arith, slice_index_or}
use Rattle.std.specs.List.{list_any}
use Rattle.relay_outside.specs.declared.settings.Config.{Config}
use Rattle.histories.specs.Words.{In, here, there, first, has}
use Rattle.histories.proofs.Lists.{equal, filtered, keeps, mapped, maps, in_append, in_left, in_right, equal_if, first_is_in}
use Rattle.sdes_lines.specs.declared.crypto_line.Suite.{Suite}
use Rattle.sdes_lines.specs.declared.crypto_line.Suite.TheVariants.{Tag80, Tag32}
use Rattle.port_pool.specs.declared.holder.Holder.{Holder}
use Rattle.port_pool.specs.declared.holder.Side.{Side}
use Rattle.port_pool.specs.declared.holder.Side.TheVariants.{A, B}
use Rattle.port_pool.specs.declared.signal.SectionSignal.{SectionSignal}
use Rattle.port_pool.specs.Signals.{NewKey, same_leg, side_eq, suite_eq}
use Rattle.call_cell.specs.declared.cell.Cell as cell
use Rattle.call_cell.specs.declared.leg.Leg.{Leg}
use Rattle.call_cell.specs.declared.prepare.Prepare as prepared
use Rattle.call_cell.specs.Cells.{CellEntry, Prepare, legs, legs_of, since_end, key_numbered}
use Rattle.call_cell.specs.CellHistories.{CellFor}
use Rattle.call_cell.specs.Commits.{HasKey, NamesKeys, outbound_in, said_of}
use Rattle.call_cell.specs.LegHistories.{LegStandsFor, LegsStandFor}
use Rattle.call_cell.specs.LegKeys.{keys_since, keys_for, is_for_leg, key_number_of, key_number_for, OnePerSuite}
use Rattle.call_cell.specs.Parts.{contexts_of, key_number_in}
use Rattle.call_cell.specs.Preparations.{CanCome, added, prepare_entry}
use Rattle.call_cell.specs.Shapes.{CellLegShape, CellShape, cell_leg_shape, cell_leg_shapes, cell_shape}
use Rattle.call_shapes.specs.Comings.{key_number_on, HasNumber, AnswerComesTo, AddsWell, OfferComesTo, HaveNewNumbers}

-- Tests.

is_both : (a b : Bool) → (a && b) ≡ true → (a ≡ true) × (b ≡ true)
is_both true b q = (refl, q)
is_both false b q = absurd (let p : false ≡ true = q in cc)

is_not : (b : Bool) → not b ≡ true → b ≡ false
is_not true q = absurd (let p : false ≡ true = q in cc)
is_not false q = refl

side_is : (a b : Side) → side_eq a b ≡ true → a ≡ b
side_is A A q = refl
side_is B B q = refl
side_is A B q = absurd (let p : false ≡ true = q in cc)
side_is B A q = absurd (let p : false ≡ true = q in cc)

suite_same : (s t : Suite) → s ≡ t → suite_eq s t ≡ true
suite_same s t q = subst (λ (x : Suite). suite_eq s x ≡ true) q (itself s)
  where
    itself : (x : Suite) → suite_eq x x ≡ true
    itself Tag80 = refl
    itself Tag32 = refl

equal_to : (n : ℕ) → (n == n) ≡ true
equal_to n = equal n n refl

all_three : (a b c : Bool) → a ≡ true → b ≡ true → c ≡ true → (a && b && c) ≡ true
all_three a b c p q r = ap (λ (x : Bool). x && b && c) p ∙ ap (λ (x : Bool). x && c) q ∙ r

any_same : (those : List Holder) (leg : Holder) → In leg those → list_any (same_leg leg) those ≡ true
any_same [] leg i = elim i [ ]
any_same (x ∷ those) leg (here q) = ap (λ (b : Bool). b || list_any (same_leg leg) those) (subst (λ (y : Holder). same_leg leg y ≡ true) q (itself leg))
  where
    itself : (y : Holder) → same_leg y y ≡ true
    itself y = all_three (y.call == y.call) (y.pair == y.pair) (y.generation == y.generation) (equal_to y.call) (equal_to y.pair) (equal_to y.generation)
any_same (x ∷ those) leg (there i) = either (same_leg leg x) (any_same those leg i)
  where
    either : (b : Bool) → list_any (same_leg leg) those ≡ true → (b || list_any (same_leg leg) those) ≡ true
    either true q = refl
    either false q = q

-- The legs of a history are those of the cell.

module _ {O : Type 0} where
  record HasPlace (those : List (Leg O)) (leg : Leg O) : Type 0 where
    place : ℕ
    within : place < length those
    is : slice_index_or those place leg ≡ leg

  placed : (those : List (Leg O)) (leg : Leg O) → In leg those → HasPlace those leg
  placed [] leg i = elim i [ ]
  placed (x ∷ those) leg (here q) = record { place = 0; within = omega arith; is = sym q }
  placed (x ∷ those) leg (there i) =
      let p = placed those leg i in
      let low = p.within in
      record { place = suc p.place; within = omega (arith, low); is = p.is }

  -- a leg of the cell for each leg of the history, which stands for it
  pub record StandsThere (config : Config) (c : cell.Cell O) (h : List CellEntry) (holder : Holder) : Type 0 where
    pub leg : Leg O
    pub is_in : In leg c.legs.items
    pub holder_is : leg.holder ≡ holder
    pub stands : LegStandsFor config (since_end h) leg

  pub stands_there : (config : Config) (c : cell.Cell O) (h : List CellEntry) (holder : Holder) → CellFor config c h → In holder (legs (since_end h)) → StandsThere config c h holder
  stands_there config c h holder for i =
      let m = mapped (λ (leg : Leg O). leg.holder) c.legs.items (subst (λ (hs : List Holder). In holder hs) (sym for.legs_for.holders) i) in
      let p = placed c.legs.items m.from m.is_in in
      record {
        leg = m.from;
        is_in = m.is_in;
        holder_is = m.makes;
        stands = subst (λ (leg : Leg O). LegStandsFor config (since_end h) leg) p.is (for.legs_for.each p.place m.from p.within);
      }

  shape_there : (c : cell.Cell O) (leg : Leg O) → In leg c.legs.items → In (cell_leg_shape leg) (cell_shape c).legs
  shape_there c leg i = maps (λ (l : Leg O). cell_leg_shape l) c.legs.items i

  number_on : (suite : Suite) (leg : Leg O) → key_number_on suite (cell_leg_shape leg) ≡ key_number_in (contexts_of suite leg.sending)
  number_on Tag80 leg = refl
  number_on Tag32 leg = refl

-- A key by its number.

found_key : (keys : List NewKey) (number : ℕ) (o : Option NewKey) → first keys ≡ o → key_number_of o ≡ Some number → (key : NewKey) × In key keys × (key.number ≡ number)
found_key keys number (Some key) q is = (key, first_is_in keys q, let p : Some key.number ≡ Some number = is in cc)
found_key keys number None q is = absurd (let p : None ≡ Some number = is in cc)

some_found : (keys : List NewKey) (key : NewKey) → In key keys → (o : Option NewKey) → first keys ≡ o → key_number_of o ≡ None → ⊥
some_found [] key i o q is = elim i [ ]
some_found (x ∷ keys) key i None q is = absurd (let p : Some x ≡ None = q in cc)
some_found (x ∷ keys) key i (Some y) q is = absurd (let p : Some y.number ≡ None = is in cc)

-- An answer.

pub answer_comes : {O : Type 0} (config : Config) (c : cell.Cell O) (h : List CellEntry) (signal : List SectionSignal) → CellFor config c h
    → AnswerComesTo (cell_shape c) signal → NamesKeys (since_end h) signal
answer_comes {O} config c h signal for comes holder number i says =
    let s = stands_there config c h holder for i in
    let n = comes (cell_leg_shape s.leg) number (shape_there c s.leg s.is_in) (subst (λ (x : Holder). outbound_in (said_of signal x) ≡ Some number) (sym s.holder_is) says) in
    let all = filter (λ (key : NewKey). suite_eq key.suite n.0) (keys_for (since_end h) s.leg.holder) in
    let held : key_number_of (first all) ≡ Some number = sym (s.stands.held n.0) ∙ sym (number_on n.0 s.leg) ∙ n.1 in
    let k = found_key all number (first all) refl held in
    record { key = k.0; is_there = subst (λ (x : Holder). In k.0 (keys_for (since_end h) x)) s.holder_is (filtered (λ (key : NewKey). suite_eq key.suite n.0) (keys_for (since_end h) s.leg.holder) k.1).0; number_is = k.2 }

-- An offer.

-- the new key and the leg's are for one leg
for_both : (a b : NewKey) (leg : Holder) → is_for_leg leg a ≡ true → is_for_leg leg b ≡ true → (a.section ≡ b.section) × (a.side ≡ b.side)
for_both a b leg p q =
    let x = is_both (a.section == leg.section) (side_eq a.side leg.side) p in
    let y = is_both (b.section == leg.section) (side_eq b.side leg.side) q in
    (equal_if a.section leg.section x.0 ∙ sym (equal_if b.section leg.section y.0), side_is a.side leg.side x.1 ∙ sym (side_is b.side leg.side y.1))

module _ {O : Type 0} (config : Config) (c : cell.Cell O) (h : List CellEntry) (signal : prepared.Prepare O) (call : ℕ) (keys : List NewKey) (dropped : List ℕ)
    (for : CellFor config c h) (comes : OfferComesTo config (cell_shape c) signal keys dropped) where
  since : List CellEntry
  since = since_end h

  entry : CellEntry
  entry = prepare_entry 0 call (added signal) keys dropped

  -- a new key and one that the leg has are for different suites
  apart_keys : (leg : Holder) (a b : NewKey) → In leg (legs (since_end h)) → has dropped leg.section ≡ false → In a keys → is_for_leg leg a ≡ true
      → In b (keys_for (since_end h) leg) → a.suite ≡ b.suite → ⊥
  apart_keys leg a b i stays new is_for old same =
      let s = stands_there config c h leg for i in
      let none = comes.free_key a (cell_leg_shape s.leg) new (shape_there c s.leg s.is_in) (subst (λ (x : Holder). has dropped x.section ≡ false) (sym s.holder_is) stays)
      (subst (λ (x : Holder). is_for_leg x a ≡ true) (sym s.holder_is) is_for) in
      let its : In b (keys_for (since_end h) s.leg.holder) = subst (λ (x : Holder). In b (keys_for (since_end h) x)) (sym s.holder_is) old in
      let all = filter (λ (key : NewKey). suite_eq key.suite a.suite) (keys_for (since_end h) s.leg.holder) in
      some_found all b (keeps (λ (key : NewKey). suite_eq key.suite a.suite) (keys_for (since_end h) s.leg.holder) its (suite_same b.suite a.suite (sym same)))
      (first all) refl (sym (s.stands.held a.suite) ∙ sym (number_on a.suite s.leg) ∙ none)

  one_suite : (leg : Holder) → In leg (legs (since_end h)) → OnePerSuite (keys_for (since_end h) leg)
  one_suite leg i =
      let s = stands_there config c h leg for i in
      subst (λ (x : Holder). OnePerSuite (keys_for (since_end h) x)) s.holder_is s.stands.one_each

  -- the keys of a leg are new ones, or those that it has
  key_in : (leg : Holder) (t : Bool) (key : NewKey) → In key (filter (is_for_leg leg) (keys ++ cond t [] (keys_since (since_end h) leg)))
      → (In key keys × (is_for_leg leg key ≡ true)) ⊎ In key (keys_for (since_end h) leg)
  key_in leg t key i =
      let f = filtered (is_for_leg leg) (keys ++ cond t [] (keys_since (since_end h) leg)) i in
      elim (in_append keys (cond t [] (keys_since (since_end h) leg)) f.0) [ inl new ↦ inl (new, f.1) | inr old ↦ inr (keeps (is_for_leg leg) (keys_since (since_end h) leg) (is_old t old) f.1) ]
    where
      is_old : (u : Bool) → In key (cond u [] (keys_since (since_end h) leg)) → In key (keys_since (since_end h) leg)
      is_old true i = elim i [ ]
      is_old false i = i

  -- of a leg that was there and stays
  old_leg : (leg : Holder) (t : Bool) → In leg (legs (since_end h)) → has dropped leg.section ≡ false
      → OnePerSuite (filter (is_for_leg leg) (keys ++ cond t [] (keys_since (since_end h) leg)))
  old_leg leg t i stays a b ia ib same = both (key_in leg t a ia) (key_in leg t b ib)
    where
      both : (In a keys × (is_for_leg leg a ≡ true)) ⊎ In a (keys_for (since_end h) leg) → (In b keys × (is_for_leg leg b ≡ true)) ⊎ In b (keys_for (since_end h) leg) → a.number ≡ b.number
      both (inl x) (inl y) = let p = for_both a b leg x.1 y.1 in comes.adds.suites a b x.0 y.0 p.0 p.1 same
      both (inl x) (inr y) = absurd (apart_keys leg a b i stays x.0 x.1 y same)
      both (inr x) (inl y) = absurd (apart_keys leg b a i stays y.0 y.1 x (sym same))
      both (inr x) (inr y) = one_suite leg i a b x y same

  -- of one that comes
  new_leg : (leg : Holder) → list_any (same_leg leg) (added signal) ≡ true → OnePerSuite (keys_for (entry ∷ since_end h) leg)
  unfolding entry
  new_leg leg is a b ia ib same =
      let x = only_new a ia in
      let y = only_new b ib in
      let p = for_both a b leg x.1 y.1 in
      comes.adds.suites a b x.0 y.0 p.0 p.1 same
    where
      only_new : (key : NewKey) → In key (filter (is_for_leg leg) (keys ++ cond (list_any (same_leg leg) (added signal)) [] (keys_since (since_end h) leg)))
          → In key keys × (is_for_leg leg key ≡ true)
      only_new key i =
          let f = filtered (is_for_leg leg) (keys ++ cond (list_any (same_leg leg) (added signal)) [] (keys_since (since_end h) leg)) i in
          elim (in_append keys (cond (list_any (same_leg leg) (added signal)) [] (keys_since (since_end h) leg)) f.0) [
            | inl new ↦ (new, f.1)
            | inr old ↦ absurd (nothing_in (subst (λ (t : Bool). In key (cond t [] (keys_since (since_end h) leg))) is old))
          ]
        where
          nothing_in : In key [] → ⊥
          nothing_in j = elim j [ ]

  each_leg : (leg : Holder) → In leg (filter (λ (x : Holder). not (has dropped x.section)) (legs (since_end h))) ⊎ In leg (added signal)
      → OnePerSuite (keys_for (entry ∷ since_end h) leg)
  unfolding entry
  each_leg leg (inl i) =
      let f = filtered (λ (x : Holder). not (has dropped x.section)) (legs (since_end h)) i in
      old_leg leg (list_any (same_leg leg) (added signal)) f.0 (is_not (has dropped leg.section) f.1)
  each_leg leg (inr i) = new_leg leg (any_same (added signal) leg i)

  pub offer_can_come : HaveNewNumbers (since_end h) keys → CanCome config (since_end h) signal call keys dropped
  unfolding entry
  offer_can_come new = record {
    sections = comes.adds.sections;
    families = comes.adds.families;
    ports = comes.adds.ports;
    differ = comes.adds.differ;
    new_lease = λ leg other i j same.
        let s = stands_there config c h other for j in
        comes.new_lease leg (cell_leg_shape s.leg) i (shape_there c s.leg s.is_in) (subst (λ (x : Holder). same_leg x leg ≡ true) (sym s.holder_is) same);
    free_place = λ leg other i j stays section side.
        let s = stands_there config c h other for j in
        comes.free_place leg (cell_leg_shape s.leg) i (shape_there c s.leg s.is_in) (subst (λ (x : Holder). has dropped x.section ≡ false) (sym s.holder_is) stays)
        (ap (λ (x : Holder). x.section) s.holder_is ∙ section) (ap (λ (x : Holder). x.side) s.holder_is ∙ side);
    one_each = λ leg i. each_leg leg (in_append (filter (λ (x : Holder). not (has dropped x.section)) (legs (since_end h))) (added signal) (its leg i));
    new_number = new;
    numbers_differ = comes.adds.numbers;
  }
    where
      its : (leg : Holder) → In leg (legs (entry ∷ since_end h)) → In leg (filter (λ (x : Holder). not (has dropped x.section)) (legs (since_end h)) ++ added signal)
      its leg i = i

pub offer_comes : {O : Type 0} (config : Config) (c : cell.Cell O) (h : List CellEntry) (signal : prepared.Prepare O) (call : ℕ) (keys : List NewKey) (dropped : List ℕ)
    → CellFor config c h → OfferComesTo config (cell_shape c) signal keys dropped → HaveNewNumbers (since_end h) keys → CanCome config (since_end h) signal call keys dropped
offer_comes config c h signal call keys dropped for comes new = offer_can_come config c h signal call keys dropped for comes new
