-- The shape of sections after an offer.
use Rattle.std.proofs.Common.{◌≡◌, ◌==◌, ◌&&◌, ◌||◌, ℕ, ◌+◌, ◌<◌, ◌≤◌, inl, inr, below_more, Bool, true, false, not, List, [], ◌∷◌, ◌++◌, length, map, filter, Option, Some, None, refl, sym, ap, ◌∙◌, if◌then◌else◌, unwrap_or, option_map, arith}
use Rattle.std.proofs.lemmas.Bool.{cases_lt}
use Rattle.std.proofs.lemmas.List.{map-append}
use Rattle.std.proofs.lemmas.List.Folds.{list_any-append}
use Rattle.histories.specs.Words.{or_else}
use Rattle.sdes_lines.specs.declared.crypto_line.Suite.{Suite}
use Rattle.sdes_lines.specs.declared.crypto_line.Suite.TheVariants.{Tag80, Tag32}
use Rattle.sdp_text.specs.Descriptions.{sections_in}
use Rattle.ng_command.specs.declared.command.Options.{Options}
use Rattle.port_pool.specs.declared.holder.Side.{Side}
use Rattle.port_pool.specs.Signals.{NewKey, other_side}
use Rattle.relay_outside.specs.declared.address.Family.{Family}
use Rattle.offer_answer.specs.Rounds.{Round, NewLeg}
use Rattle.offer_answer.specs.Families.{family_by}
use Rattle.offer_answer.specs.Sides.{is_begun, has_answer}
use Rattle.offer_answer.specs.Sections.{section_life, has_pairs, is_committed, is_active, no_section}
use Rattle.offer_answer.specs.Keys.{is_for, key_among}
use Rattle.offer_answer.specs.Texts.{new_port}
use Rattle.offer_answer.specs.Dialogs.{drawn_for_leg}
use Rattle.offer_answer.specs.Offers.{leg_asked, legs_asked}
use Rattle.offer_answer.specs.Shapes.{LegShape, SectionShape, key_shape, leg_shape, no_leg_shape, bare_shape, is_active_at, is_dropped_from, shape_after, is_demanded, new_key_shape, shape_drawn, leg_with_new}
use Rattle.offer_answer.specs.declared.leg.DrawnKey.{DrawnKey}
use Rattle.offer_answer.specs.declared.leg.Leg.{Leg}
use Rattle.offer_answer.specs.declared.offered_section.OfferedSection.{OfferedSection}
use Rattle.offer_answer.proofs.Offering.{past-end}

answered-begun : (rounds : List Round) → (is_begun rounds && has_answer rounds) ≡ has_answer rounds
answered-begun [] = refl
answered-begun (round ∷ rounds) = refl

-- what is committed has pairs
pub committed-pairs : (rounds : List Round) (section : ℕ) → (has_pairs rounds section && is_committed rounds section) ≡ is_committed rounds section
committed-pairs rounds section = answered-begun (section_life rounds section)

pub leg-goes : (dropped : Bool) (leg : LegShape) → dropped ≡ true → no_leg_shape ≡ (if dropped then no_leg_shape else leg)
leg-goes dropped leg e = sym (ap (λ (b : Bool). if b then no_leg_shape else leg) e)

pub leg-stays : (dropped : Bool) (leg : LegShape) → dropped ≡ false → leg ≡ (if dropped then no_leg_shape else leg)
leg-stays dropped leg e = sym (ap (λ (b : Bool). if b then no_leg_shape else leg) e)

pub both-legs : (pairs committed : Bool) (a b c d : LegShape) → a ≡ c → b ≡ d →
    let old : SectionShape = record { has_pairs = pairs; is_committed = committed; a = a; b = b } in
    let new : SectionShape = record { has_pairs = pairs; is_committed = committed; a = c; b = d } in
    old ≡ new
both-legs pairs committed a b c d e f =
    ap (λ (x : LegShape). let s : SectionShape = record { has_pairs = pairs; is_committed = committed; a = x; b = b } in s) e
    ∙ ap (λ (x : LegShape). let s : SectionShape = record { has_pairs = pairs; is_committed = committed; a = c; b = x } in s) f

abbrev made_of : Bool → Bool → LegShape → LegShape → SectionShape
made_of pairs committed a b = record { has_pairs = pairs; is_committed = committed; a = a; b = b }

after-cases : (pairs committed active : Bool) (a b : LegShape) →
    made_of (active || (pairs && committed)) ((active || (pairs && committed)) && (pairs && committed))
    (if pairs && not committed && not active then no_leg_shape else a) (if pairs && not committed && not active then no_leg_shape else b)
    ≡ shape_after active (made_of pairs (pairs && committed) a b)
after-cases true true true a b = refl
after-cases true true false a b = refl
after-cases true false true a b = refl
after-cases true false false a b = refl
after-cases false true true a b = refl
after-cases false true false a b = refl
after-cases false false true a b = refl
after-cases false false false a b = refl

-- the section after an offer, before its ports and keys
pub section-after : (pairs committed active : Bool) (a b : LegShape) (has stays : Bool) (c d : LegShape) →
    has ≡ (active || (pairs && committed)) → stays ≡ (pairs && committed) →
    c ≡ (if pairs && not committed && not active then no_leg_shape else a) → d ≡ (if pairs && not committed && not active then no_leg_shape else b) →
    made_of has (has && stays) c d ≡ shape_after active (made_of pairs (pairs && committed) a b)
section-after pairs committed active a b has stays c d h m e f =
    ap (λ x. made_of x (x && stays) c d) h
    ∙ ap (λ x. made_of (active || (pairs && committed)) ((active || (pairs && committed)) && x) c d) m
    ∙ ap (λ x. made_of (active || (pairs && committed)) ((active || (pairs && committed)) && (pairs && committed)) x d) e
    ∙ ap (λ x. made_of (active || (pairs && committed)) ((active || (pairs && committed)) && (pairs && committed))
    (if pairs && not committed && not active then no_leg_shape else a) x) f
    ∙ after-cases pairs committed active a b

pub dropped-shape : (pairs committed active : Bool) → (pairs && not committed && not active) ≡ (pairs && not (pairs && committed) && not active)
dropped-shape true committed active = refl
dropped-shape false committed active = refl

left-cases : (pairs committed active : Bool) (a b : LegShape) →
    shape_after active (made_of pairs (pairs && committed) a b)
    ≡ (if pairs && not (pairs && committed) && not active then bare_shape else made_of (pairs || (active && not pairs)) (pairs && committed) a b)
left-cases true true true a b = refl
left-cases true true false a b = refl
left-cases true false true a b = refl
left-cases true false false a b = refl
left-cases false true true a b = refl
left-cases false true false a b = refl
left-cases false false true a b = refl
left-cases false false false a b = refl

-- the same by what is demanded and dropped
pub after-left : (pairs committed active : Bool) (a b : LegShape) (asked dropped : Bool) → asked ≡ (active && not pairs) →
    dropped ≡ is_dropped_from active (made_of pairs (pairs && committed) a b) →
    shape_after active (made_of pairs (pairs && committed) a b) ≡ (if dropped then bare_shape else made_of (pairs || asked) (pairs && committed) a b)
after-left pairs committed active a b asked dropped e f =
    left-cases pairs committed active a b
    ∙ ap (λ x. if pairs && not (pairs && committed) && not active then bare_shape else made_of (pairs || x) (pairs && committed) a b) (sym e)
    ∙ ap (λ (x : Bool). if x then bare_shape else made_of (pairs || asked) (pairs && committed) a b) (sym f)

-- Which sections pairs are demanded for.

twice : (b : Bool) → (b || (b || false)) ≡ (b && true)
twice true = refl
twice false = refl

and-false : (b : Bool) → false ≡ (b && false)
and-false true = refl
and-false false = refl

or-false : (b : Bool) → (b || false) ≡ b
or-false true = refl
or-false false = refl

asked-here : (o : OfferedSection) (options : Options) (i : ℕ) (side : Side) (section : ℕ) →
    is_demanded (map leg_asked (legs_asked o options i side)) section ≡ ((i == section) && (is_active o.section && not o.kept.has_pairs))
asked-here o options i side section = by (is_active o.section && not o.kept.has_pairs)
  where
    by : (new : Bool) →
        is_demanded (map leg_asked
        (if new then (i, other_side side, family_by options o.section side (other_side side)) ∷ (i, side, family_by options o.section side side) ∷ [] else [])) section
        ≡ ((i == section) && new)
    by true = twice (i == section)
    by false = and-false (i == section)

-- of the sections before this one those are demanded for that are wanted, and of the others none
pub record DemandedSoFar (wanted : ℕ → Bool) (i : ℕ) (legs : List (ℕ × Side × Family)) : Type 0 where
  pub below : (k : ℕ) → k < i → is_demanded (map leg_asked legs) k ≡ wanted k
  pub above : (k : ℕ) → i ≤ k → is_demanded (map leg_asked legs) k ≡ false

pub demanded-none : (wanted : ℕ → Bool) (legs : List (ℕ × Side × Family)) → legs ≡ [] → DemandedSoFar wanted 0 legs
demanded-none wanted legs e = record {
  below = λ k l. absurd (omega (arith, l));
  above = λ k l. ap (λ those. is_demanded (map leg_asked those) k) e;
}

pub demanded-more : (wanted : ℕ → Bool) (o : OfferedSection) (options : Options) (i : ℕ) (side : Side) (old new : List (ℕ × Side × Family)) →
    new ≡ old ++ legs_asked o options i side → (is_active o.section && not o.kept.has_pairs) ≡ wanted i → DemandedSoFar wanted i old → DemandedSoFar wanted (i + 1) new
demanded-more wanted o options i side old new e h before = record {
  below = λ k l. below_more (λ k. is_demanded (map leg_asked new) k ≡ wanted k) i
      (λ k l. apart k (grind (arith, l)) ∙ before.below k l)
      (joined i ∙ ap (λ b. b || ((i == i) && wanted i)) (before.above i (omega arith)) ∙ ap (λ b. b && wanted i) same) k l;
  above = λ k l. apart k (grind (arith, l)) ∙ before.above k (omega (arith, l));
}
  where
    joined : (k : ℕ) → is_demanded (map leg_asked new) k ≡ (is_demanded (map leg_asked old) k || ((i == k) && wanted i))
    joined k =
        ap (λ those. is_demanded (map leg_asked those) k) e
        ∙ ap (λ those. is_demanded those k) (map-append leg_asked old (legs_asked o options i side))
        ∙ list_any-append (λ (leg : NewLeg). leg.section == k) (map leg_asked old) (map leg_asked (legs_asked o options i side))
        ∙ ap (λ b. is_demanded (map leg_asked old) k || b) (asked-here o options i side k ∙ ap (λ b. (i == k) && b) h)

    apart : (k : ℕ) → (i == k) ≡ false → is_demanded (map leg_asked new) k ≡ is_demanded (map leg_asked old) k
    apart k f = joined k ∙ ap (λ b. is_demanded (map leg_asked old) k || (b && wanted i)) f ∙ or-false (is_demanded (map leg_asked old) k)

    same : (i == i) ≡ true
    same = search arith

pub demanded-all : (lines : List (List ℕ)) (bare : ℕ → Bool) (i : ℕ) (legs : List (ℕ × Side × Family)) (section : ℕ) → length (sections_in lines) ≤ i →
    DemandedSoFar (λ k. is_active_at lines k && bare k) i legs → is_demanded (map leg_asked legs) section ≡ (is_active_at lines section && bare section)
demanded-all lines bare i legs section past s = elim (cases_lt section i) [
  | inl l ↦ s.below section l
  | inr l ↦
      s.above section l
      ∙ sym (ap (λ o. is_active (unwrap_or o no_section) && bare section) (past-end (sections_in lines) section (omega (arith, l, past))))
]

-- Ports and keys.

pub leg-with-port : (legs : List NewLeg) (ports : List ℕ) (section : ℕ) (side : Side) (leg new : Leg) (port : Option ℕ) → port ≡ new_port legs ports section side →
    new ≡ record leg { port = unwrap_or port leg.port } → leg_shape new ≡ leg_with_new legs ports [] section side (leg_shape leg)
leg-with-port legs ports section side leg new port e f =
    ap leg_shape f ∙ ap (λ (p : Option ℕ). leg_shape (record leg { port = unwrap_or p leg.port })) e

drawn-shape : (section : ℕ) (side : Side) (key : Option DrawnKey) → option_map key_shape key ≡ option_map new_key_shape (option_map (drawn_for_leg section side) key)
drawn-shape section side None = refl
drawn-shape section side (Some key) = refl

newer-shape : (drawn kept : Option DrawnKey) → option_map key_shape (or_else drawn kept) ≡ or_else (option_map key_shape drawn) (option_map key_shape kept)
newer-shape None kept = refl
newer-shape (Some key) kept = refl

key-with-new : (keys : List NewKey) (section : ℕ) (side : Side) (suite : Suite) (drawn kept new : Option DrawnKey) →
    option_map (drawn_for_leg section side) drawn ≡ key_among (filter (is_for section side) keys) suite → new ≡ or_else drawn kept →
    option_map key_shape new ≡ or_else (shape_drawn keys section side suite) (option_map key_shape kept)
key-with-new keys section side suite drawn kept new e f =
    ap (option_map key_shape) f ∙ newer-shape drawn kept
    ∙ ap (λ o. or_else o (option_map key_shape kept)) (drawn-shape section side drawn ∙ ap (option_map new_key_shape) e)

pub leg-with-keys : (keys : List NewKey) (section : ℕ) (side : Side) (leg : Leg) (long short new_long new_short : Option DrawnKey) →
    option_map (drawn_for_leg section side) long ≡ key_among (filter (is_for section side) keys) Tag80 →
    option_map (drawn_for_leg section side) short ≡ key_among (filter (is_for section side) keys) Tag32 →
    new_long ≡ or_else long leg.long_key → new_short ≡ or_else short leg.short_key →
    leg_shape (record leg { long_key = new_long; short_key = new_short }) ≡ leg_with_new [] [] keys section side (leg_shape leg)
leg-with-keys keys section side leg long short new_long new_short e f g h =
    ap (λ (o : Option (ℕ × Suite)). let s : LegShape = record { port = leg.port; long_key = o; short_key = option_map key_shape new_short; key_in_force = option_map key_shape leg.key_in_force } in s)
    (key-with-new keys section side Tag80 long leg.long_key new_long e g)
    ∙ ap (λ (o : Option (ℕ × Suite)). let s : LegShape = record {
      port = leg.port;
      long_key = or_else (shape_drawn keys section side Tag80) (option_map key_shape leg.long_key);
      short_key = o;
      key_in_force = option_map key_shape leg.key_in_force;
    } in s)
    (key-with-new keys section side Tag32 short leg.short_key new_short f h)
