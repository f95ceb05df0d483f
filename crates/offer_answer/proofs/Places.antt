-- What an offer demands of a dialog, and which sections it drops.
use Rattle.std.proofs.Common.{◌≡◌, ◌==◌, ◌&&◌, ◌||◌, ℕ, zero, suc, ◌+◌, ◌<◌, ◌≤◌, inl, inr, Bool, true, false, not, List, [], ◌∷◌, ◌++◌, length, map, filter, Option, Some, None, is_none, refl, sym, ap, ◌∙◌, subst, if◌then◌else◌, unwrap_or, option_map, slice_index_or, arith}
use Rattle.std.proofs.lemmas.Bool.{cases_lt, true≢false}
use Rattle.std.proofs.lemmas.List.{map-append, length-map, length-append}
use Rattle.std.proofs.lemmas.List.Folds.{list_any-append}
use Rattle.histories.specs.Words.{In, here, there, Before, begins, goes_on}
use Rattle.sdes_lines.specs.declared.crypto_line.Suite.{Suite}
use Rattle.sdes_lines.specs.declared.crypto_line.Suite.TheVariants.{Tag80, Tag32}
use Rattle.sdes_lines.specs.declared.crypto_line.CryptoLine.{CryptoLine}
use Rattle.sdp_text.specs.Descriptions.{sections_in}
use Rattle.sdp_text.specs.declared.proto.Proto.{Proto}
use Rattle.ng_command.specs.declared.command.Options.{Options}
use Rattle.port_pool.specs.declared.holder.Side.{Side}
use Rattle.port_pool.specs.declared.holder.Side.TheVariants.{A, B}
use Rattle.port_pool.specs.Signals.{side_eq, other_side}
use Rattle.relay_outside.specs.declared.address.Family.{Family}
use Rattle.offer_answer.specs.Rounds.{NewLeg, KeyPlace}
use Rattle.offer_answer.specs.Sections.{is_active, no_section}
use Rattle.offer_answer.specs.Families.{family_by}
use Rattle.offer_answer.specs.Profiles.{is_srtp}
use Rattle.offer_answer.specs.Keys.{suite_of}
use Rattle.offer_answer.specs.Dialogs.{key_for, leg_at, no_state}
use Rattle.offer_answer.specs.Offers.{legs_demanded, leg_asked, legs_asked, key_asked, missing, written_over, offerers_keys, others_keys, keys_asked}
use Rattle.offer_answer.specs.Shapes.{key_shape, section_shape, shape_of, is_active_at, is_dropped_from, is_demanded, drops_at, keys_demanded}
use Rattle.offer_answer.specs.AnswerShapes.{shape_key}
use Rattle.offer_answer.specs.OfferPlaces.{shape_leg, is_leg_demanded, ArePairsOfSections, AreKeysOfLegs, AsksKey, OfferPlaces, offered_count_after, committed_count_after}
use Rattle.offer_answer.specs.declared.leg.Leg.{Leg}
use Rattle.offer_answer.specs.declared.leg.DialogSection.{DialogSection}
use Rattle.offer_answer.specs.declared.offered_section.OfferedSection.{OfferedSection}
use Rattle.offer_answer.specs.declared.dialog.Dialog.{Dialog}
use Rattle.offer_answer.specs.declared.plan.Plan.{Plan}
use Rattle.offer_answer.proofs.Offering.{past-end}
use Rattle.offer_answer.proofs.Members.{kept, in-append}
use Rattle.offer_answer.proofs.Numbers.{Ordered, append-ordered, filter-ordered, map-ordered, in-map}
use Rattle.offer_answer.proofs.Demanded.{AreLegsApart, AreKeysApart, other-side_differs, Differ, suite_of-apart}

-- each element is in the relation with those that stand after it
pub ordered-before : {X : Type 0} (R : X → X → Type 0) (xs : List X) → Ordered R xs → (x y : X) → Before x y xs → R x y
ordered-before R [] o x y b = elim b [ ]
ordered-before {X} R (z ∷ zs) o x y (begins e i) = subst (λ (w : X). R w y) (sym e) (o.0 y i)
ordered-before R (z ∷ zs) o x y (goes_on b) = ordered-before R zs o.1 x y b

-- Pairs.

-- the legs of the sections before this one
pub record LegsSoFar (i : ℕ) (legs : List (ℕ × Side × Family)) : Type 0 where
  pub within : i ≤ 8
  pub below : (leg : NewLeg) → In leg (map leg_asked legs) → leg.section < i
  pub apart : Ordered AreLegsApart (map leg_asked legs)
  pub both : (section : ℕ) (side : Side) → is_leg_demanded (map leg_asked legs) section side ≡ is_demanded (map leg_asked legs) section
  pub few : length legs ≤ i + i

-- the legs of one section
record LegsHere (i : ℕ) (legs : List (ℕ × Side × Family)) : Type 0 where
  of_section : (leg : NewLeg) → In leg (map leg_asked legs) → leg.section ≡ i
  apart : Ordered AreLegsApart (map leg_asked legs)
  both : (section : ℕ) (side : Side) → is_leg_demanded (map leg_asked legs) section side ≡ is_demanded (map leg_asked legs) section
  few : length legs ≤ 2

no-legs-here : (i : ℕ) → LegsHere i []
no-legs-here i = record {
  of_section = λ leg j. elim j [ ];
  apart = tt;
  both = λ section side. refl;
  few = omega arith;
}

two-legs-here : (i : ℕ) (side : Side) (v w : Family) → LegsHere i ((i, other_side side, v) ∷ (i, side, w) ∷ [])
two-legs-here i side v w = record {
  of_section = of_section;
  apart = (apart, ((λ m j. elim j [ ]), tt));
  both = λ section at. either (i == section) side at;
  few = omega arith;
}
  where
    of_section : (leg : NewLeg) → In leg (map leg_asked ((i, other_side side, v) ∷ (i, side, w) ∷ [])) → leg.section ≡ i
    of_section leg (here e) = ap (λ (m : NewLeg). m.section) e
    of_section leg (there (here e)) = ap (λ (m : NewLeg). m.section) e
    of_section leg (there (there j)) = elim j [ ]

    apart : (m : NewLeg) → In m (leg_asked (i, side, w) ∷ []) → AreLegsApart (leg_asked (i, other_side side, v)) m
    apart m (here e) s t = other-side_differs side (t ∙ ap (λ (l : NewLeg). l.side) e)
    apart m (there j) s t = elim j [ ]

    either : (b : Bool) (side at : Side) → ((b && side_eq (other_side side) at) || ((b && side_eq side at) || false)) ≡ (b || (b || false))
    either true A A = refl
    either true A B = refl
    either true B A = refl
    either true B B = refl
    either false side at = refl

legs-here : (o : OfferedSection) (options : Options) (i : ℕ) (side : Side) → LegsHere i (legs_asked o options i side)
legs-here o options i side = by (is_active o.section && not o.kept.has_pairs)
  where
    by : (new : Bool) →
        LegsHere i (if new then (i, other_side side, family_by options o.section side (other_side side)) ∷ (i, side, family_by options o.section side side) ∷ [] else [])
    by true = two-legs-here i side (family_by options o.section side (other_side side)) (family_by options o.section side side)
    by false = no-legs-here i

pub legs-none : (legs : List (ℕ × Side × Family)) → legs ≡ [] → LegsSoFar 0 legs
legs-none legs e = subst (LegsSoFar 0) (sym e) (record {
  within = omega arith;
  below = λ leg j. elim j [ ];
  apart = tt;
  both = λ section side. refl;
  few = omega arith;
})

pub legs-more : (o : OfferedSection) (options : Options) (i : ℕ) (side : Side) (old new : List (ℕ × Side × Family)) → i < 8 →
    new ≡ old ++ legs_asked o options i side → LegsSoFar i old → LegsSoFar (i + 1) new
legs-more o options i side old new w e before = subst (LegsSoFar (i + 1)) (sym e) (joined (legs_asked o options i side) (legs-here o options i side))
  where
    joined : (legs : List (ℕ × Side × Family)) → LegsHere i legs → LegsSoFar (i + 1) (old ++ legs)
    joined legs h =
        let parts = map-append leg_asked old legs in
        record {
          within = omega (arith, w);
          below = λ leg j. elim (in-append (map leg_asked old) (map leg_asked legs) (subst (In leg) parts j)) [
            | inl k ↦ let l = before.below leg k in omega (arith, l)
            | inr k ↦ let l = h.of_section leg k in omega (arith, l)
          ];
          apart = subst (Ordered AreLegsApart) (sym parts)
              (append-ordered AreLegsApart (map leg_asked old) (map leg_asked legs) before.apart h.apart
              (λ l m j k s t. let p = before.below l j in let q = h.of_section m k in omega (arith, p, q, s)));
          both = λ section at.
              ap (λ those. is_leg_demanded those section at) parts
              ∙ list_any-append (λ (leg : NewLeg). leg.section == section && side_eq leg.side at) (map leg_asked old) (map leg_asked legs)
              ∙ ap (λ b. b || is_leg_demanded (map leg_asked legs) section at) (before.both section at)
              ∙ ap (λ b. is_demanded (map leg_asked old) section || b) (h.both section at)
              ∙ sym (list_any-append (λ (leg : NewLeg). leg.section == section) (map leg_asked old) (map leg_asked legs))
              ∙ sym (ap (λ those. is_demanded those section) parts);
          few = let a = before.few in let b = h.few in let n = length-append old legs in omega (arith, a, b, n);
        }

pub legs-all : (i : ℕ) (legs : List (ℕ × Side × Family)) → LegsSoFar i legs → ArePairsOfSections (map leg_asked legs)
legs-all i legs s = record {
  apart = λ leg other b. ordered-before AreLegsApart (map leg_asked legs) s.apart leg other b;
  both_sides = s.both;
  few = let n = s.few in let m = length-map legs leg_asked in let w = s.within in omega (arith, w, n, m);
}

or-true : (b : Bool) → (b || true) ≡ true
or-true true = refl
or-true false = refl

-- pairs are demanded for the section of each leg that one is demanded for
pub demanded-leg : (legs : List NewLeg) (leg : NewLeg) → In leg legs → is_demanded legs leg.section ≡ true
demanded-leg [] leg i = elim i [ ]
demanded-leg (x ∷ xs) leg (here e) =
    ap (λ b. b || is_demanded xs leg.section) (ap (λ (l : NewLeg). l.section == leg.section) (sym e) ∙ same leg.section)
  where
    same : (n : ℕ) → (n == n) ≡ true
    same n = search arith
demanded-leg (x ∷ xs) leg (there i) = ap (λ b. (x.section == leg.section) || b) (demanded-leg xs leg i) ∙ or-true (x.section == leg.section)

-- a section that is active is one of the description
pub active-within : (lines : List (List ℕ)) (section : ℕ) → is_active_at lines section ≡ true → section < length (sections_in lines)
active-within lines section e = elim (cases_lt section (length (sections_in lines))) [
  | inl l ↦ l
  | inr l ↦
      absurd (true≢false
      (sym e ∙ ap (λ o. is_active (unwrap_or o no_section)) (past-end (sections_in lines) section (omega (arith, l)))))
]

-- Keys.

-- a key that the section demands of what is kept
record IsMissing (o : OfferedSection) (i : ℕ) (key : KeyPlace) : Type 0 where
  of_section : key.section ≡ i
  active : is_active o.section ≡ true
  lacks : key_for (leg_at o.kept key.side) key.suite ≡ None

-- the keys of one leg
record KeysOfLeg (leg : Leg) (i : ℕ) (side : Side) (most : ℕ) (keys : List (ℕ × Side × Suite)) : Type 0 where
  of_section : (key : KeyPlace) → In key (map key_asked keys) → key.section ≡ i
  of_side : (key : KeyPlace) → In key (map key_asked keys) → key.side ≡ side
  lacks : (key : KeyPlace) → In key (map key_asked keys) → key_for leg key.suite ≡ None
  apart : Ordered AreKeysApart (map key_asked keys)
  few : length keys ≤ most

none-is : {X : Type 0} (o : Option X) → is_none o ≡ true → o ≡ None
none-is None e = refl
none-is (Some x) e = cc

filter-few : {X : Type 0} (test : X → Bool) (xs : List X) → length (filter test xs) ≤ length xs
filter-few test [] = omega arith
filter-few {X} test (x ∷ xs) = go (test x) (filter-few test xs)
  where
    go : (b : Bool) → length (filter test xs) ≤ length xs → length (if b then x ∷ filter test xs else filter test xs) ≤ length (x ∷ xs)
    go true l = grind (arith, l)
    go false l = grind (arith, l)

abbrev SuitesDiffer : ℕ × Side × Suite → ℕ × Side × Suite → Type 0
SuitesDiffer k l = k.2 ≡ l.2 → ⊥

abbrev placed : ℕ → Side → Suite → ℕ × Side × Suite
placed i side suite = (i, side, suite)

missing-of : (leg : Leg) (i : ℕ) (side : Side) (suites : List Suite) (most : ℕ) → Ordered Differ suites → length suites ≤ most →
    KeysOfLeg leg i side most (missing leg i side suites)
missing-of leg i side suites most o few = record {
  of_section = λ key j. let p = from key j in ap (λ (k : KeyPlace). k.section) p.2;
  of_side = λ key j. let p = from key j in ap (λ (k : KeyPlace). k.side) p.2;
  lacks = λ key j.
      let p = from key j in
      let q = kept (λ suite. is_none (key_for leg suite)) suites p.0 p.1 in
      ap (key_for leg) (ap (λ (k : KeyPlace). k.suite) p.2) ∙ none-is (key_for leg p.0) q.passes;
  apart = map-ordered SuitesDiffer AreKeysApart key_asked (missing leg i side suites)
      (map-ordered Differ SuitesDiffer (placed i side) (filter (λ suite. is_none (key_for leg suite)) suites)
      (filter-ordered Differ (λ suite. is_none (key_for leg suite)) suites o) (λ s t differ. differ))
      (λ k l differ s t u. differ u);
  few =
      let n = filter-few (λ suite. is_none (key_for leg suite)) suites in
      let m = length-map (filter (λ suite. is_none (key_for leg suite)) suites) (placed i side) in
      omega (arith, few, n, m);
}
  where
    from : (key : KeyPlace) → In key (map key_asked (missing leg i side suites)) →
        (suite : Suite) × In suite (filter (λ suite. is_none (key_for leg suite)) suites) × (key ≡ key_asked (i, side, suite))
    from key j =
        let p = in-map key_asked (missing leg i side suites) key j in
        let q = in-map (placed i side) (filter (λ suite. is_none (key_for leg suite)) suites) p.0 p.1 in
        (q.0, q.1, p.2 ∙ ap key_asked q.2)

offerers-of : (o : OfferedSection) (i : ℕ) (side : Side) → KeysOfLeg (leg_at o.kept side) i side 1 (offerers_keys o i side)
offerers-of o i side = by (is_srtp o.section.proto)
  where
    one : (line : Option CryptoLine) → length (suite_of line) ≤ 1
    one None = omega arith
    one (Some line) = omega arith

    by : (b : Bool) → KeysOfLeg (leg_at o.kept side) i side 1 (missing (leg_at o.kept side) i side (if b then suite_of o.line else []))
    by true = missing-of (leg_at o.kept side) i side (suite_of o.line) 1 (suite_of-apart o.line) (one o.line)
    by false = missing-of (leg_at o.kept side) i side [] 1 tt (omega arith)

others-of : (o : OfferedSection) (transport : Option Proto) (i : ℕ) (side : Side) → KeysOfLeg (leg_at o.kept side) i side 2 (others_keys o transport i side)
others-of o transport i side =
    by (is_srtp (written_over transport (leg_at o.kept side).in_force o.section.proto) && is_none (leg_at o.kept side).key_in_force)
  where
    tag32 : (s : Suite) → In s (Tag32 ∷ []) → Differ Tag80 s
    tag32 s (here e) f = let g : Tag80 ≡ Tag32 = f ∙ e in cc
    tag32 s (there i) f = elim i [ ]

    by : (b : Bool) → KeysOfLeg (leg_at o.kept side) i side 2 (missing (leg_at o.kept side) i side (if b then Tag80 ∷ Tag32 ∷ [] else []))
    by true = missing-of (leg_at o.kept side) i side (Tag80 ∷ Tag32 ∷ []) 2 (tag32, ((λ s i. elim i [ ]), tt)) (omega arith)
    by false = missing-of (leg_at o.kept side) i side [] 2 tt (omega arith)

-- the keys of one section
record KeysHere (o : OfferedSection) (i : ℕ) (keys : List (ℕ × Side × Suite)) : Type 0 where
  each : (key : KeyPlace) → In key (map key_asked keys) → IsMissing o i key
  apart : Ordered AreKeysApart (map key_asked keys)
  few : length keys ≤ 3

keys-here : (o : OfferedSection) (transport : Option Proto) (i : ℕ) (side : Side) → KeysHere o i (keys_asked o transport i side)
keys-here o transport i side = by (is_active o.section) refl
  where
    both : is_active o.section ≡ true → (own others : List (ℕ × Side × Suite)) → KeysOfLeg (leg_at o.kept side) i side 1 own →
        KeysOfLeg (leg_at o.kept (other_side side)) i (other_side side) 2 others → KeysHere o i (own ++ others)
    both active own others p q =
        let parts = map-append key_asked own others in
        record {
          each = λ key j. elim (in-append (map key_asked own) (map key_asked others) (subst (In key) parts j)) [
            | inl k ↦ record {
              of_section = p.of_section key k;
              active = active;
              lacks = ap (λ (s : Side). key_for (leg_at o.kept s) key.suite) (p.of_side key k) ∙ p.lacks key k;
            }
            | inr k ↦ record {
              of_section = q.of_section key k;
              active = active;
              lacks = ap (λ (s : Side). key_for (leg_at o.kept s) key.suite) (q.of_side key k) ∙ q.lacks key k;
            }
          ];
          apart = subst (Ordered AreKeysApart) (sym parts)
              (append-ordered AreKeysApart (map key_asked own) (map key_asked others) p.apart q.apart
              (λ k l j m s t u. other-side_differs side (sym (q.of_side l m) ∙ sym t ∙ p.of_side k j)));
          few = let a = p.few in let b = q.few in let n = length-append own others in omega (arith, a, b, n);
        }

    by : (active : Bool) → is_active o.section ≡ active →
        KeysHere o i (if active then offerers_keys o i side ++ others_keys o transport i (other_side side) else [])
    by true e = both e (offerers_keys o i side) (others_keys o transport i (other_side side)) (offerers-of o i side) (others-of o transport i (other_side side))
    by false e = record { each = λ key j. elim j [ ]; apart = tt; few = omega arith }

-- the keys of the sections before this one, of which this holds
pub record KeysSoFar (Wanted : KeyPlace → Type 0) (i : ℕ) (keys : List (ℕ × Side × Suite)) : Type 0 where
  pub within : i ≤ 8
  pub below : (key : KeyPlace) → In key (map key_asked keys) → key.section < i
  pub each : (key : KeyPlace) → In key (map key_asked keys) → Wanted key
  pub apart : Ordered AreKeysApart (map key_asked keys)
  pub few : length keys ≤ i + i + i

pub keys-none : (Wanted : KeyPlace → Type 0) (keys : List (ℕ × Side × Suite)) → keys ≡ [] → KeysSoFar Wanted 0 keys
keys-none Wanted keys e = subst (KeysSoFar Wanted 0) (sym e) (record {
  within = omega arith;
  below = λ key j. elim j [ ];
  each = λ key j. elim j [ ];
  apart = tt;
  few = omega arith;
})

-- the leg that is kept has no key, and so its shape has none
pub no-key-shape : (kept : DialogSection) (side : Side) (suite : Suite) → key_for (leg_at kept side) suite ≡ None →
    shape_key (shape_leg (section_shape kept) side) suite ≡ None
no-key-shape kept A Tag80 e = ap (option_map key_shape) e
no-key-shape kept A Tag32 e = ap (option_map key_shape) e
no-key-shape kept B Tag80 e = ap (option_map key_shape) e
no-key-shape kept B Tag32 e = ap (option_map key_shape) e

pub keys-more : (Wanted : KeyPlace → Type 0) (o : OfferedSection) (transport : Option Proto) (i : ℕ) (side : Side) (old new : List (ℕ × Side × Suite)) → i < 8 →
    new ≡ old ++ keys_asked o transport i side →
    ((key : KeyPlace) → key.section ≡ i → is_active o.section ≡ true → key_for (leg_at o.kept key.side) key.suite ≡ None → Wanted key) →
    KeysSoFar Wanted i old → KeysSoFar Wanted (i + 1) new
keys-more Wanted o transport i side old new w e wanted before = subst (KeysSoFar Wanted (i + 1)) (sym e) (joined (keys_asked o transport i side) (keys-here o transport i side))
  where
    joined : (keys : List (ℕ × Side × Suite)) → KeysHere o i keys → KeysSoFar Wanted (i + 1) (old ++ keys)
    joined keys h =
        let parts = map-append key_asked old keys in
        record {
          within = omega (arith, w);
          below = λ key j. elim (in-append (map key_asked old) (map key_asked keys) (subst (In key) parts j)) [
            | inl k ↦ let l = before.below key k in omega (arith, l)
            | inr k ↦ let l = (h.each key k).of_section in omega (arith, l)
          ];
          each = λ key j. elim (in-append (map key_asked old) (map key_asked keys) (subst (In key) parts j)) [
            | inl k ↦ before.each key k
            | inr k ↦ let m = h.each key k in wanted key m.of_section m.active m.lacks
          ];
          apart = subst (Ordered AreKeysApart) (sym parts)
              (append-ordered AreKeysApart (map key_asked old) (map key_asked keys) before.apart h.apart
              (λ k l j m s t u. let p = before.below k j in let q = (h.each l m).of_section in omega (arith, p, q, s)));
          few = let a = before.few in let b = h.few in let n = length-append old keys in omega (arith, a, b, n);
        }

pub keys-all : (Wanted : KeyPlace → Type 0) (i : ℕ) (keys : List (ℕ × Side × Suite)) → KeysSoFar Wanted i keys → AreKeysOfLegs (map key_asked keys)
keys-all Wanted i keys s = record {
  apart = λ key other b. ordered-before AreKeysApart (map key_asked keys) s.apart key other b;
  few = let n = s.few in let m = length-map keys key_asked in let w = s.within in omega (arith, w, n, m);
}

pub asks-key : (lines : List (List ℕ)) (dialog : Dialog) (o : OfferedSection) (i : ℕ) → is_active o.section ≡ is_active_at lines i →
    o.kept ≡ slice_index_or dialog.sections i no_state → (key : KeyPlace) → key.section ≡ i → is_active o.section ≡ true →
    key_for (leg_at o.kept key.side) key.suite ≡ None → AsksKey lines dialog key
asks-key lines dialog o i a k key s active lacks = record {
  active = ap (is_active_at lines) s ∙ sym a ∙ active;
  lacks = ap (λ n. shape_key (shape_leg (shape_of dialog n) key.side) key.suite) s
      ∙ sym (ap (λ (d : DialogSection). shape_key (shape_leg (section_shape d) key.side) key.suite) k)
      ∙ no-key-shape o.kept key.side key.suite lacks;
}

-- The plan.

pub set-within : (xs : List Bool) (section : ℕ) → slice_index_or xs section false ≡ true → section < length xs
set-within [] section e = cc
set-within (x ∷ xs) zero e = grind arith
set-within (x ∷ xs) (suc section) e = let l = set-within xs section e in grind (arith, l)

both-true : (a b : Bool) → (a && b) ≡ true → (a ≡ true) × (b ≡ true)
both-true true b e = (refl, e)
both-true false b e = cc

negated : (b : Bool) → not b ≡ true → b ≡ false
negated true e = cc
negated false e = refl

bare-stays : (pairs committed active : Bool) → pairs ≡ false → (pairs && not committed && not active) ≡ false
bare-stays true committed active e = cc
bare-stays false committed active e = refl

active-stays : (pairs committed active : Bool) → active ≡ true → (pairs && not committed && not active) ≡ false
active-stays true true active e = refl
active-stays true false true e = refl
active-stays true false false e = cc
active-stays false committed active e = refl

dropped-is : (pairs committed active : Bool) → (pairs && not committed && not active) ≡ true → (pairs ≡ true) × (committed ≡ false)
dropped-is true true active e = cc
dropped-is true false active e = (refl, refl)
dropped-is false committed active e = cc

kept-active : (pairs committed active : Bool) → pairs ≡ true → committed ≡ false → (pairs && not committed && not active) ≡ false → active ≡ true
kept-active pairs committed true p c e = refl
kept-active true true false p c e = cc
kept-active true false false p c e = cc
kept-active false committed false p c e = cc

has-or-gets : (pairs active asked : Bool) → asked ≡ (active && not pairs) → active ≡ true → (pairs || asked) ≡ true
has-or-gets true active asked e a = refl
has-or-gets false active asked e a = e ∙ ap (λ b. b && true) a

pub offer-places : (plan : Plan) (dialog : Dialog) (lines : List (List ℕ)) → ArePairsOfSections (legs_demanded plan) →
    ((section : ℕ) → is_demanded (legs_demanded plan) section ≡ (is_active_at lines section && not (shape_of dialog section).has_pairs)) →
    ((section : ℕ) → section < 8 → drops_at plan section ≡ is_dropped_from (is_active_at lines section) (shape_of dialog section)) →
    ((section : ℕ) → drops_at plan section ≡ true → section < 8) → AreKeysOfLegs (keys_demanded plan) →
    ((key : KeyPlace) → In key (keys_demanded plan) → AsksKey lines dialog key) → offered_count_after dialog plan.next ≡ length (sections_in lines) →
    offered_count_after dialog plan.next ≤ 8 → dialog.committed_count ≤ length (sections_in lines) →
    committed_count_after dialog plan.next ≡ dialog.committed_count → OfferPlaces plan dialog
offer-places plan dialog lines pairs new drops within keys asked count most enough same = record {
  pairs = pairs;
  new = λ section d.
      let is = both-true (is_active_at lines section) (not (shape_of dialog section).has_pairs) (sym (new section) ∙ d) in
      let bare = negated (shape_of dialog section).has_pairs is.1 in
      record {
        within = counted section is.0;
        had_none = bare;
        stays = drops section (few section is.0) ∙ bare-stays (shape_of dialog section).has_pairs (shape_of dialog section).is_committed (is_active_at lines section) bare;
      };
  dropped = λ section d.
      let low = within section d in
      let is = dropped-is (shape_of dialog section).has_pairs (shape_of dialog section).is_committed (is_active_at lines section) (sym (drops section low) ∙ d) in
      record { within = low; had_pairs = is.0; uncommitted = is.1 };
  keys = keys;
  drawn = λ key i.
      let a = asked key i in
      record {
        within = counted key.section a.active;
        has_pairs = has-or-gets (shape_of dialog key.section).has_pairs (is_active_at lines key.section) (is_demanded (legs_demanded plan) key.section) (new key.section) a.active;
        stays = drops key.section (few key.section a.active)
            ∙ active-stays (shape_of dialog key.section).has_pairs (shape_of dialog key.section).is_committed (is_active_at lines key.section) a.active;
        lacks = a.lacks;
      };
  counts = record {
    most = most;
    enough = omega (arith, enough, count);
    committed_is = same;
    kept = λ section low had uncommitted stays.
        counted section
        (kept-active (shape_of dialog section).has_pairs (shape_of dialog section).is_committed (is_active_at lines section) had uncommitted (sym (drops section low) ∙ stays));
  };
}
  where
    counted : (section : ℕ) → is_active_at lines section ≡ true → section < offered_count_after dialog plan.next
    counted section e = let l = active-within lines section e in omega (arith, l, count)

    few : (section : ℕ) → is_active_at lines section ≡ true → section < 8
    few section e = let l = counted section e in omega (arith, l, most)
