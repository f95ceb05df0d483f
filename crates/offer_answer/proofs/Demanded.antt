-- What an offer demands is each for another leg, or for another suite of a leg.
use Rattle.std.proofs.Common.{◌≡◌, ℕ, ◌<◌, ◌≤◌, Bool, true, false, ◌&&◌, List, [], ◌∷◌, Option, Some, None, inl, inr, refl, sym, ap, ◌∙◌, subst, map, filter, length, is_none, not, if◌then◌else◌, arith}
use Rattle.histories.specs.Words.{In, here, there, numbers}
use Rattle.sdes_lines.specs.declared.crypto_line.Suite.{Suite}
use Rattle.sdes_lines.specs.declared.crypto_line.Suite.TheVariants.{Tag80, Tag32}
use Rattle.sdes_lines.specs.declared.crypto_line.CryptoLine.{CryptoLine}
use Rattle.std.proofs.Common.{nat_lt, option_map}
use Rattle.std.proofs.lemmas.List.{length-map}
use Rattle.sdp_text.specs.Lines.{lines_of}
use Rattle.sdp_text.specs.LineFaults.{faulty_line}
use Rattle.sdp_text.specs.Parts.{first_of_two, media_parts, served_fault, section_of}
use Rattle.sdp_text.specs.Descriptions.{fault_in, unplaced_fault, dtls_fault}
use Rattle.sdp_text.specs.declared.fault.SdpFault.{SdpFault}
use Rattle.sdp_text.specs.declared.fault.SdpFault.TheVariants.{Line, TooManyMedia}
use Rattle.port_pool.specs.declared.holder.Side.{Side}
use Rattle.port_pool.specs.declared.holder.Side.TheVariants.{A, B}
use Rattle.port_pool.specs.Signals.{other_side}
use Rattle.offer_answer.specs.Rounds.{Round, OfferAsk, NewLeg, KeyPlace}
use Rattle.offer_answer.specs.Sides.{offerer}
use Rattle.offer_answer.specs.Sections.{most_sections, section_in, section_count, all_sections, active_sections, is_active_in, has_pairs}
use Rattle.offer_answer.specs.Profiles.{is_srtp, written_profile}
use Rattle.offer_answer.specs.Keys.{chosen_in, leg_key, key_in_force, key_place_of, missing_keys, suite_of, offerers_suites, others_suites, section_keys}
use Rattle.offer_answer.specs.Demands.{new_leg, legs_for, new_active_sections, is_dropped}
use Rattle.offer_answer.specs.Plan.{demand}
use Rattle.offer_answer.proofs.Members.{kept, in-append}
use Rattle.offer_answer.proofs.Numbers.{Ordered, numbers-rise, in-numbers, in-filter, filter-ordered, append-ordered, in-flat_map, flat_map-ordered, in-map, map-ordered}

pub other-side_differs : (side : Side) → other_side side ≡ side → ⊥
other-side_differs A e = cc
other-side_differs B e = cc

active_sections-rise : (sdp : List ℕ) → Ordered (λ i j. i < j) (active_sections sdp)
active_sections-rise sdp = filter-ordered (λ i j. i < j) (is_active_in sdp) (all_sections sdp) (numbers-rise 0 (section_count sdp))

-- two legs differ in their section or their side
abbrev pub AreLegsApart : NewLeg → NewLeg → Type 0
AreLegsApart l m = l.section ≡ m.section → l.side ≡ m.side → ⊥

pub in-legs_for : (rounds : List Round) (ask : OfferAsk) (section : ℕ) (l : NewLeg) → In l (legs_for rounds ask section) → l.section ≡ section
in-legs_for rounds ask section l (here e) = ap (λ (m : NewLeg). m.section) e
in-legs_for rounds ask section l (there (here e)) = ap (λ (m : NewLeg). m.section) e
in-legs_for rounds ask section l (there (there i)) = elim i [ ]

legs_for-apart : (rounds : List Round) (ask : OfferAsk) (section : ℕ) → Ordered AreLegsApart (legs_for rounds ask section)
legs_for-apart rounds ask section = (apart, ((λ m i. elim i [ ]), tt))
  where
    apart : (m : NewLeg) → In m (new_leg rounds ask section (offerer rounds ask) ∷ []) → AreLegsApart (new_leg rounds ask section (other_side (offerer rounds ask))) m
    apart m (here e) s t = other-side_differs (offerer rounds ask) (t ∙ ap (λ (l : NewLeg). l.side) e)
    apart m (there i) s t = elim i [ ]

lt-differs : (i j k : ℕ) → i < j → k ≡ i → k ≡ j → ⊥
lt-differs i j k l e f = omega (arith, l, e, f)

pub new_legs-apart : (rounds : List Round) (ask : OfferAsk) → Ordered AreLegsApart (demand rounds ask).pairs
unfolding demand
new_legs-apart rounds ask =
    flat_map-ordered (λ i j. i < j) AreLegsApart (legs_for rounds ask) (new_active_sections rounds ask)
    (filter-ordered (λ i j. i < j) (λ section. not (has_pairs rounds section)) (active_sections ask.sdp) (active_sections-rise ask.sdp))
    (legs_for-apart rounds ask)
    (λ i j l m low p q s t. lt-differs i j l.section low (in-legs_for rounds ask i l p) (s ∙ in-legs_for rounds ask j m q))

-- two keys differ in their section, their side or their suite
abbrev pub AreKeysApart : KeyPlace → KeyPlace → Type 0
AreKeysApart k l = k.section ≡ l.section → k.side ≡ l.side → k.suite ≡ l.suite → ⊥

-- a place of a leg's missing keys is of that leg
record IsOfLeg (section : ℕ) (side : Side) (k : KeyPlace) : Type 0 where
  of_section : k.section ≡ section
  of_side : k.side ≡ side

in-missing_keys : (rounds : List Round) (section : ℕ) (side : Side) (suites : List Suite) (k : KeyPlace) →
    In k (missing_keys rounds section side suites) → IsOfLeg section side k
in-missing_keys rounds section side suites k i =
    let c = in-map (key_place_of section side) (filter (λ suite. is_none (leg_key rounds section side suite)) suites) k i in
    record { of_section = ap (λ (l : KeyPlace). l.section) c.2; of_side = ap (λ (l : KeyPlace). l.side) c.2 }

abbrev pub Differ : Suite → Suite → Type 0
Differ s t = s ≡ t → ⊥

missing_keys-apart : (rounds : List Round) (section : ℕ) (side : Side) (suites : List Suite) → Ordered Differ suites →
    Ordered AreKeysApart (missing_keys rounds section side suites)
missing_keys-apart rounds section side suites o =
    map-ordered Differ AreKeysApart (key_place_of section side) (filter (λ suite. is_none (leg_key rounds section side suite)) suites)
    (filter-ordered Differ (λ suite. is_none (leg_key rounds section side suite)) suites o)
    (λ s t differ e f g. differ g)

pub suite_of-apart : (line : Option CryptoLine) → Ordered Differ (suite_of line)
suite_of-apart None = tt
suite_of-apart (Some line) = ((λ s i. elim i [ ]), tt)

offerers_suites-apart : (ask : OfferAsk) (section : ℕ) → Ordered Differ (offerers_suites ask section)
offerers_suites-apart ask section = go (is_srtp (section_in ask.sdp section).proto)
  where
    go : (b : Bool) → Ordered Differ (if b then suite_of (chosen_in ask.chosen section) else [])
    go true = suite_of-apart (chosen_in ask.chosen section)
    go false = tt

others_suites-apart : (rounds : List Round) (ask : OfferAsk) (section : ℕ) → Ordered Differ (others_suites rounds ask section)
others_suites-apart rounds ask section =
    go (is_srtp (written_profile rounds ask section) && is_none (key_in_force rounds section (other_side (offerer rounds ask))))
  where
    tag32 : (s : Suite) → In s (Tag32 ∷ []) → Differ Tag80 s
    tag32 s (here e) f = let g : Tag80 ≡ Tag32 = f ∙ e in cc
    tag32 s (there i) f = elim i [ ]

    go : (b : Bool) → Ordered Differ (if b then Tag80 ∷ Tag32 ∷ [] else [])
    go true = (tag32, ((λ s i. elim i [ ]), tt))
    go false = tt

section_keys-apart : (rounds : List Round) (ask : OfferAsk) (section : ℕ) → Ordered AreKeysApart (section_keys rounds ask section)
section_keys-apart rounds ask section =
    append-ordered AreKeysApart (missing_keys rounds section (offerer rounds ask) (offerers_suites ask section))
    (missing_keys rounds section (other_side (offerer rounds ask)) (others_suites rounds ask section))
    (missing_keys-apart rounds section (offerer rounds ask) (offerers_suites ask section) (offerers_suites-apart ask section))
    (missing_keys-apart rounds section (other_side (offerer rounds ask)) (others_suites rounds ask section) (others_suites-apart rounds ask section))
    (λ k l i j e f g.
    let own = in-missing_keys rounds section (offerer rounds ask) (offerers_suites ask section) k i in
    let others = in-missing_keys rounds section (other_side (offerer rounds ask)) (others_suites rounds ask section) l j in
    other-side_differs (offerer rounds ask) (sym others.of_side ∙ sym f ∙ own.of_side))

pub in-section_keys : (rounds : List Round) (ask : OfferAsk) (section : ℕ) (k : KeyPlace) → In k (section_keys rounds ask section) → k.section ≡ section
in-section_keys rounds ask section k i =
    elim (in-append (missing_keys rounds section (offerer rounds ask) (offerers_suites ask section))
    (missing_keys rounds section (other_side (offerer rounds ask)) (others_suites rounds ask section)) i) [
      | inl j ↦ (in-missing_keys rounds section (offerer rounds ask) (offerers_suites ask section) k j).of_section
      | inr j ↦ (in-missing_keys rounds section (other_side (offerer rounds ask)) (others_suites rounds ask section) k j).of_section
    ]

pub new_keys-apart : (rounds : List Round) (ask : OfferAsk) → Ordered AreKeysApart (demand rounds ask).keys
unfolding demand
new_keys-apart rounds ask =
    flat_map-ordered (λ i j. i < j) AreKeysApart (section_keys rounds ask) (active_sections ask.sdp) (active_sections-rise ask.sdp)
    (section_keys-apart rounds ask)
    (λ i j k l low p q s t u. lt-differs i j k.section low (in-section_keys rounds ask i k p) (s ∙ in-section_keys rounds ask j l q))

-- The sections of a demand are sections of the description.

in-active_sections : (sdp : List ℕ) (section : ℕ) → In section (active_sections sdp) → section < section_count sdp
in-active_sections sdp section i =
    let below = (in-numbers 0 (section_count sdp) section (in-filter (is_active_in sdp) (all_sections sdp) section i)).1 in omega (arith, below)

pub new_leg-within : (rounds : List Round) (ask : OfferAsk) (l : NewLeg) → In l (demand rounds ask).pairs → l.section < section_count ask.sdp
unfolding demand
new_leg-within rounds ask l i =
    let c = in-flat_map (legs_for rounds ask) (new_active_sections rounds ask) l i in
    subst (λ n. n < section_count ask.sdp) (sym (in-legs_for rounds ask c.source l c.gives))
    (in-active_sections ask.sdp c.source (in-filter (λ section. not (has_pairs rounds section)) (active_sections ask.sdp) c.source c.is_in))

pub new_key-within : (rounds : List Round) (ask : OfferAsk) (k : KeyPlace) → In k (demand rounds ask).keys → k.section < section_count ask.sdp
unfolding demand
new_key-within rounds ask k i =
    let c = in-flat_map (section_keys rounds ask) (active_sections ask.sdp) k i in
    subst (λ n. n < section_count ask.sdp) (sym (in-section_keys rounds ask c.source k c.gives)) (in-active_sections ask.sdp c.source c.is_in)

pub dropped-within : (rounds : List Round) (ask : OfferAsk) (section : ℕ) → In section (demand rounds ask).dropped → section < most_sections
unfolding demand
dropped-within rounds ask section i =
    let below = (in-numbers 0 most_sections section (in-filter (is_dropped rounds ask) (numbers 0 most_sections) section i)).1 in omega (arith, below)

-- a description without a fault has at most eight sections
pub few_sections : (sdp : List ℕ) → fault_in (lines_of sdp) ≡ None → section_count sdp ≤ most_sections
few_sections sdp e = go (faulty_line (lines_of sdp)) (unplaced_fault (media_parts (lines_of sdp))) (dtls_fault (media_parts (lines_of sdp))) (nat_lt 8 (length (media_parts (lines_of sdp)))) refl e
  where
    counted : length (map section_of (media_parts (lines_of sdp))) ≡ length (media_parts (lines_of sdp))
    counted = length-map (media_parts (lines_of sdp)) section_of

    go : (f : Option ℕ) (u d : Option SdpFault) (n : Bool) → nat_lt 8 (length (media_parts (lines_of sdp))) ≡ n →
        first_of_two (option_map Line f) (first_of_two u (first_of_two d (first_of_two (if n then Some (TooManyMedia (length (media_parts (lines_of sdp)))) else None) (served_fault (media_parts (lines_of sdp)))))) ≡ None →
        section_count sdp ≤ most_sections
    go (Some n) u d b t e = cc
    go None (Some u) d b t e = cc
    go None None (Some d) b t e = cc
    go None None None true t e = cc
    go None None None false t e = rw counted (grind (arith, t))

-- What a demand asks for isn't there yet.

-- a new leg is of a section that has no pairs
pub new_leg-is_new : (rounds : List Round) (ask : OfferAsk) (l : NewLeg) → In l (demand rounds ask).pairs → has_pairs rounds l.section ≡ false
unfolding demand
new_leg-is_new rounds ask l i =
    let c = in-flat_map (legs_for rounds ask) (new_active_sections rounds ask) l i in
    let without = kept (λ section. not (has_pairs rounds section)) (active_sections ask.sdp) c.source c.is_in in
    subst (λ n. has_pairs rounds n ≡ false) (sym (in-legs_for rounds ask c.source l c.gives)) (negated (has_pairs rounds c.source) without.passes)
  where
    negated : (b : Bool) → not b ≡ true → b ≡ false
    negated true e = cc
    negated false e = refl

-- a new key is for a leg that has none for that suite
missing_keys-missing : (rounds : List Round) (section : ℕ) (side : Side) (suites : List Suite) (k : KeyPlace) →
    In k (missing_keys rounds section side suites) → is_none (leg_key rounds k.section k.side k.suite) ≡ true
missing_keys-missing rounds section side suites k i =
    let c = in-map (key_place_of section side) (filter (λ suite. is_none (leg_key rounds section side suite)) suites) k i in
    let p = kept (λ suite. is_none (leg_key rounds section side suite)) suites c.0 c.1 in
    subst (λ (l : KeyPlace). is_none (leg_key rounds l.section l.side l.suite) ≡ true) (sym c.2) p.passes

pub new_key-is_missing : (rounds : List Round) (ask : OfferAsk) (k : KeyPlace) → In k (demand rounds ask).keys →
    is_none (leg_key rounds k.section k.side k.suite) ≡ true
unfolding demand
new_key-is_missing rounds ask k i =
    let c = in-flat_map (section_keys rounds ask) (active_sections ask.sdp) k i in
    elim (in-append (missing_keys rounds c.source (offerer rounds ask) (offerers_suites ask c.source))
    (missing_keys rounds c.source (other_side (offerer rounds ask)) (others_suites rounds ask c.source)) c.gives) [
      | inl j ↦ missing_keys-missing rounds c.source (offerer rounds ask) (offerers_suites ask c.source) k j
      | inr j ↦ missing_keys-missing rounds c.source (other_side (offerer rounds ask)) (others_suites rounds ask c.source) k j
    ]
