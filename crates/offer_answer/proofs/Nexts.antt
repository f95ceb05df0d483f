-- What the sections of a dialog become by an offer.
use Rattle.std.proofs.Common.{◌≡◌, ℕ, ◌+◌, ◌≤◌, Bool, true, false, not, ◌&&◌, ◌||◌, ◌==◌, List, [], ◌∷◌, length, Option, Some, None, is_some, refl, sym, ap, ◌∙◌, subst, if◌then◌else◌, true≢false, find, filter, map, unwrap_or, option_map, append-nil, arith}
use Rattle.std.specs.List.{list_any}
use Rattle.histories.specs.Words.{In, here, there, or_else}
use Rattle.relay_outside.specs.declared.address.Family.{Family}
use Rattle.relay_outside.specs.declared.settings.Config.{Config}
use Rattle.sdes_lines.specs.declared.crypto_line.Suite.{Suite}
use Rattle.port_pool.specs.declared.holder.Side.{Side}
use Rattle.port_pool.specs.declared.holder.Holder.{Holder}
use Rattle.port_pool.specs.Signals.{NewKey, side_eq, suite_eq}
use Rattle.port_pool.specs.Ports.{pair_port}
use Rattle.offer_answer.specs.Rounds.{Round, Offered, Answered, OfferAsk, NewLeg, KeyPlace, drawn_for}
use Rattle.offer_answer.specs.Sides.{MadeOffer, is_begun, has_answer, last_answer, first_tag, offerer}
use Rattle.offer_answer.specs.Sections.{most_sections, all_sections, active_sections, is_active_in, leases, section_life, has_pairs, is_committed, leased_for, leg_of}
use Rattle.offer_answer.specs.Profiles.{profile_offered, profile_in_force}
use Rattle.offer_answer.specs.Keys.{is_for, key_among, leg_key, committed_key, key_in_force, section_keys}
use Rattle.offer_answer.specs.Families.{new_family, leasing_offer, leg_family, family_after}
use Rattle.offer_answer.specs.Demands.{new_leg, legs_for, new_active_sections, new_legs, new_keys}
use Rattle.offer_answer.specs.Texts.{new_port, standing_port}
use Rattle.offer_answer.specs.Laws.{leg_place, new_leg_place, key_place}
use Rattle.offer_answer.specs.Dialogs.{DialogFor, Awaits, SectionFor}
use Rattle.offer_answer.specs.PortsAndKeys.{AreDemandedLegs, port_after}
use Rattle.offer_answer.specs.Nexts.{numbered_keys, pairs_after, port_kept, family_next, key_kept, LegNext, SectionNext}
use Rattle.offer_answer.specs.declared.leg.Leg.{Leg}
use Rattle.offer_answer.specs.declared.leg.DialogSection.{DialogSection}
use Rattle.offer_answer.specs.declared.dialog.Dialog.{Dialog}
use Rattle.offer_answer.proofs.Members.{found, kept}
use Rattle.offer_answer.proofs.Numbers.{in-map, in-flat_map}
use Rattle.offer_answer.proofs.Demanded.{in-legs_for, in-section_keys}
use Rattle.offer_answer.proofs.Keyed.{in-kept}
use Rattle.offer_answer.proofs.Lives.{LifeOf, begins, goes_on, is_over, life-step}
use Rattle.offer_answer.proofs.Secured.{in-active, none-passes, some-passes, in-mapped, in-flat, section-of}
use Rattle.offer_answer.proofs.Steps.{pairs-offered, committed-offered, not-among, leg-offered, key-offered, in_force-offered, family-offered, family-answered}

-- Sections without pairs, and ones that aren't committed.

pub committed-has : (rounds : List Round) (section : ℕ) → is_committed rounds section ≡ true → has_pairs rounds section ≡ true
committed-has rounds section e = go (section_life rounds section) e
  where
    go : (now : List Round) → has_answer now ≡ true → is_begun now ≡ true
    go [] e = cc
    go (round ∷ now) e = refl

pub without-leg : (rounds : List Round) (section : ℕ) (side : Side) → has_pairs rounds section ≡ false → leg_of rounds section side ≡ None
without-leg rounds section side e = go (section_life rounds section) e
  where
    go : (now : List Round) → is_begun now ≡ false → find (λ (leg : Holder). leg.section == section && side_eq leg.side side) (leased_for now) ≡ None
    go [] e = refl
    go (round ∷ now) e = cc

pub without-key : (rounds : List Round) (section : ℕ) (side : Side) (suite : Suite) → has_pairs rounds section ≡ false → leg_key rounds section side suite ≡ None
without-key rounds section side suite e = go (section_life rounds section) e
  where
    go : (now : List Round) → is_begun now ≡ false → key_among (filter (is_for section side) (drawn_for now)) suite ≡ None
    go [] e = refl
    go (round ∷ now) e = cc

pub without-profile : (rounds : List Round) (section : ℕ) (side : Side) → is_committed rounds section ≡ false → profile_in_force rounds section side ≡ None
without-profile [] section side e = refl
without-profile (Offered ask legs keys ∷ rounds) section side e = ap (λ (b : Bool). if b then profile_in_force rounds section side else None) e
without-profile (Answered ask ∷ rounds) section side e = ap (λ (b : Bool). if b then profile_offered rounds section side else None) e

pub without-key_in_force : (rounds : List Round) (section : ℕ) (side : Side) → is_committed rounds section ≡ false → key_in_force rounds section side ≡ None
without-key_in_force rounds section side e =
    ap (λ (b : Bool). if b then elim (last_answer rounds) [ None ↦ None | Some answer ↦ committed_key answer.before answer.ask section side ] else None) e

pub without-family : (rounds : List Round) (section : ℕ) (side : Side) → has_pairs rounds section ≡ false → leg_family rounds section side ≡ None
without-family rounds section side e =
    ap (λ (b : Bool). if b then option_map (λ (offer : MadeOffer). new_family offer.before offer.ask section side) (leasing_offer rounds section) else None) e

-- a section with pairs has legs with families
has-family : (rounds : List Round) (section : ℕ) (side : Side) → has_pairs rounds section ≡ true → is_some (leg_family rounds section side) ≡ true
has-family [] section side has = cc
has-family (Offered ask legs keys ∷ rounds) section side has =
    ap is_some (family-offered ask legs keys rounds section side) ∙ go (life-step (Offered ask legs keys) rounds section) (has-family rounds section side)
  where
    go : LifeOf (Offered ask legs keys) rounds section → (has_pairs rounds section ≡ true → is_some (leg_family rounds section side) ≡ true) →
        is_some (if leases (Offered ask legs keys) section then Some (new_family rounds ask section side)
        else if has_pairs (Offered ask legs keys ∷ rounds) section then leg_family rounds section side else None) ≡ true
    go (begins l e) more =
        ap (λ (b : Bool). is_some (if b then Some (new_family rounds ask section side)
        else if has_pairs (Offered ask legs keys ∷ rounds) section then leg_family rounds section side else None)) l
    go (goes_on l had e) more =
        ap (λ (b : Bool). is_some (if b then Some (new_family rounds ask section side)
        else if has_pairs (Offered ask legs keys ∷ rounds) section then leg_family rounds section side else None)) l
        ∙ ap (λ (b : Bool). is_some (if b then leg_family rounds section side else None)) has
        ∙ more had
    go (is_over e) more = absurd (true≢false (sym has ∙ ap is_begun e))
has-family (Answered ask ∷ rounds) section side has =
    ap is_some (family-answered ask rounds section side) ∙ ap (λ (b : Bool). is_some (if b then leg_family rounds section side else None)) has
    ∙ go (life-step (Answered ask) rounds section) (has-family rounds section side)
  where
    go : LifeOf (Answered ask) rounds section → (has_pairs rounds section ≡ true → is_some (leg_family rounds section side) ≡ true) → is_some (leg_family rounds section side) ≡ true
    go (begins l e) more = cc
    go (goes_on l had e) more = more had
    go (is_over e) more = absurd (true≢false (sym has ∙ ap is_begun e))

pub family-stays : (rounds : List Round) (ask : OfferAsk) (section : ℕ) (side : Side) → has_pairs rounds section ≡ true →
    leg_family rounds section side ≡ Some (family_after rounds ask section side)
family-stays rounds ask section side has = go (leg_family rounds section side) (has-family rounds section side has)
  where
    go : (o : Option Family) → is_some o ≡ true → o ≡ Some (unwrap_or o (new_family rounds ask section side))
    go None e = cc
    go (Some family) e = refl

pub family-begins : (rounds : List Round) (ask : OfferAsk) (section : ℕ) (side : Side) → has_pairs rounds section ≡ false →
    new_family rounds ask section side ≡ family_after rounds ask section side
family-begins rounds ask section side none =
    sym (ap (λ (o : Option Family). unwrap_or o (new_family rounds ask section side)) (without-family rounds section side none))

-- An offer leases pairs for the sections that it uses and that have none.

leased-new : (config : Config) (rounds : List Round) (ask : OfferAsk) (ports : List ℕ) (legs : List Holder) (section : ℕ) → AreDemandedLegs config rounds ask ports legs →
    list_any (λ (leg : Holder). leg.section == section) legs ≡ true → In section (new_active_sections rounds ask)
leased-new config rounds ask ports legs section l e =
    let one = some-passes (λ (leg : Holder). leg.section == section) legs e in
    let new = in-map new_leg_place (new_legs rounds ask) (leg_place one.0)
    (subst (λ places. In (leg_place one.0) places) l.places_are (in-mapped leg_place legs one.0 one.1)) in
    let from = in-flat_map (legs_for rounds ask) (new_active_sections rounds ask) new.0 new.1 in
    let same : from.source ≡ section = section-of one.0 new.0 from.source section (in-legs_for rounds ask from.source new.0 from.gives) new.2 one.2 in
    subst (λ n. In n (new_active_sections rounds ask)) same from.is_in

new-leased : (config : Config) (rounds : List Round) (ask : OfferAsk) (ports : List ℕ) (legs : List Holder) (section : ℕ) → AreDemandedLegs config rounds ask ports legs →
    is_active_in ask.sdp section ≡ true → has_pairs rounds section ≡ false → list_any (λ (leg : Holder). leg.section == section) legs ≡ false → ⊥
new-leased config rounds ask ports legs section l active had e =
    let new : In section (new_active_sections rounds ask) =
    in-kept (λ n. not (has_pairs rounds n)) (active_sections ask.sdp) section (in-active ask.sdp section active) (ap not had) in
    let wanted : In (new_leg rounds ask section (offerer rounds ask)) (new_legs rounds ask) =
    in-flat (legs_for rounds ask) (new_active_sections rounds ask) section (new_leg rounds ask section (offerer rounds ask)) new (there (here refl)) in
    let leg = in-map leg_place legs (section, offerer rounds ask)
    (subst (λ places. In (section, offerer rounds ask) places) (sym l.places_are) (in-mapped new_leg_place (new_legs rounds ask) (new_leg rounds ask section (offerer rounds ask)) wanted)) in
    let of_section : section ≡ leg.0.section = ap (λ (p : ℕ × Side). p.0) leg.2 in
    let other : (leg.0.section == section) ≡ false = none-passes (λ (h : Holder). h.section == section) legs leg.0 e leg.1 in
    let same : (section == section) ≡ false = subst (λ n. (n == section) ≡ false) (sym of_section) other in
    let alike : (section == section) ≡ true = grind arith in
    true≢false (sym alike ∙ same)

pub leases-new : (config : Config) (rounds : List Round) (ask : OfferAsk) (ports : List ℕ) (legs : List Holder) (keys : List NewKey) (section : ℕ) →
    AreDemandedLegs config rounds ask ports legs → leases (Offered ask legs keys) section ≡ (is_active_in ask.sdp section && not (has_pairs rounds section))
leases-new config rounds ask ports legs keys section l =
    go (leases (Offered ask legs keys) section) (is_active_in ask.sdp section) (has_pairs rounds section) refl refl refl
  where
    new : leases (Offered ask legs keys) section ≡ true → (not (has_pairs rounds section) ≡ true) × (is_active_in ask.sdp section ≡ true)
    new e =
        let without = kept (λ n. not (has_pairs rounds n)) (active_sections ask.sdp) section (leased-new config rounds ask ports legs section l e) in
        (without.passes, (kept (is_active_in ask.sdp) (all_sections ask.sdp) section without.is_in).passes)

    go : (b active had : Bool) → leases (Offered ask legs keys) section ≡ b → is_active_in ask.sdp section ≡ active → has_pairs rounds section ≡ had → b ≡ (active && not had)
    go true true false e a h = refl
    go false true true e a h = refl
    go false false had e a h = refl
    go true true true e a h = absurd (true≢false (sym (new e).0 ∙ ap not h))
    go true false had e a h = absurd (true≢false (sym (new e).1 ∙ a))
    go false true false e a h = absurd (new-leased config rounds ask ports legs section l a h e)

and-false : (x : Bool) → (x && false) ≡ false
and-false true = refl
and-false false = refl

leases-had : (config : Config) (rounds : List Round) (ask : OfferAsk) (ports : List ℕ) (legs : List Holder) (keys : List NewKey) (section : ℕ) →
    AreDemandedLegs config rounds ask ports legs → has_pairs rounds section ≡ true → leases (Offered ask legs keys) section ≡ false
leases-had config rounds ask ports legs keys section l had =
    leases-new config rounds ask ports legs keys section l ∙ ap (λ h. is_active_in ask.sdp section && not h) had ∙ and-false (is_active_in ask.sdp section)

leased-had : (config : Config) (rounds : List Round) (ask : OfferAsk) (ports : List ℕ) (legs : List Holder) (keys : List NewKey) (section : ℕ) →
    AreDemandedLegs config rounds ask ports legs → leases (Offered ask legs keys) section ≡ true → has_pairs rounds section ≡ false
leased-had config rounds ask ports legs keys section l e = go (has_pairs rounds section) refl
  where
    go : (b : Bool) → has_pairs rounds section ≡ b → b ≡ false
    go false h = refl
    go true h = absurd (true≢false (sym e ∙ leases-had config rounds ask ports legs keys section l h))

-- What stands after the offer.

pub pairs-next : (config : Config) (rounds : List Round) (ask : OfferAsk) (ports : List ℕ) (legs : List Holder) (keys : List NewKey) (section : ℕ) →
    AreDemandedLegs config rounds ask ports legs → has_pairs (Offered ask legs keys ∷ rounds) section ≡ pairs_after rounds ask section
pairs-next config rounds ask ports legs keys section l =
    pairs-offered ask legs keys rounds section
    ∙ ap (λ b. b || (has_pairs rounds section && not (not (is_active_in ask.sdp section) && not (is_committed rounds section)))) (leases-new config rounds ask ports legs keys section l)
    ∙ go (is_active_in ask.sdp section) (has_pairs rounds section) (is_committed rounds section) (committed-has rounds section)
  where
    go : (active had committed : Bool) → (committed ≡ true → had ≡ true) → ((active && not had) || (had && not (not active && not committed))) ≡ (active || committed)
    go true true committed h = refl
    go true false committed h = refl
    go false true true h = refl
    go false true false h = refl
    go false false true h = let e : false ≡ true = h refl in cc
    go false false false h = refl

pub committed-next : (config : Config) (rounds : List Round) (ask : OfferAsk) (ports : List ℕ) (legs : List Holder) (keys : List NewKey) (section : ℕ) →
    AreDemandedLegs config rounds ask ports legs → is_committed (Offered ask legs keys ∷ rounds) section ≡ is_committed rounds section
committed-next config rounds ask ports legs keys section l =
    committed-offered ask legs keys rounds section ∙ go (is_committed rounds section) refl
  where
    go : (b : Bool) → is_committed rounds section ≡ b → (not (leases (Offered ask legs keys) section) && is_committed rounds section) ≡ is_committed rounds section
    go true e = ap (λ b. not b && is_committed rounds section) (leases-had config rounds ask ports legs keys section l (committed-has rounds section e))
    go false e = rw e (and-false (not (leases (Offered ask legs keys) section)))

-- the legs that were leased have the ports of the new legs
ports-found : (config : Config) (legs : List Holder) (news : List NewLeg) (ports : List ℕ) (section : ℕ) (side : Side) →
    map leg_place legs ≡ map new_leg_place news → map (λ (leg : Holder). pair_port config leg.pair) legs ≡ ports →
    new_port news ports section side
    ≡ option_map (λ (leg : Holder). pair_port config leg.pair) (find (λ (leg : Holder). leg.section == section && side_eq leg.side side) legs)
ports-found config legs news ports section side e f =
    subst (λ ps. new_port news ps section side
    ≡ option_map (λ (leg : Holder). pair_port config leg.pair) (find (λ (leg : Holder). leg.section == section && side_eq leg.side side) legs)) f (go legs news e)
  where
    port : Holder → ℕ
    port leg = pair_port config leg.pair

    is_leg : Holder → Bool
    is_leg leg = leg.section == section && side_eq leg.side side

    step : (leg : Holder) (legs : List Holder) (new : NewLeg) (news : List NewLeg) (b : Bool) → (leg.section == section && side_eq leg.side side) ≡ b →
        (new.section == section && side_eq new.side side) ≡ b →
        new_port news (map (λ (leg : Holder). pair_port config leg.pair) legs) section side
        ≡ option_map (λ (leg : Holder). pair_port config leg.pair) (find (λ (leg : Holder). leg.section == section && side_eq leg.side side) legs) →
        new_port (new ∷ news) (map (λ (leg : Holder). pair_port config leg.pair) (leg ∷ legs)) section side
        ≡ option_map (λ (leg : Holder). pair_port config leg.pair) (find (λ (leg : Holder). leg.section == section && side_eq leg.side side) (leg ∷ legs))
    step leg legs new news true p q more = rw (p, q) refl
    step leg legs new news false p q more = rw (p, q) more

    go : (legs : List Holder) (news : List NewLeg) → map leg_place legs ≡ map new_leg_place news →
        new_port news (map (λ (leg : Holder). pair_port config leg.pair) legs) section side
        ≡ option_map (λ (leg : Holder). pair_port config leg.pair) (find (λ (leg : Holder). leg.section == section && side_eq leg.side side) legs)
    go [] [] e = refl
    go [] (new ∷ news) e = cc
    go (leg ∷ legs) [] e = cc
    go (leg ∷ legs) (new ∷ news) e =
        let place : leg_place leg ≡ new_leg_place new = cc in
        let more : map leg_place legs ≡ map new_leg_place news = cc in
        let same : (leg.section == section && side_eq leg.side side) ≡ (new.section == section && side_eq new.side side) =
        ap (λ (p : ℕ × Side). p.0 == section && side_eq p.1 side) place in
        step leg legs new news (new.section == section && side_eq new.side side) same refl (go legs news more)

or-none : {X : Type 0} (o : Option X) → or_else o None ≡ o
or-none None = refl
or-none (Some x) = refl

port-next : (config : Config) (rounds : List Round) (ask : OfferAsk) (ports : List ℕ) (legs : List Holder) (keys : List NewKey) (section : ℕ) (side : Side) →
    AreDemandedLegs config rounds ask ports legs →
    or_else (new_port (new_legs rounds ask) ports section side) (port_kept config rounds ask section side) ≡ standing_port config (Offered ask legs keys ∷ rounds) section side
port-next config rounds ask ports legs keys section side l = go (leases (Offered ask legs keys) section) refl
  where
    leased : Option Holder
    leased = find (λ (leg : Holder). leg.section == section && side_eq leg.side side) legs

    port : Option Holder → Option ℕ
    port leg = option_map (λ (h : Holder). pair_port config h.pair) leg

    new : new_port (new_legs rounds ask) ports section side ≡ port leased
    new = ports-found config legs (new_legs rounds ask) ports section side l.places_are l.ports_are

    leg : leg_of (Offered ask legs keys ∷ rounds) section side
        ≡ (if leases (Offered ask legs keys) section then leased else if pairs_after rounds ask section then leg_of rounds section side else None)
    leg =
        leg-offered ask legs keys rounds section side
        ∙ ap (λ (b : Bool). if leases (Offered ask legs keys) section then leased else if b then leg_of rounds section side else None)
        (pairs-next config rounds ask ports legs keys section l)

    stands : (b : Bool) → (if b then port (leg_of rounds section side) else None) ≡ port (if b then leg_of rounds section side else None)
    stands true = refl
    stands false = refl

    none : (b : Bool) → leg_of rounds section side ≡ None → (if b then port (leg_of rounds section side) else None) ≡ None
    none true e = ap port e
    none false e = refl

    go : (b : Bool) → leases (Offered ask legs keys) section ≡ b →
        or_else (new_port (new_legs rounds ask) ports section side) (port_kept config rounds ask section side) ≡ port (leg_of (Offered ask legs keys ∷ rounds) section side)
    go true e =
        ap (λ o. or_else o (port_kept config rounds ask section side)) new
        ∙ ap (or_else (port leased)) (none (pairs_after rounds ask section) (without-leg rounds section side (leased-had config rounds ask ports legs keys section l e)))
        ∙ or-none (port leased)
        ∙ sym (ap port (leg ∙ ap (λ (b : Bool). if b then leased else if pairs_after rounds ask section then leg_of rounds section side else None) e))
    go false e =
        let gone : leased ≡ None = sym (ap (find (λ (leg : Holder). leg.section == section && side_eq leg.side side)) (append-nil legs)) ∙ not-among section side legs [] e in
        ap (λ o. or_else o (port_kept config rounds ask section side)) (new ∙ ap port gone)
        ∙ stands (pairs_after rounds ask section)
        ∙ sym (ap port (leg ∙ ap (λ (b : Bool). if b then leased else if pairs_after rounds ask section then leg_of rounds section side else None) e))

-- An offer draws keys for the sections that it uses.

and-left : (x y : Bool) → (x && y) ≡ true → x ≡ true
and-left true y e = refl
and-left false y e = cc

drawn-active : (rounds : List Round) (ask : OfferAsk) (keys : List NewKey) (section : ℕ) (side : Side) (suite : Suite) →
    map key_place keys ≡ new_keys rounds ask → is_active_in ask.sdp section ≡ false → key_among (filter (is_for section side) keys) suite ≡ None
drawn-active rounds ask keys section side suite drawn unused = go (key_among (filter (is_for section side) keys) suite) refl
  where
    go : (o : Option NewKey) → key_among (filter (is_for section side) keys) suite ≡ o → o ≡ None
    go None e = refl
    go (Some key) e =
        let at = found (λ (k : NewKey). suite_eq k.suite suite) (filter (is_for section side) keys) key e in
        let among = kept (is_for section side) keys key at.is_in in
        let from = in-flat_map (section_keys rounds ask) (active_sections ask.sdp) (key_place key)
        (subst (λ places. In (key_place key) places) drawn (in-mapped key_place keys key among.is_in)) in
        let of_source : key.section ≡ from.source = in-section_keys rounds ask from.source (key_place key) from.gives in
        let is : (key.section == section) ≡ true = and-left (key.section == section) (side_eq key.side side) among.passes in
        let of_section : key.section ≡ section = grind (arith, is) in
        let used = (kept (is_active_in ask.sdp) (all_sections ask.sdp) from.source from.is_in).passes in
        absurd (true≢false (sym used ∙ ap (is_active_in ask.sdp) (sym of_source ∙ of_section) ∙ unused))

pub numbered-places : (first : ℕ) (keys : List (List ℕ)) (places : List KeyPlace) → length keys ≡ length places → map key_place (numbered_keys first keys places) ≡ places
numbered-places first [] [] e = refl
numbered-places first [] (place ∷ places) e = absurd (omega (arith, e))
numbered-places first (bytes ∷ keys) [] e = absurd (omega (arith, e))
numbered-places first (bytes ∷ keys) (place ∷ places) e = ap (λ ps. place ∷ ps) (numbered-places (first + 1) keys places (omega (arith, e)))

key-next : (config : Config) (rounds : List Round) (ask : OfferAsk) (ports : List ℕ) (legs : List Holder) (keys : List NewKey) (section : ℕ) (side : Side) (suite : Suite) →
    AreDemandedLegs config rounds ask ports legs → map key_place keys ≡ new_keys rounds ask →
    or_else (key_among (filter (is_for section side) keys) suite) (key_kept rounds ask section side suite) ≡ leg_key (Offered ask legs keys ∷ rounds) section side suite
key-next config rounds ask ports legs keys section side suite l drawn =
    go (pairs_after rounds ask section) refl ∙ sym after
  where
    new : Option NewKey
    new = key_among (filter (is_for section side) keys) suite

    old : Option NewKey
    old = leg_key rounds section side suite

    after : leg_key (Offered ask legs keys ∷ rounds) section side suite
        ≡ (if pairs_after rounds ask section then or_else new (if leases (Offered ask legs keys) section then None else old) else None)
    after =
        key-offered ask legs keys rounds section side suite
        ∙ ap (λ (b : Bool). if b then or_else new (if leases (Offered ask legs keys) section then None else old) else None)
        (pairs-next config rounds ask ports legs keys section l)

    unused : (active committed : Bool) → (active || committed) ≡ false → active ≡ false
    unused true committed e = cc
    unused false committed e = refl

    stands : (b : Bool) → leases (Offered ask legs keys) section ≡ b → old ≡ (if b then None else old)
    stands true e = without-key rounds section side suite (leased-had config rounds ask ports legs keys section l e)
    stands false e = refl

    go : (b : Bool) → pairs_after rounds ask section ≡ b →
        or_else new (if pairs_after rounds ask section then old else None)
        ≡ (if pairs_after rounds ask section then or_else new (if leases (Offered ask legs keys) section then None else old) else None)
    go true e =
        ap (λ (b : Bool). or_else new (if b then old else None)) e
        ∙ ap (or_else new) (stands (leases (Offered ask legs keys) section) refl)
        ∙ sym (ap (λ (b : Bool). if b then or_else new (if leases (Offered ask legs keys) section then None else old) else None) e)
    go false e =
        ap (λ (b : Bool). or_else new (if b then old else None)) e
        ∙ ap (λ (o : Option NewKey). or_else o None) (drawn-active rounds ask keys section side suite drawn (unused (is_active_in ask.sdp section) (is_committed rounds section) e))
        ∙ sym (ap (λ (b : Bool). if b then or_else new (if leases (Offered ask legs keys) section then None else old) else None) e)

in_force-next : (config : Config) (rounds : List Round) (ask : OfferAsk) (ports : List ℕ) (legs : List Holder) (keys : List NewKey) (section : ℕ) (side : Side) →
    AreDemandedLegs config rounds ask ports legs → key_in_force (Offered ask legs keys ∷ rounds) section side ≡ key_in_force rounds section side
in_force-next config rounds ask ports legs keys section side l =
    in_force-offered ask legs keys rounds section side ∙ go (leases (Offered ask legs keys) section) refl
  where
    fresh : (b : Bool) → is_committed rounds section ≡ b → has_pairs rounds section ≡ false → b ≡ false
    fresh false e h = refl
    fresh true e h = absurd (true≢false (sym (committed-has rounds section e) ∙ h))

    go : (b : Bool) → leases (Offered ask legs keys) section ≡ b →
        (if not (leases (Offered ask legs keys) section) then key_in_force rounds section side else None) ≡ key_in_force rounds section side
    go true e =
        ap (λ (b : Bool). if not b then key_in_force rounds section side else None) e
        ∙ sym (without-key_in_force rounds section side (fresh (is_committed rounds section) refl (leased-had config rounds ask ports legs keys section l e)))
    go false e = ap (λ (b : Bool). if not b then key_in_force rounds section side else None) e

profile-next : (config : Config) (rounds : List Round) (ask : OfferAsk) (ports : List ℕ) (legs : List Holder) (keys : List NewKey) (section : ℕ) (side : Side) →
    AreDemandedLegs config rounds ask ports legs → profile_in_force (Offered ask legs keys ∷ rounds) section side ≡ profile_in_force rounds section side
profile-next config rounds ask ports legs keys section side l =
    ap (λ (b : Bool). if b then profile_in_force rounds section side else None) (committed-next config rounds ask ports legs keys section l)
    ∙ go (is_committed rounds section) refl
  where
    go : (b : Bool) → is_committed rounds section ≡ b → (if is_committed rounds section then profile_in_force rounds section side else None) ≡ profile_in_force rounds section side
    go true e = ap (λ (b : Bool). if b then profile_in_force rounds section side else None) e
    go false e = ap (λ (b : Bool). if b then profile_in_force rounds section side else None) e ∙ sym (without-profile rounds section side e)

family-is_next : (config : Config) (rounds : List Round) (ask : OfferAsk) (ports : List ℕ) (legs : List Holder) (keys : List NewKey) (section : ℕ) (side : Side) →
    AreDemandedLegs config rounds ask ports legs → leg_family (Offered ask legs keys ∷ rounds) section side ≡ family_next rounds ask section side
family-is_next config rounds ask ports legs keys section side l =
    family-offered ask legs keys rounds section side
    ∙ ap (λ (b : Bool). if leases (Offered ask legs keys) section then Some (new_family rounds ask section side) else if b then leg_family rounds section side else None)
    (pairs-next config rounds ask ports legs keys section l)
    ∙ go (leases (Offered ask legs keys) section) (pairs_after rounds ask section) refl refl
  where
    kept_on : (active had committed : Bool) → (committed ≡ true → had ≡ true) → (active && not had) ≡ false → (active || committed) ≡ true → had ≡ true
    kept_on true true committed h e f = refl
    kept_on true false committed h e f = cc
    kept_on false had true h e f = h refl
    kept_on false had false h e f = cc

    go : (b after : Bool) → leases (Offered ask legs keys) section ≡ b → pairs_after rounds ask section ≡ after →
        (if b then Some (new_family rounds ask section side) else if after then leg_family rounds section side else None)
        ≡ (if after then Some (family_after rounds ask section side) else None)
    go true true e f = ap Some (family-begins rounds ask section side (leased-had config rounds ask ports legs keys section l e))
    go true false e f =
        let stands : pairs_after rounds ask section ≡ true =
        sym (pairs-next config rounds ask ports legs keys section l) ∙ pairs-offered ask legs keys rounds section
        ∙ ap (λ (b : Bool). b || (has_pairs rounds section && not (not (is_active_in ask.sdp section) && not (is_committed rounds section)))) e in
        absurd (true≢false (sym stands ∙ f))
    go false true e f =
        family-stays rounds ask section side
        (kept_on (is_active_in ask.sdp section) (has_pairs rounds section) (is_committed rounds section) (committed-has rounds section)
        (sym (leases-new config rounds ask ports legs keys section l) ∙ e) f)
    go false false e f = refl

-- Once all ports and keys have come, a section is as after the offer.

pub section-filled : (config : Config) (rounds : List Round) (ask : OfferAsk) (ports : List ℕ) (legs : List Holder) (keys : List NewKey) (section : ℕ) (now : DialogSection) →
    SectionNext config rounds ask ports keys section now → map key_place keys ≡ new_keys rounds ask → AreDemandedLegs config rounds ask ports legs →
    SectionFor config (Offered ask legs keys ∷ rounds) section now
section-filled config rounds ask ports legs keys section now n drawn l = record {
  pairs_are = n.pairs_are ∙ sym (pairs-next config rounds ask ports legs keys section l);
  committed_is = n.committed_is ∙ sym (committed-next config rounds ask ports legs keys section l);
  legs_are = λ side. record {
    port_is = (n.legs_are side).port_is ∙ ap (λ (o : Option ℕ). unwrap_or o 0) (port-next config rounds ask ports legs keys section side l);
    family_is = (n.legs_are side).family_is ∙ sym (family-is_next config rounds ask ports legs keys section side l);
    offered_is = (n.legs_are side).offered_is;
    in_force_is = (n.legs_are side).in_force_is ∙ sym (profile-next config rounds ask ports legs keys section side l);
    keys_are = λ suite. (n.legs_are side).keys_are suite ∙ key-next config rounds ask ports legs keys section side suite l drawn;
    key_in_force_is = (n.legs_are side).key_in_force_is ∙ sym (in_force-next config rounds ask ports legs keys section side l);
  };
}

pub port-filled : (config : Config) (rounds : List Round) (ask : OfferAsk) (ports : List ℕ) (keys : List NewKey) (section : ℕ) (side : Side) (leg : Leg) →
    LegNext config rounds ask ports keys section side leg → is_active_in ask.sdp section ≡ true → leg.port ≡ port_after config rounds ask ports section side
port-filled config rounds ask ports keys section side leg n active =
    n.port_is
    ∙ ap (λ (b : Bool). unwrap_or (or_else (new_port (new_legs rounds ask) ports section side) (if b || is_committed rounds section then standing_port config rounds section side else None)) 0) active

pub family-filled : (config : Config) (rounds : List Round) (ask : OfferAsk) (ports : List ℕ) (keys : List NewKey) (section : ℕ) (side : Side) (leg : Leg) →
    LegNext config rounds ask ports keys section side leg → is_active_in ask.sdp section ≡ true → leg.family ≡ Some (family_after rounds ask section side)
family-filled config rounds ask ports keys section side leg n active =
    n.family_is ∙ ap (λ (b : Bool). if b || is_committed rounds section then Some (family_after rounds ask section side) else None) active

-- The dialog.

-- the first offer's tag stays, and before it the awaited one is that of this offer
pub tag-offered : (config : Config) (dialog : Dialog) (rounds : List Round) (ask : OfferAsk) (legs : List Holder) (keys : List NewKey) →
    DialogFor config dialog rounds → Awaits dialog ask.from_tag → Some dialog.first_tag.list ≡ first_tag (Offered ask legs keys ∷ rounds)
tag-offered config dialog rounds ask legs keys s awaits = go dialog.is_begun refl
  where
    known : (b : Bool) → dialog.is_begun ≡ b → (if b then Some dialog.first_tag.list else None) ≡ first_tag rounds
    known b e = subst (λ (b : Bool). (if b then Some dialog.first_tag.list else None) ≡ first_tag rounds) e s.first_tag_is

    go : (b : Bool) → dialog.is_begun ≡ b → Some dialog.first_tag.list ≡ or_else (first_tag rounds) (Some ask.from_tag)
    go true e = ap (λ o. or_else o (Some ask.from_tag)) (known true e)
    go false e = ap Some (awaits e) ∙ ap (λ o. or_else o (Some ask.from_tag)) (known false e)

-- a section that isn't kept has no profile in force
pub none-offered : (config : Config) (dialog : Dialog) (rounds : List Round) (ask : OfferAsk) (legs : List Holder) (keys : List NewKey) →
    DialogFor config dialog rounds → (section : ℕ) (side : Side) → most_sections ≤ section → profile_in_force (Offered ask legs keys ∷ rounds) section side ≡ None
none-offered config dialog rounds ask legs keys s section side past = go (is_committed (Offered ask legs keys ∷ rounds) section)
  where
    go : (b : Bool) → (if b then profile_in_force rounds section side else None) ≡ None
    go true = s.no_more section side past
    go false = refl
