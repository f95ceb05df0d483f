-- The legs of a section after an offer: as they are planned, with new ports and with new keys.
use Rattle.std.proofs.Common.{◌≡◌, ℕ, ◌+◌, ◌<◌, Bool, true, false, not, ◌&&◌, ◌||◌, ◌==◌, List, [], ◌∷◌, ◌++◌, length, Option, Some, None, refl, sym, ap, ◌∙◌, subst, if◌then◌else◌, filter, map, unwrap_or, option_map, drop, get_or, arith}
use Rattle.std.proofs.lemmas.List.{drop_more}
use Rattle.histories.specs.Words.{or_else}
use Rattle.relay_outside.specs.declared.address.Family.{Family}
use Rattle.relay_outside.specs.declared.address.Family.TheVariants.{V4}
use Rattle.relay_outside.specs.declared.settings.Config.{Config}
use Rattle.sdes_lines.specs.declared.crypto_line.Suite.{Suite}
use Rattle.sdes_lines.specs.declared.crypto_line.Suite.TheVariants.{Tag80, Tag32}
use Rattle.sdes_lines.specs.declared.crypto_line.CryptoLine.{CryptoLine}
use Rattle.sdp_text.specs.declared.proto.Proto.{Proto}
use Rattle.sdp_text.specs.declared.section.Section.{Section}
use Rattle.ng_command.specs.declared.command.Options.{Options}
use Rattle.port_pool.specs.declared.holder.Side.{Side}
use Rattle.port_pool.specs.declared.holder.Side.TheVariants.{A, B}
use Rattle.port_pool.specs.Signals.{NewKey, side_eq, suite_eq, other_side}
use Rattle.port_pool.specs.Ports.{pair_port}
use Rattle.offer_answer.specs.Rounds.{Round, Offered, OfferAsk, NewLeg}
use Rattle.offer_answer.specs.Sides.{offerer}
use Rattle.offer_answer.specs.Sections.{section_in, is_active, is_active_in, has_pairs, is_committed}
use Rattle.offer_answer.specs.Profiles.{is_srtp, profile_offered, written_profile}
use Rattle.offer_answer.specs.Keys.{is_for, leg_keys, key_among, leg_key, key_in_force, line_with, lines_of_keys, no_lines, offered_lines}
use Rattle.offer_answer.specs.Families.{family_by, new_family, leg_family, family_after}
use Rattle.offer_answer.specs.Demands.{new_legs}
use Rattle.offer_answer.specs.Texts.{new_port, standing_port}
use Rattle.offer_answer.specs.Dialogs.{drawn_for_leg, key_for, leg_at, no_leg}
use Rattle.offer_answer.specs.Offers.{OfferedFor, leg_asked, key_asked}
use Rattle.offer_answer.specs.Nexts.{numbered_keys, pairs_after, port_kept, family_next, key_kept, carrying, LegNext, MadeNext}
use Rattle.offer_answer.specs.declared.leg.DrawnKey.{DrawnKey}
use Rattle.offer_answer.specs.declared.leg.Leg.{Leg}
use Rattle.offer_answer.specs.declared.leg.DialogSection.{DialogSection}
use Rattle.offer_answer.specs.declared.last_offer.MadeSection.{MadeSection}
use Rattle.offer_answer.specs.declared.offered_section.OfferedSection.{OfferedSection}
use Rattle.offer_answer.proofs.Offering.{dropped-is}
use Rattle.offer_answer.proofs.Steps.{find-append}
use Rattle.offer_answer.proofs.Nexts.{committed-has, without-leg, without-key, without-profile, without-key_in_force, without-family, family-stays, family-begins}

-- As they are planned.

no-new-port : (news : List NewLeg) (section : ℕ) (side : Side) → new_port news [] section side ≡ None
no-new-port [] section side = refl
no-new-port (new ∷ news) section side = refl

dropped-parts : (h c a : Bool) → (h && not c && not a) ≡ true → (c ≡ false) × (a ≡ false)
dropped-parts true false false e = (refl, refl)
dropped-parts true false true e = cc
dropped-parts true true a e = cc
dropped-parts false c a e = cc

pub leg-dropped : (config : Config) (rounds : List Round) (ask : OfferAsk) (section : ℕ) (o : OfferedSection) (side : Side) (profile : Proto) →
    OfferedFor config rounds ask section o → Some profile ≡ profile_offered (Offered ask [] [] ∷ rounds) section side →
    (o.kept.has_pairs && not o.kept.is_committed && not (is_active o.section)) ≡ true →
    LegNext config rounds ask [] [] section side (record no_leg { offered = Some profile })
leg-dropped config rounds ask section o side profile f p dropped = record {
  port_is = sym (ap (λ o. unwrap_or o 0) (ap (λ o. or_else o (port_kept config rounds ask section side)) (no-new-port (new_legs rounds ask) section side) ∙ port_gone));
  family_is = sym (ap (λ (b : Bool). if b then Some (family_after rounds ask section side) else None) gone);
  offered_is = p;
  in_force_is = sym (without-profile rounds section side parts.0);
  keys_are = keys;
  key_in_force_is = sym (without-key_in_force rounds section side parts.0);
}
  where
    parts : (is_committed rounds section ≡ false) × (is_active_in ask.sdp section ≡ false)
    parts = dropped-parts (has_pairs rounds section) (is_committed rounds section) (is_active_in ask.sdp section) (sym (dropped-is config rounds ask section o f) ∙ dropped)

    gone : pairs_after rounds ask section ≡ false
    gone = rw (parts.0, parts.1) refl

    port_gone : port_kept config rounds ask section side ≡ None
    port_gone = ap (λ (b : Bool). if b then standing_port config rounds section side else None) gone

    key_gone : (suite : Suite) → key_kept rounds ask section side suite ≡ None
    key_gone suite = ap (λ (b : Bool). if b then leg_key rounds section side suite else None) gone

    keys : (suite : Suite) → option_map (drawn_for_leg section side) (key_for (record no_leg { offered = Some profile }) suite)
        ≡ or_else (key_among (filter (is_for section side) []) suite) (key_kept rounds ask section side suite)
    keys Tag80 = sym (key_gone Tag80)
    keys Tag32 = sym (key_gone Tag32)

-- the families of the legs that an offer doesn't drop
pub family-stands : (config : Config) (rounds : List Round) (ask : OfferAsk) (section : ℕ) (o : OfferedSection) (options : Options) (maker side : Side) →
    OfferedFor config rounds ask section o → options ≡ ask.options → maker ≡ offerer rounds ask →
    (o.kept.has_pairs && not o.kept.is_committed && not (is_active o.section)) ≡ false →
    (if is_active o.section && not o.kept.has_pairs then Some (family_by options o.section maker side) else (leg_at o.kept side).family) ≡ family_next rounds ask section side
family-stands config rounds ask section o options maker side f e m stands =
    ap (λ (x : Options). if is_active o.section && not o.kept.has_pairs then Some (family_by x o.section maker side) else (leg_at o.kept side).family) e
    ∙ ap (λ (x : Side). if is_active o.section && not o.kept.has_pairs then Some (family_by ask.options o.section x side) else (leg_at o.kept side).family) m
    ∙ ap (λ (x : Section). if is_active x && not o.kept.has_pairs then Some (family_by ask.options x (offerer rounds ask) side) else (leg_at o.kept side).family) f.section_is
    ∙ ap (λ (b : Bool). if is_active_in ask.sdp section && not b then Some (new_family rounds ask section side) else (leg_at o.kept side).family) f.kept_is.pairs_are
    ∙ ap (λ (x : Option Family). if is_active_in ask.sdp section && not (has_pairs rounds section) then Some (new_family rounds ask section side) else x) (f.kept_is.legs_are side).family_is
    ∙ go (is_active_in ask.sdp section) (has_pairs rounds section) (is_committed rounds section) refl (committed-has rounds section)
    (sym (dropped-is config rounds ask section o f) ∙ stands)
  where
    go : (active had committed : Bool) → has_pairs rounds section ≡ had → (committed ≡ true → had ≡ true) → (had && not committed && not active) ≡ false →
        (if active && not had then Some (new_family rounds ask section side) else leg_family rounds section side)
        ≡ (if active || committed then Some (family_after rounds ask section side) else None)
    go true true committed h c d = family-stays rounds ask section side h
    go true false committed h c d = ap Some (family-begins rounds ask section side h)
    go false true true h c d = family-stays rounds ask section side h
    go false true false h c d = cc
    go false false true h c d = let e : false ≡ true = c refl in cc
    go false false false h c d = without-family rounds section side h

pub leg-stands : (config : Config) (rounds : List Round) (ask : OfferAsk) (section : ℕ) (o : OfferedSection) (side : Side) (family : Option Family) (profile : Proto) →
    OfferedFor config rounds ask section o → family ≡ family_next rounds ask section side → Some profile ≡ profile_offered (Offered ask [] [] ∷ rounds) section side →
    (o.kept.has_pairs && not o.kept.is_committed && not (is_active o.section)) ≡ false →
    LegNext config rounds ask [] [] section side (record (leg_at o.kept side) { family = family; offered = Some profile })
leg-stands config rounds ask section o side family profile f fam p stands = record {
  port_is =
      (f.kept_is.legs_are side).port_is
      ∙ sym (ap (λ o. unwrap_or o 0) (ap (λ o. or_else o (port_kept config rounds ask section side)) (no-new-port (new_legs rounds ask) section side) ∙ port_stays));
  family_is = fam;
  offered_is = p;
  in_force_is = (f.kept_is.legs_are side).in_force_is;
  keys_are = keys;
  key_in_force_is = (f.kept_is.legs_are side).key_in_force_is;
}
  where
    without : (h c a : Bool) → (h && not c && not a) ≡ false → (a || c) ≡ false → h ≡ false
    without false c a e g = refl
    without true false false e g = cc
    without true true a e g = last a g
      where
        last : (a : Bool) → (a || true) ≡ false → true ≡ false
        last true g = g
        last false g = g
    without true false true e g = cc

    bare : pairs_after rounds ask section ≡ false → has_pairs rounds section ≡ false
    bare e = without (has_pairs rounds section) (is_committed rounds section) (is_active_in ask.sdp section) (sym (dropped-is config rounds ask section o f) ∙ stands) e

    port_by : (b : Bool) → pairs_after rounds ask section ≡ b → port_kept config rounds ask section side ≡ standing_port config rounds section side
    port_by true e = ap (λ (b : Bool). if b then standing_port config rounds section side else None) e
    port_by false e =
        ap (λ (b : Bool). if b then standing_port config rounds section side else None) e
        ∙ sym (ap (option_map (λ leg. pair_port config leg.pair)) (without-leg rounds section side (bare e)))

    port_stays : port_kept config rounds ask section side ≡ standing_port config rounds section side
    port_stays = port_by (pairs_after rounds ask section) refl

    key_by : (suite : Suite) (b : Bool) → pairs_after rounds ask section ≡ b → key_kept rounds ask section side suite ≡ leg_key rounds section side suite
    key_by suite true e = ap (λ (b : Bool). if b then leg_key rounds section side suite else None) e
    key_by suite false e = ap (λ (b : Bool). if b then leg_key rounds section side suite else None) e ∙ sym (without-key rounds section side suite (bare e))

    key_stays : (suite : Suite) → key_kept rounds ask section side suite ≡ leg_key rounds section side suite
    key_stays suite = key_by suite (pairs_after rounds ask section) refl

    keys : (suite : Suite) → option_map (drawn_for_leg section side) (key_for (record (leg_at o.kept side) { family = family; offered = Some profile }) suite)
        ≡ or_else (key_among (filter (is_for section side) []) suite) (key_kept rounds ask section side suite)
    keys Tag80 = (f.kept_is.legs_are side).keys_are Tag80 ∙ sym (key_stays Tag80)
    keys Tag32 = (f.kept_is.legs_are side).keys_are Tag32 ∙ sym (key_stays Tag32)

-- a section has what its two legs have
pub two-sides : (config : Config) (rounds : List Round) (ask : OfferAsk) (ports : List ℕ) (keys : List NewKey) (section : ℕ) (now : DialogSection) →
    LegNext config rounds ask ports keys section A now.a → LegNext config rounds ask ports keys section B now.b →
    (side : Side) → LegNext config rounds ask ports keys section side (leg_at now side)
two-sides config rounds ask ports keys section now a b A = a
two-sides config rounds ask ports keys section now a b B = b

-- the other side has the profile that is written to it
pub written-over : (rounds : List Round) (ask : OfferAsk) (section : ℕ) (side : Side) (profile : Proto) →
    Some profile ≡ profile_offered (Offered ask [] [] ∷ rounds) section side → side ≡ other_side (offerer rounds ask) → profile ≡ written_profile rounds ask section
written-over rounds ask section side profile p s = go (offerer rounds ask) refl
  where
    over : Some profile ≡ profile_offered (Offered ask [] [] ∷ rounds) section (other_side (offerer rounds ask))
    over = p ∙ ap (profile_offered (Offered ask [] [] ∷ rounds) section) s

    apart : (maker : Side) → side_eq (other_side maker) maker ≡ false
    apart A = refl
    apart B = refl

    go : (maker : Side) → offerer rounds ask ≡ maker → profile ≡ written_profile rounds ask section
    go maker e =
        let same : Some profile ≡ Some (written_profile rounds ask section) =
        over ∙ ap (λ (b : Bool). Some (if b then (section_in ask.sdp section).proto else written_profile rounds ask section)) (apart (offerer rounds ask)) in
        cc

-- With new ports.

default-twice : (n k : Option ℕ) → unwrap_or n (unwrap_or k 0) ≡ unwrap_or (or_else n k) 0
default-twice None k = refl
default-twice (Some x) k = refl

pub leg-leased : (config : Config) (rounds : List Round) (ask : OfferAsk) (ports : List ℕ) (keys : List NewKey) (section : ℕ) (side : Side) (leg : Leg) →
    LegNext config rounds ask [] keys section side leg →
    LegNext config rounds ask ports keys section side (record leg { port = unwrap_or (new_port (new_legs rounds ask) ports section side) leg.port })
leg-leased config rounds ask ports keys section side leg n = record {
  port_is =
      ap (unwrap_or (new_port (new_legs rounds ask) ports section side))
      (n.port_is ∙ ap (λ o. unwrap_or (or_else o (port_kept config rounds ask section side)) 0) (no-new-port (new_legs rounds ask) section side))
      ∙ default-twice (new_port (new_legs rounds ask) ports section side) (port_kept config rounds ask section side);
  family_is = n.family_is;
  offered_is = n.offered_is;
  in_force_is = n.in_force_is;
  keys_are = keys_stay;
  key_in_force_is = n.key_in_force_is;
}
  where
    keys_stay : (suite : Suite) →
        option_map (drawn_for_leg section side) (key_for (record leg { port = unwrap_or (new_port (new_legs rounds ask) ports section side) leg.port }) suite)
        ≡ or_else (key_among (filter (is_for section side) keys) suite) (key_kept rounds ask section side suite)
    keys_stay Tag80 = n.keys_are Tag80
    keys_stay Tag32 = n.keys_are Tag32

pub leg-ported : (config : Config) (rounds : List Round) (ask : OfferAsk) (news : List NewLeg) (ports : List ℕ) (keys : List NewKey) (section : ℕ) (side : Side) (leg now : Leg) (port : Option ℕ) →
    news ≡ new_legs rounds ask → LegNext config rounds ask [] keys section side leg → port ≡ new_port news ports section side → now ≡ record leg { port = unwrap_or port leg.port } →
    LegNext config rounds ask ports keys section side now
leg-ported config rounds ask news ports keys section side leg now port l n p e =
    subst (LegNext config rounds ask ports keys section side)
    (sym (e ∙ ap (λ (o : Option ℕ). record leg { port = unwrap_or o leg.port }) (p ∙ ap (λ ls. new_port ls ports section side) l)))
    (leg-leased config rounds ask ports keys section side leg n)

-- With new keys.

map-else : {X Y : Type 0} (f : X → Y) (n k : Option X) → option_map f (or_else n k) ≡ or_else (option_map f n) (option_map f k)
map-else f None k = refl
map-else f (Some x) k = refl

pub leg-drawn : (config : Config) (rounds : List Round) (ask : OfferAsk) (ports : List ℕ) (keys : List NewKey) (section : ℕ) (side : Side) (leg : Leg) (long short : Option DrawnKey) →
    LegNext config rounds ask ports [] section side leg →
    option_map (drawn_for_leg section side) long ≡ key_among (filter (is_for section side) keys) Tag80 →
    option_map (drawn_for_leg section side) short ≡ key_among (filter (is_for section side) keys) Tag32 →
    LegNext config rounds ask ports keys section side (record leg { long_key = or_else long leg.long_key; short_key = or_else short leg.short_key })
leg-drawn config rounds ask ports keys section side leg long short n l s = record {
  port_is = n.port_is;
  family_is = n.family_is;
  offered_is = n.offered_is;
  in_force_is = n.in_force_is;
  keys_are = drawn;
  key_in_force_is = n.key_in_force_is;
}
  where
    either : (new old : Option DrawnKey) (suite : Suite) → option_map (drawn_for_leg section side) new ≡ key_among (filter (is_for section side) keys) suite →
        option_map (drawn_for_leg section side) old ≡ key_kept rounds ask section side suite →
        option_map (drawn_for_leg section side) (or_else new old) ≡ or_else (key_among (filter (is_for section side) keys) suite) (key_kept rounds ask section side suite)
    either new old suite e f =
        map-else (drawn_for_leg section side) new old ∙ ap (λ o. or_else o (option_map (drawn_for_leg section side) old)) e
        ∙ ap (or_else (key_among (filter (is_for section side) keys) suite)) f

    drawn : (suite : Suite) →
        option_map (drawn_for_leg section side) (key_for (record leg { long_key = or_else long leg.long_key; short_key = or_else short leg.short_key }) suite)
        ≡ or_else (key_among (filter (is_for section side) keys) suite) (key_kept rounds ask section side suite)
    drawn Tag80 = either long leg.long_key Tag80 l (n.keys_are Tag80)
    drawn Tag32 = either short leg.short_key Tag32 s (n.keys_are Tag32)

pub leg-keyed : (config : Config) (rounds : List Round) (ask : OfferAsk) (ports : List ℕ) (keys : List NewKey) (section : ℕ) (side : Side) (leg : Leg)
    (long short new_long new_short : Option DrawnKey) → LegNext config rounds ask ports [] section side leg →
    option_map (drawn_for_leg section side) long ≡ key_among (filter (is_for section side) keys) Tag80 →
    option_map (drawn_for_leg section side) short ≡ key_among (filter (is_for section side) keys) Tag32 →
    new_long ≡ or_else long leg.long_key → new_short ≡ or_else short leg.short_key →
    LegNext config rounds ask ports keys section side (record leg { long_key = new_long; short_key = new_short })
leg-keyed config rounds ask ports keys section side leg long short new_long new_short n l s e f =
    subst (λ (o : Option DrawnKey). LegNext config rounds ask ports keys section side (record leg { long_key = o; short_key = new_short })) (sym e)
    (subst (λ (o : Option DrawnKey). LegNext config rounds ask ports keys section side (record leg { long_key = or_else long leg.long_key; short_key = o })) (sym f)
    (leg-drawn config rounds ask ports keys section side leg long short n l s))

-- Looking a port up.

-- what is found among the legs from a place on
abbrev pub port_left : List (ℕ × Side × Family) → List ℕ → ℕ → ℕ → Side → Option ℕ
port_left legs ports i section side = new_port (map leg_asked (drop i legs)) (drop i ports) section side

port-step : (leg : ℕ × Side × Family) (legs : List (ℕ × Side × Family)) (port : ℕ) (ports : List ℕ) (section : ℕ) (side : Side) (b : Bool) →
    (leg.0 == section && side_eq leg.1 side) ≡ b →
    new_port (map leg_asked (leg ∷ legs)) (port ∷ ports) section side ≡ (if b then Some port else new_port (map leg_asked legs) ports section side)
port-step leg legs port ports section side true e = rw e refl
port-step leg legs port ports section side false e = rw e refl

pub port-turn : (legs : List (ℕ × Side × Family)) (ports : List ℕ) (i section : ℕ) (side : Side) (b : Bool) → i < length legs → length legs ≡ length ports →
    ((get_or legs i (0, A, V4)).0 == section && side_eq (get_or legs i (0, A, V4)).1 side) ≡ b →
    port_left legs ports i section side ≡ (if b then Some (get_or ports i 0) else port_left legs ports (i + 1) section side)
port-turn legs ports i section side b below same e =
    ap (λ ls. new_port (map leg_asked ls) (drop i ports) section side) (drop_more legs i (0, A, V4) below)
    ∙ ap (λ ps. new_port (map leg_asked (get_or legs i (0, A, V4) ∷ drop (i + 1) legs)) ps section side) (drop_more ports i 0 (omega (arith, below, same)))
    ∙ port-step (get_or legs i (0, A, V4)) (drop (i + 1) legs) (get_or ports i 0) (drop (i + 1) ports) section side b e

-- Looking a key up.

abbrev pub key_left : List (ℕ × Side × Suite) → ℕ → List (List ℕ) → ℕ → ℕ → Side → Suite → Option NewKey
key_left places first keys i section side suite =
    key_among (filter (is_for section side) (numbered_keys (first + i) (drop i keys) (map key_asked (drop i places)))) suite

key-step : (place : ℕ × Side × Suite) (places : List (ℕ × Side × Suite)) (number : ℕ) (bytes : List ℕ) (keys : List (List ℕ)) (section : ℕ) (side : Side) (suite : Suite) (b : Bool) →
    ((place.0 == section && side_eq place.1 side) && suite_eq place.2 suite) ≡ b →
    key_among (filter (is_for section side) (numbered_keys number (bytes ∷ keys) (map key_asked (place ∷ places)))) suite
    ≡ (if b then Some (record { number = number; section = place.0; side = place.1; suite = place.2; bytes = bytes })
    else key_among (filter (is_for section side) (numbered_keys (number + 1) keys (map key_asked places))) suite)
key-step place places number bytes keys section side suite b e = go (place.0 == section && side_eq place.1 side) (suite_eq place.2 suite) b refl refl e
  where
    go : (f s b : Bool) → (place.0 == section && side_eq place.1 side) ≡ f → suite_eq place.2 suite ≡ s →
        ((place.0 == section && side_eq place.1 side) && suite_eq place.2 suite) ≡ b →
        key_among (filter (is_for section side) (numbered_keys number (bytes ∷ keys) (map key_asked (place ∷ places)))) suite
        ≡ (if b then Some (record { number = number; section = place.0; side = place.1; suite = place.2; bytes = bytes })
        else key_among (filter (is_for section side) (numbered_keys (number + 1) keys (map key_asked places))) suite)
    go true true b p q e = rw (sym e, p, q) refl
    go true false b p q e = rw (sym e, p, q) refl
    go false s b p q e = rw (sym e, p) refl

pub key-turn : (places : List (ℕ × Side × Suite)) (first : ℕ) (keys : List (List ℕ)) (i section : ℕ) (side : Side) (suite : Suite) (b : Bool) →
    i < length places → length places ≡ length keys →
    (((get_or places i (0, A, Tag80)).0 == section && side_eq (get_or places i (0, A, Tag80)).1 side) && suite_eq (get_or places i (0, A, Tag80)).2 suite) ≡ b →
    key_left places first keys i section side suite
    ≡ (if b
    then Some (record { number = first + i; section = (get_or places i (0, A, Tag80)).0; side = (get_or places i (0, A, Tag80)).1; suite = (get_or places i (0, A, Tag80)).2; bytes = get_or keys i [] })
    else key_left places first keys (i + 1) section side suite)
key-turn places first keys i section side suite b below same e =
    ap (λ ps. key_among (filter (is_for section side) (numbered_keys (first + i) (drop i keys) (map key_asked ps))) suite) (drop_more places i (0, A, Tag80) below)
    ∙ ap (λ ks. key_among (filter (is_for section side) (numbered_keys (first + i) ks (map key_asked (get_or places i (0, A, Tag80) ∷ drop (i + 1) places)))) suite)
    (drop_more keys i [] (omega (arith, below, same)))
    ∙ key-step (get_or places i (0, A, Tag80)) (drop (i + 1) places) (first + i) (get_or keys i []) (drop (i + 1) keys) section side suite b e
    ∙ ap (λ n. if b
    then Some (record { number = first + i; section = (get_or places i (0, A, Tag80)).0; side = (get_or places i (0, A, Tag80)).1; suite = (get_or places i (0, A, Tag80)).2; bytes = get_or keys i [] })
    else key_among (filter (is_for section side) (numbered_keys n (drop (i + 1) keys) (map key_asked (drop (i + 1) places)))) suite) (omega arith)

-- The lines that the other side is offered.

abbrev lines_if : Bool → List Round → OfferAsk → List NewKey → ℕ → List (Option CryptoLine)
lines_if b rounds ask keys section =
    if b
    then lines_of_keys (key_in_force rounds section (other_side (offerer rounds ask)))
    (filter (is_for section (other_side (offerer rounds ask))) keys ++ leg_keys rounds section (other_side (offerer rounds ask)))
    else no_lines

pub used-both : (a s : Bool) (made : MadeSection) → a ≡ is_active made.section → s ≡ is_srtp made.written → a ≡ true → s ≡ true →
    (is_active made.section && is_srtp made.written) ≡ true
used-both a s made e f p q = rw (sym e, sym f, p, q) refl

pub lines-unused : (rounds : List Round) (ask : OfferAsk) (keys : List NewKey) (section : ℕ) (made : MadeSection) → MadeNext rounds ask section made →
    (is_active made.section && is_srtp made.written) ≡ false → no_lines ≡ offered_lines rounds ask keys section
lines-unused rounds ask keys section made m e =
    let unused : (is_active_in ask.sdp section && is_srtp (written_profile rounds ask section)) ≡ false =
    sym (ap (λ s. is_active s && is_srtp made.written) m.section_is ∙ ap (λ p. is_active_in ask.sdp section && is_srtp p) m.written_is) ∙ e in
    sym (ap (λ b. lines_if b rounds ask keys section) unused)

lines-used : (rounds : List Round) (ask : OfferAsk) (keys : List NewKey) (section : ℕ) (made : MadeSection) → MadeNext rounds ask section made →
    (is_active made.section && is_srtp made.written) ≡ true → offered_lines rounds ask keys section ≡ lines_if true rounds ask keys section
lines-used rounds ask keys section made m e =
    let used : (is_active_in ask.sdp section && is_srtp (written_profile rounds ask section)) ≡ true =
    sym (ap (λ s. is_active s && is_srtp made.written) m.section_is ∙ ap (λ p. is_active_in ask.sdp section && is_srtp p) m.written_is) ∙ e in
    ap (λ b. lines_if b rounds ask keys section) used

pub lines-in_force : (config : Config) (rounds : List Round) (ask : OfferAsk) (ports : List ℕ) (keys : List NewKey) (section : ℕ) (made : MadeSection) (leg : Leg) (key : DrawnKey) →
    MadeNext rounds ask section made → LegNext config rounds ask ports keys section (other_side (offerer rounds ask)) leg →
    (is_active made.section && is_srtp made.written) ≡ true → leg.key_in_force ≡ Some key →
    Some (carrying 1 key) ∷ None ∷ [] ≡ offered_lines rounds ask keys section
lines-in_force config rounds ask ports keys section made leg key m n e k =
    sym (lines-used rounds ask keys section made m e
    ∙ ap (λ o. lines_of_keys o (filter (is_for section (other_side (offerer rounds ask))) keys ++ leg_keys rounds section (other_side (offerer rounds ask))))
    (sym n.key_in_force_is ∙ ap (option_map (drawn_for_leg section (other_side (offerer rounds ask)))) k))

line-carried : (tag : ℕ) (section : ℕ) (side : Side) (key : Option DrawnKey) → option_map (carrying tag) key ≡ option_map (line_with tag) (option_map (drawn_for_leg section side) key)
line-carried tag section side None = refl
line-carried tag section side (Some key) = refl

pub lines-both : (config : Config) (rounds : List Round) (ask : OfferAsk) (ports : List ℕ) (keys : List NewKey) (section : ℕ) (made : MadeSection) (leg : Leg) →
    MadeNext rounds ask section made → LegNext config rounds ask ports keys section (other_side (offerer rounds ask)) leg →
    (is_active made.section && is_srtp made.written) ≡ true → leg.key_in_force ≡ None →
    option_map (carrying 1) leg.long_key ∷ option_map (carrying 2) leg.short_key ∷ [] ≡ offered_lines rounds ask keys section
lines-both config rounds ask ports keys section made leg m n e k =
    ap (λ o. o ∷ option_map (carrying 2) leg.short_key ∷ []) (line 1 Tag80 leg.long_key (n.keys_are Tag80))
    ∙ ap (λ o. option_map (line_with 1) (key_among all_keys Tag80) ∷ o ∷ []) (line 2 Tag32 leg.short_key (n.keys_are Tag32))
    ∙ sym (lines-used rounds ask keys section made m e ∙ ap (λ o. lines_of_keys o all_keys) (sym n.key_in_force_is ∙ ap (option_map (drawn_for_leg section side)) k))
  where
    side : Side
    side = other_side (offerer rounds ask)

    all_keys : List NewKey
    all_keys = filter (is_for section side) keys ++ leg_keys rounds section side

    used : (a s : Bool) → (a && s) ≡ true → a ≡ true
    used true s u = refl
    used false s u = cc

    active : is_active_in ask.sdp section ≡ true
    active = sym (ap is_active m.section_is) ∙ used (is_active made.section) (is_srtp made.written) e

    stays : (suite : Suite) → key_kept rounds ask section side suite ≡ leg_key rounds section side suite
    stays suite = ap (λ (b : Bool). if b || is_committed rounds section then leg_key rounds section side suite else None) active

    line : (tag : ℕ) (suite : Suite) (key : Option DrawnKey) →
        option_map (drawn_for_leg section side) key ≡ or_else (key_among (filter (is_for section side) keys) suite) (key_kept rounds ask section side suite) →
        option_map (carrying tag) key ≡ option_map (line_with tag) (key_among all_keys suite)
    line tag suite key is =
        line-carried tag section side key
        ∙ ap (option_map (line_with tag))
        (is ∙ ap (or_else (key_among (filter (is_for section side) keys) suite)) (stays suite)
        ∙ sym (find-append (λ (k : NewKey). suite_eq k.suite suite) (filter (is_for section side) keys) (leg_keys rounds section side)))
