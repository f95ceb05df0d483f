-- Rounds of which a dialog keeps the same stay so by one more.
use Rattle.std.proofs.Common.{◌≡◌, ◌∙◌, refl, sym, ap, inl, inr, ℕ, ◌<◌, ◌≤◌, Bool, true, false, not, ◌&&◌, ◌||◌, ◌==◌, List, [], ◌∷◌, ◌++◌, Option, Some, None, unwrap_or, option_map, find, filter, if◌then◌else◌}
use Rattle.std.proofs.lemmas.Bool.{cases_lt}
use Rattle.std.specs.Str.{bytes_eq}
use Rattle.histories.specs.Words.{or_else}
use Rattle.relay_outside.specs.declared.address.Family.{Family}
use Rattle.relay_outside.specs.declared.settings.Config.{Config}
use Rattle.sdes_lines.specs.declared.crypto_line.Suite.{Suite}
use Rattle.sdes_lines.specs.declared.crypto_line.Suite.TheVariants.{Tag80, Tag32}
use Rattle.sdes_lines.specs.declared.crypto_line.CryptoLine.{CryptoLine}
use Rattle.sdp_text.specs.declared.proto.Proto.{Proto}
use Rattle.port_pool.specs.declared.holder.Side.{Side}
use Rattle.port_pool.specs.declared.holder.Side.TheVariants.{A, B}
use Rattle.port_pool.specs.declared.holder.Holder.{Holder}
use Rattle.port_pool.specs.Ports.{pair_port}
use Rattle.port_pool.specs.Signals.{NewKey, side_eq, suite_eq, other_side}
use Rattle.offer_answer.specs.Rounds.{Round, Offered, Answered, OfferAsk, AnswerAsk}
use Rattle.offer_answer.specs.Sides.{MadeOffer, last_offer, is_settled, answering_tag, offerer, maker, offered_sdp}
use Rattle.offer_answer.specs.Sections.{most_sections, section_count, section_in, is_active_in, leases, has_pairs, is_committed, leg_of}
use Rattle.offer_answer.specs.Profiles.{is_srtp, is_srtp_leg, profile_offered, profile_in_force, profile_over, written_profile}
use Rattle.offer_answer.specs.Keys.{chosen_in, chosen_by, is_for, leg_keys, key_among, leg_key, committed_line, committed_key, key_in_force, line_with, lines_of_keys, no_lines, offered_lines}
use Rattle.offer_answer.specs.Signals.{is_rejected_by}
use Rattle.offer_answer.specs.Families.{family_by, new_family, leg_family}
use Rattle.offer_answer.specs.Texts.{standing_port}
use Rattle.offer_answer.specs.Plan.{OfferRead}
use Rattle.offer_answer.specs.LastOffers.{OfferKept}
use Rattle.offer_answer.specs.Dialogs.{DialogFor}
use Rattle.offer_answer.specs.declared.last_offer.LastOffer.{LastOffer}
use Rattle.offer_answer.specs.declared.dialog.Dialog.{Dialog}
use Rattle.offer_answer.proofs.Steps.{pairs-offered, committed-offered, leg-offered, key-offered, in_force-offered, profile-offered, pairs-answered, committed-answered, leg-answered, key-answered, in_force-answered, profile-answered, family-offered, family-answered, find-append}
use Rattle.offer_answer.proofs.Alike.{AlikeLegs, AlikeSections, AlikeMade, AlikeOffers, AlikeLast, Alike, active_alike, inactive_beyond, count_alike}

-- the offer of the round has no more sections than are kept, and its crypto lines are the chosen ones
abbrev pub MayKeep : Round → Type 0
MayKeep (Offered ask legs keys) = (section_count ask.sdp ≤ most_sections) × OfferRead ask
MayKeep (Answered ask) = Unit {0}

-- What an offer asks.

pub offerer_alike : (rounds others : List Round) (ask : OfferAsk) → answering_tag rounds ≡ answering_tag others → offerer rounds ask ≡ offerer others ask
offerer_alike rounds others ask same =
    ap (λ (o : Option (List ℕ)). if (elim o [ None ↦ false | Some own ↦ bytes_eq own ask.from_tag ]) then B else A) same

-- the profile in force on a leg, also of a section that isn't kept
pub in_force_alike : (config : Config) (rounds others : List Round) (section : ℕ) (side : Side) → Alike config rounds others → profile_in_force rounds section side ≡ profile_in_force others section side
in_force_alike config rounds others section side s = elim (cases_lt section most_sections) [
  | inl below ↦ ((s.sections_are section below).legs_are side).in_force_is
  | inr past ↦ s.no_more section side past ∙ sym (s.none_more section side past)
]

pub written_next : (config : Config) (rounds others : List Round) (ask : OfferAsk) (section : ℕ) → Alike config rounds others → written_profile rounds ask section ≡ written_profile others ask section
written_next config rounds others ask section s =
    ap (λ (side : Side). profile_over (profile_in_force rounds section (other_side side)) ask section) (offerer_alike rounds others ask s.answering_tag_is)
    ∙ ap (λ (p : Option Proto). profile_over p ask section) (in_force_alike config rounds others section (other_side (offerer others ask)) s)

lines_alike : (k l : Option NewKey) (keys more : List NewKey) → k ≡ l → key_among keys Tag80 ≡ key_among more Tag80 → key_among keys Tag32 ≡ key_among more Tag32 →
    lines_of_keys k keys ≡ lines_of_keys l more
lines_alike k l keys more same long short = ap (λ (o : Option NewKey). lines_of_keys o keys) same ∙ go l
  where
    go : (o : Option NewKey) → lines_of_keys o keys ≡ lines_of_keys o more
    go (Some key) = refl
    go None =
        ap (λ (o : Option NewKey). option_map (line_with 1) o ∷ option_map (line_with 2) (key_among keys Tag32) ∷ []) long
        ∙ ap (λ (o : Option NewKey). option_map (line_with 1) (key_among more Tag80) ∷ option_map (line_with 2) o ∷ []) short

among_alike : (config : Config) (rounds others : List Round) (keys : List NewKey) (section : ℕ) (side : Side) (suite : Suite) → AlikeLegs config rounds others section side →
    key_among (filter (is_for section side) keys ++ leg_keys rounds section side) suite ≡ key_among (filter (is_for section side) keys ++ leg_keys others section side) suite
among_alike config rounds others keys section side suite s =
    find-append (λ key. suite_eq key.suite suite) (filter (is_for section side) keys) (leg_keys rounds section side)
    ∙ ap (or_else (key_among (filter (is_for section side) keys) suite)) (s.keys_are suite)
    ∙ sym (find-append (λ key. suite_eq key.suite suite) (filter (is_for section side) keys) (leg_keys others section side))

-- the lines that one side would be offered
abbrev lines_for : List Round → OfferAsk → List NewKey → ℕ → Side → List (Option CryptoLine)
lines_for rounds ask keys section side =
    if is_active_in ask.sdp section && is_srtp (written_profile rounds ask section)
    then lines_of_keys (key_in_force rounds section side) (filter (is_for section side) keys ++ leg_keys rounds section side)
    else no_lines

pub lines_next : (config : Config) (rounds others : List Round) (ask : OfferAsk) (keys : List NewKey) (section : ℕ) → Alike config rounds others → section < most_sections →
    offered_lines rounds ask keys section ≡ offered_lines others ask keys section
lines_next config rounds others ask keys section s below =
    ap (λ (side : Side). lines_for rounds ask keys section (other_side side)) (offerer_alike rounds others ask s.answering_tag_is)
    ∙ ap (λ (p : Proto). if is_active_in ask.sdp section && is_srtp p then lines_of_keys (key_in_force rounds section side) (filter (is_for section side) keys ++ leg_keys rounds section side) else no_lines)
    (written_next config rounds others ask section s)
    ∙ ap (λ (ls : List (Option CryptoLine)). if is_active_in ask.sdp section && is_srtp (written_profile others ask section) then ls else no_lines)
    (lines_alike (key_in_force rounds section side) (key_in_force others section side) (filter (is_for section side) keys ++ leg_keys rounds section side)
    (filter (is_for section side) keys ++ leg_keys others section side) leg.key_in_force_is
    (among_alike config rounds others keys section side Tag80 leg) (among_alike config rounds others keys section side Tag32 leg))
  where
    side : Side
    side = other_side (offerer others ask)

    leg : AlikeLegs config rounds others section side
    leg = (s.sections_are section below).legs_are side

-- The legs of a section after an offer.

port_cases : (config : Config) (found one two : Option Holder) (leased has : Bool) →
    unwrap_or (option_map (λ (leg : Holder). pair_port config leg.pair) one) 0 ≡ unwrap_or (option_map (λ (leg : Holder). pair_port config leg.pair) two) 0 →
    unwrap_or (option_map (λ (leg : Holder). pair_port config leg.pair) (if leased then found else if has then one else None)) 0
    ≡ unwrap_or (option_map (λ (leg : Holder). pair_port config leg.pair) (if leased then found else if has then two else None)) 0
port_cases config found one two true has same = refl
port_cases config found one two false true same = same
port_cases config found one two false false same = refl

module _ (config : Config) (rounds others : List Round) (ask : OfferAsk) (legs : List Holder) (keys : List NewKey) (section : ℕ) where
  pairs_after_offer : AlikeSections config rounds others section → has_pairs (Offered ask legs keys ∷ rounds) section ≡ has_pairs (Offered ask legs keys ∷ others) section
  pairs_after_offer s =
      pairs-offered ask legs keys rounds section
      ∙ ap (λ (b : Bool). leases (Offered ask legs keys) section || (b && not (not (is_active_in ask.sdp section) && not (is_committed rounds section)))) s.pairs_are
      ∙ ap (λ (b : Bool). leases (Offered ask legs keys) section || (has_pairs others section && not (not (is_active_in ask.sdp section) && not b))) s.committed_is
      ∙ sym (pairs-offered ask legs keys others section)

  committed_after_offer : AlikeSections config rounds others section → is_committed (Offered ask legs keys ∷ rounds) section ≡ is_committed (Offered ask legs keys ∷ others) section
  committed_after_offer s =
      committed-offered ask legs keys rounds section
      ∙ ap (λ (b : Bool). not (leases (Offered ask legs keys) section) && b) s.committed_is
      ∙ sym (committed-offered ask legs keys others section)

  port_after_offer : (side : Side) → AlikeSections config rounds others section →
      unwrap_or (standing_port config (Offered ask legs keys ∷ rounds) section side) 0 ≡ unwrap_or (standing_port config (Offered ask legs keys ∷ others) section side) 0
  port_after_offer side s =
      let port = λ (o : Option Holder). unwrap_or (option_map (λ (leg : Holder). pair_port config leg.pair) o) 0 in
      let found : Option Holder = find (λ (leg : Holder). leg.section == section && side_eq leg.side side) legs in
      ap port (leg-offered ask legs keys rounds section side)
      ∙ ap (λ (b : Bool). port (if leases (Offered ask legs keys) section then found else if b then leg_of rounds section side else None)) (pairs_after_offer s)
      ∙ port_cases config found (leg_of rounds section side) (leg_of others section side) (leases (Offered ask legs keys) section) (has_pairs (Offered ask legs keys ∷ others) section)
      (s.legs_are side).port_is
      ∙ sym (ap port (leg-offered ask legs keys others section side))

  key_after_offer : (side : Side) (suite : Suite) → AlikeSections config rounds others section →
      leg_key (Offered ask legs keys ∷ rounds) section side suite ≡ leg_key (Offered ask legs keys ∷ others) section side suite
  key_after_offer side suite s =
      let new : Option NewKey = key_among (filter (is_for section side) keys) suite in
      key-offered ask legs keys rounds section side suite
      ∙ ap (λ (b : Bool). if b then or_else new (if leases (Offered ask legs keys) section then None else leg_key rounds section side suite) else None) (pairs_after_offer s)
      ∙ ap (λ (o : Option NewKey). if has_pairs (Offered ask legs keys ∷ others) section then or_else new (if leases (Offered ask legs keys) section then None else o) else None)
      ((s.legs_are side).keys_are suite)
      ∙ sym (key-offered ask legs keys others section side suite)

  key_in_force_after_offer : (side : Side) → AlikeSections config rounds others section →
      key_in_force (Offered ask legs keys ∷ rounds) section side ≡ key_in_force (Offered ask legs keys ∷ others) section side
  key_in_force_after_offer side s =
      in_force-offered ask legs keys rounds section side
      ∙ ap (λ (o : Option NewKey). if not (leases (Offered ask legs keys) section) then o else None) (s.legs_are side).key_in_force_is
      ∙ sym (in_force-offered ask legs keys others section side)

  profile_after_offer : (side : Side) → AlikeSections config rounds others section →
      profile_in_force (Offered ask legs keys ∷ rounds) section side ≡ profile_in_force (Offered ask legs keys ∷ others) section side
  profile_after_offer side s =
      profile-offered ask legs keys rounds section side
      ∙ ap (λ (b : Bool). if not (leases (Offered ask legs keys) section) && b then profile_in_force rounds section side else None) s.committed_is
      ∙ ap (λ (p : Option Proto). if not (leases (Offered ask legs keys) section) && is_committed others section then p else None) (s.legs_are side).in_force_is
      ∙ sym (profile-offered ask legs keys others section side)

  offered_after_offer : (side : Side) → offerer rounds ask ≡ offerer others ask → AlikeSections config rounds others section →
      profile_offered (Offered ask legs keys ∷ rounds) section side ≡ profile_offered (Offered ask legs keys ∷ others) section side
  offered_after_offer side same s =
      ap (λ (by : Side). Some (if side_eq side by then (section_in ask.sdp section).proto else profile_over (profile_in_force rounds section side) ask section)) same
      ∙ ap (λ (p : Option Proto). Some (if side_eq side (offerer others ask) then (section_in ask.sdp section).proto else profile_over p ask section)) (s.legs_are side).in_force_is

  family_after_offer : (side : Side) → offerer rounds ask ≡ offerer others ask → AlikeSections config rounds others section →
      leg_family (Offered ask legs keys ∷ rounds) section side ≡ leg_family (Offered ask legs keys ∷ others) section side
  family_after_offer side same s =
      family-offered ask legs keys rounds section side
      ∙ ap (λ (by : Side). if leases (Offered ask legs keys) section then Some (family_by ask.options (section_in ask.sdp section) by side)
      else if has_pairs (Offered ask legs keys ∷ rounds) section then leg_family rounds section side else None) same
      ∙ ap (λ (b : Bool). if leases (Offered ask legs keys) section then Some (new_family others ask section side) else if b then leg_family rounds section side else None) (pairs_after_offer s)
      ∙ ap (λ (o : Option Family). if leases (Offered ask legs keys) section then Some (new_family others ask section side)
      else if has_pairs (Offered ask legs keys ∷ others) section then o else None) (s.legs_are side).family_is
      ∙ sym (family-offered ask legs keys others section side)

  leg_after_offer : (side : Side) → offerer rounds ask ≡ offerer others ask → AlikeSections config rounds others section →
      AlikeLegs config (Offered ask legs keys ∷ rounds) (Offered ask legs keys ∷ others) section side
  leg_after_offer side same s = record {
    port_is = port_after_offer side s;
    family_is = family_after_offer side same s;
    offered_is = offered_after_offer side same s;
    in_force_is = profile_after_offer side s;
    keys_are = λ suite. key_after_offer side suite s;
    key_in_force_is = key_in_force_after_offer side s;
  }

  section_after_offer : offerer rounds ask ≡ offerer others ask → AlikeSections config rounds others section →
      AlikeSections config (Offered ask legs keys ∷ rounds) (Offered ask legs keys ∷ others) section
  section_after_offer same s = record {
    pairs_are = pairs_after_offer s;
    committed_is = committed_after_offer s;
    legs_are = λ side. leg_after_offer side same s;
  }

made_by_offer : (config : Config) (rounds others : List Round) (ask : OfferAsk) (keys : List NewKey) (section : ℕ) → Alike config rounds others → section < most_sections →
    AlikeMade (record { ask = ask; keys = keys; before = rounds }) (record { ask = ask; keys = keys; before = others }) section
made_by_offer config rounds others ask keys section s below = record {
  section_is = refl;
  line_is = refl;
  written_is = written_next config rounds others ask section s;
  lines_are = lines_next config rounds others ask keys section s below;
}

-- past the sections that are kept no profile comes in force
none_after_offer : (rounds : List Round) (ask : OfferAsk) (legs : List Holder) (keys : List NewKey) (section : ℕ) (side : Side) → profile_in_force rounds section side ≡ None →
    profile_in_force (Offered ask legs keys ∷ rounds) section side ≡ None
none_after_offer rounds ask legs keys section side none = go (is_committed (Offered ask legs keys ∷ rounds) section)
  where
    go : (b : Bool) → (if b then profile_in_force rounds section side else None) ≡ None
    go true = none
    go false = refl

alike_after_offer : (config : Config) (rounds others : List Round) (ask : OfferAsk) (legs : List Holder) (keys : List NewKey) → Alike config rounds others →
    section_count ask.sdp ≤ most_sections → OfferRead ask → Alike config (Offered ask legs keys ∷ rounds) (Offered ask legs keys ∷ others)
alike_after_offer config rounds others ask legs keys s few heard = record {
  begun_is = refl;
  first_tag_is = ap (λ (o : Option (List ℕ)). or_else o (Some ask.from_tag)) s.first_tag_is;
  answering_tag_is = s.answering_tag_is;
  has_answer_is = s.has_answer_is;
  is_settled_is = s.has_answer_is;
  committed_count_is = s.committed_count_is;
  offer_is = record {
    from_tag_is = refl;
    maker_is = offerer_alike rounds others ask s.answering_tag_is;
    options_are = refl;
    count_is = refl;
    few = few;
    heard = heard;
    sections_are = λ section below. made_by_offer config rounds others ask keys section s below;
  };
  sections_are = λ section below. section_after_offer config rounds others ask legs keys section (offerer_alike rounds others ask s.answering_tag_is) (s.sections_are section below);
  no_more = λ section side past. none_after_offer rounds ask legs keys section side (s.no_more section side past);
  none_more = λ section side past. none_after_offer others ask legs keys section side (s.none_more section side past);
}

-- What an answer commits.

pub rejected_alike : (config : Config) (rounds others : List Round) (ask : AnswerAsk) (section : ℕ) → AlikeLast (last_offer rounds) (last_offer others) → AlikeSections config rounds others section →
    is_rejected_by rounds ask section ≡ is_rejected_by others ask section
rejected_alike config rounds others ask section last s =
    ap (λ (b : Bool). not (b && is_active_in ask.sdp section && has_pairs rounds section)) (active_alike (last_offer rounds) (last_offer others) section last)
    ∙ ap (λ (b : Bool). not (is_active_in (offered_sdp others) section && is_active_in ask.sdp section && b)) s.pairs_are

pub rejected_past : (rounds : List Round) (ask : AnswerAsk) (section : ℕ) → is_active_in (offered_sdp rounds) section ≡ false → is_rejected_by rounds ask section ≡ true
rejected_past rounds ask section out = ap (λ (b : Bool). not (b && is_active_in ask.sdp section && has_pairs rounds section)) out

chosen_alike : (offer other : MadeOffer) (ask : AnswerAsk) (section : ℕ) (side : Side) → AlikeOffers offer other → section < most_sections →
    chosen_by offer ask section side ≡ chosen_by other ask section side
chosen_alike offer other ask section side s below =
    ap (λ (by : Side). if side_eq side by then chosen_in offer.ask.chosen section else chosen_in ask.chosen section) s.maker_is
    ∙ ap (λ (line : Option CryptoLine). if side_eq side (maker other) then line else chosen_in ask.chosen section) (s.sections_are section below).line_is

abbrev line_of : Option MadeOffer → AnswerAsk → ℕ → Side → Option Proto → Option CryptoLine
line_of offer ask section side profile = elim offer [ None ↦ None | Some made ↦ if is_srtp_leg profile then chosen_by made ask section side else None ]

line_cases : (offer other : Option MadeOffer) (ask : AnswerAsk) (section : ℕ) (side : Side) (profile : Option Proto) → AlikeLast offer other → section < most_sections →
    line_of offer ask section side profile ≡ line_of other ask section side profile
line_cases None None ask section side profile s below = refl
line_cases None (Some other) ask section side profile s below = elim s [ ]
line_cases (Some offer) None ask section side profile s below = elim s [ ]
line_cases (Some offer) (Some other) ask section side profile s below =
    ap (λ (line : Option CryptoLine). if is_srtp_leg profile then line else None) (chosen_alike offer other ask section side s below)

pub line_alike : (config : Config) (rounds others : List Round) (ask : AnswerAsk) (section : ℕ) (side : Side) → AlikeLast (last_offer rounds) (last_offer others) →
    AlikeLegs config rounds others section side → section < most_sections → committed_line rounds ask section side ≡ committed_line others ask section side
line_alike config rounds others ask section side last s below =
    ap (λ (p : Option Proto). line_of (last_offer rounds) ask section side p) s.offered_is
    ∙ line_cases (last_offer rounds) (last_offer others) ask section side (profile_offered others section side) last below

pub committed_alike : (config : Config) (rounds others : List Round) (ask : AnswerAsk) (section : ℕ) (side : Side) → AlikeLast (last_offer rounds) (last_offer others) →
    AlikeLegs config rounds others section side → section < most_sections → committed_key rounds ask section side ≡ committed_key others ask section side
committed_alike config rounds others ask section side last s below =
    ap (λ (o : Option CryptoLine). elim o [ None ↦ None | Some line ↦ leg_key rounds section side line.suite ]) (line_alike config rounds others ask section side last s below)
    ∙ go (committed_line others ask section side)
  where
    go : (o : Option CryptoLine) →
        elim o as (λ _. Option NewKey) [ None ↦ None | Some line ↦ leg_key rounds section side line.suite ] ≡ elim o as (λ _. Option NewKey) [ None ↦ None | Some line ↦ leg_key others section side line.suite ]
    go None = refl
    go (Some line) = s.keys_are line.suite

if_alike : {X : Type 0} (a b : Bool) (x y : Option X) → a ≡ b → x ≡ y → (if a then x else None) ≡ (if b then y else None)
if_alike {X} a b x y p q = ap (λ (c : Bool). if c then x else None) p ∙ ap (λ (o : Option X). if b then o else None) q

module _ (config : Config) (rounds others : List Round) (ask : AnswerAsk) (section : ℕ) (last : AlikeLast (last_offer rounds) (last_offer others)) (below : section < most_sections)
    (s : AlikeSections config rounds others section) where
  pairs_after_answer : has_pairs (Answered ask ∷ rounds) section ≡ has_pairs (Answered ask ∷ others) section
  pairs_after_answer =
      pairs-answered ask rounds section ∙ ap not (rejected_alike config rounds others ask section last s) ∙ sym (pairs-answered ask others section)

  committed_after_answer : is_committed (Answered ask ∷ rounds) section ≡ is_committed (Answered ask ∷ others) section
  committed_after_answer = committed-answered ask rounds section ∙ pairs_after_answer ∙ sym (committed-answered ask others section)

  port_after_answer : (side : Side) → unwrap_or (standing_port config (Answered ask ∷ rounds) section side) 0 ≡ unwrap_or (standing_port config (Answered ask ∷ others) section side) 0
  port_after_answer side =
      let port = λ (o : Option Holder). unwrap_or (option_map (λ (leg : Holder). pair_port config leg.pair) o) 0 in
      ap port (leg-answered ask rounds section side)
      ∙ ap (λ (b : Bool). port (if b then leg_of rounds section side else None)) pairs_after_answer
      ∙ port_cases config None (leg_of rounds section side) (leg_of others section side) false (has_pairs (Answered ask ∷ others) section) (s.legs_are side).port_is
      ∙ sym (ap port (leg-answered ask others section side))

  leg_after_answer : (side : Side) → AlikeLegs config (Answered ask ∷ rounds) (Answered ask ∷ others) section side
  leg_after_answer side = record {
    port_is = port_after_answer side;
    family_is =
        family-answered ask rounds section side
        ∙ if_alike (has_pairs (Answered ask ∷ rounds) section) (has_pairs (Answered ask ∷ others) section) (leg_family rounds section side) (leg_family others section side)
        pairs_after_answer (s.legs_are side).family_is
        ∙ sym (family-answered ask others section side);
    offered_is = (s.legs_are side).offered_is;
    in_force_is =
        profile-answered ask rounds section side
        ∙ if_alike (has_pairs (Answered ask ∷ rounds) section) (has_pairs (Answered ask ∷ others) section) (profile_offered rounds section side) (profile_offered others section side)
        pairs_after_answer (s.legs_are side).offered_is
        ∙ sym (profile-answered ask others section side);
    keys_are = λ suite.
        key-answered ask rounds section side suite
        ∙ if_alike (has_pairs (Answered ask ∷ rounds) section) (has_pairs (Answered ask ∷ others) section) (leg_key rounds section side suite) (leg_key others section side suite)
        pairs_after_answer ((s.legs_are side).keys_are suite)
        ∙ sym (key-answered ask others section side suite);
    key_in_force_is =
        in_force-answered ask rounds section side
        ∙ if_alike (has_pairs (Answered ask ∷ rounds) section) (has_pairs (Answered ask ∷ others) section) (committed_key rounds ask section side) (committed_key others ask section side)
        pairs_after_answer (committed_alike config rounds others ask section side last (s.legs_are side) below)
        ∙ sym (in_force-answered ask others section side);
  }

  section_after_answer : AlikeSections config (Answered ask ∷ rounds) (Answered ask ∷ others) section
  section_after_answer = record {
    pairs_are = pairs_after_answer;
    committed_is = committed_after_answer;
    legs_are = leg_after_answer;
  }

none_after_answer : (rounds : List Round) (ask : AnswerAsk) (section : ℕ) (side : Side) → is_active_in (offered_sdp rounds) section ≡ false →
    profile_in_force (Answered ask ∷ rounds) section side ≡ None
none_after_answer rounds ask section side out =
    profile-answered ask rounds section side
    ∙ ap (λ (b : Bool). if b then profile_offered rounds section side else None) (pairs-answered ask rounds section ∙ ap not (rejected_past rounds ask section out))

answerer_alike : (a b : Bool) (x y : Option (List ℕ)) (tag : List ℕ) → a ≡ b → x ≡ y → (if a then x else Some tag) ≡ (if b then y else Some tag)
answerer_alike a b x y tag p q = ap (λ (c : Bool). if c then x else Some tag) p ∙ ap (λ (o : Option (List ℕ)). if b then o else Some tag) q

alike_after_answer : (config : Config) (rounds others : List Round) (ask : AnswerAsk) → Alike config rounds others → Alike config (Answered ask ∷ rounds) (Answered ask ∷ others)
alike_after_answer config rounds others ask s = record {
  begun_is = refl;
  first_tag_is = s.first_tag_is;
  answering_tag_is = answerer_alike (is_settled rounds) (is_settled others) (answering_tag rounds) (answering_tag others) ask.to_tag s.is_settled_is s.answering_tag_is;
  has_answer_is = refl;
  is_settled_is = s.is_settled_is;
  committed_count_is = count_alike (last_offer rounds) (last_offer others) s.offer_is;
  offer_is = s.offer_is;
  sections_are = λ section below. section_after_answer config rounds others ask section s.offer_is below (s.sections_are section below);
  no_more = λ section side past.
      none_after_answer rounds ask section side
      (active_alike (last_offer rounds) (last_offer others) section s.offer_is ∙ inactive_beyond (last_offer rounds) (last_offer others) section s.offer_is past);
  none_more = λ section side past. none_after_answer others ask section side (inactive_beyond (last_offer rounds) (last_offer others) section s.offer_is past);
}

-- One more round.

pub alike_goes_on : (config : Config) (rounds others : List Round) (round : Round) → Alike config rounds others → MayKeep round → Alike config (round ∷ rounds) (round ∷ others)
alike_goes_on config rounds others (Offered ask legs keys) s may = alike_after_offer config rounds others ask legs keys s may.0 may.1
alike_goes_on config rounds others (Answered ask) s may = alike_after_answer config rounds others ask s

-- a dialog stands for rounds that may be kept
pub may_keep : (config : Config) (dialog : Dialog) (rounds : List Round) (round : Round) → DialogFor config dialog (round ∷ rounds) → MayKeep round
may_keep config dialog rounds (Offered ask legs keys) d = go dialog.last_offer d.offer_is
  where
    go : (last : Option LastOffer) → OfferKept (Some (record { ask = ask; keys = keys; before = rounds })) last → MayKeep (Offered ask legs keys)
    go None k = elim k [ ]
    go (Some last) k = (k.few, k.heard)
may_keep config dialog rounds (Answered ask) d = tt
