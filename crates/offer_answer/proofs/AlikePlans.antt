-- Rounds of which a dialog keeps the same have the same plans.
use Rattle.std.proofs.Common.{◌≡◌, ◌∙◌, refl, sym, ap, subst, inl, inr, ℕ, ◌<◌, ◌≤◌, Bool, true, false, not, ◌&&◌, ◌||◌, ◌==◌, List, [], ◌∷◌, ◌++◌, Option, Some, None, is_none, nat_lt, unwrap_or, option_map, option_and_then, map, filter, flat_map, cond, if◌then◌else◌, arith}
use Rattle.std.specs.List.{list_any}
use Rattle.std.proofs.lemmas.Bool.{cases_lt}
use Rattle.std.specs.Str.{bytes_eq}
use Rattle.histories.specs.Words.{In, here, there, or_else, numbers}
use Rattle.relay_outside.specs.declared.address.Family.{Family}
use Rattle.relay_outside.specs.declared.settings.Config.{Config}
use Rattle.sdes_lines.specs.declared.crypto_line.Suite.{Suite}
use Rattle.sdes_lines.specs.declared.crypto_line.Suite.TheVariants.{Tag80, Tag32}
use Rattle.sdes_lines.specs.declared.crypto_line.CryptoLine.{CryptoLine}
use Rattle.sdp_text.specs.Lines.{lines_of}
use Rattle.sdp_text.specs.declared.proto.Proto.{Proto}
use Rattle.sdp_text.specs.declared.section.Section.{Section}
use Rattle.sdp_edit.specs.declared.edits.SectionEdit.{SectionEdit}
use Rattle.sdp_edit.specs.ChosenLines.{IsOffered, IsFirstOf, section_lines}
use Rattle.sdp_edit.specs.EditedText.{edited}
use Rattle.ng_command.specs.declared.command.Options.{Options}
use Rattle.ng_reply.specs.declared.code.ErrorCode.{ErrorCode}
use Rattle.ng_reply.specs.declared.code.ErrorCode.TheVariants.{E8, E10, E11, E12, E20}
use Rattle.port_pool.specs.declared.holder.Side.{Side}
use Rattle.port_pool.specs.declared.holder.Side.TheVariants.{A, B}
use Rattle.port_pool.specs.declared.signal.LegSignal.{LegSignal}
use Rattle.port_pool.specs.declared.signal.SectionSignal.{SectionSignal}
use Rattle.port_pool.specs.declared.signal.SectionSignal.TheVariants.{Commit, Reject}
use Rattle.port_pool.specs.Signals.{NewKey, side_eq, other_side}
use Rattle.offer_answer.specs.Rounds.{Round, OfferAsk, AnswerAsk, NewLeg, KeyPlace}
use Rattle.offer_answer.specs.Sides.{MadeOffer, is_begun, is_settled, is_tag_of, is_some_sides, last_offer, offerer, maker}
use Rattle.offer_answer.specs.Sections.{most_sections, section_count, section_in, all_sections, active_sections, is_active_in, has_pairs, is_committed, committed_count}
use Rattle.offer_answer.specs.Profiles.{is_srtp, written_profile}
use Rattle.offer_answer.specs.Keys.{chosen_in, leg_key, key_in_force, key_place_of, missing_keys, offerers_suites, others_suites, section_keys, line_with, no_lines, offered_lines, committed_line, committed_key}
use Rattle.offer_answer.specs.Demands.{legs_for, new_active_sections, new_legs, new_keys, is_dropped, dropped_sections}
use Rattle.offer_answer.specs.Faults.{lacks_line, misfits_offerer, may_answer, misfits_answerer, takes_no_line, fault_of_answer_to}
use Rattle.offer_answer.specs.Families.{family_by, new_family, leg_family, family_after, misfits}
use Rattle.offer_answer.specs.Mux.{mux_taken, mux_back}
use Rattle.offer_answer.specs.Signals.{is_rejected_by, leg_signal, side_signal, section_signal, answer_signal}
use Rattle.offer_answer.specs.Texts.{edit_with, written_host, standing_port, new_port, offered_port, offer_section, answered_port, answering_line, answered_lines, answered_mux, answer_section}
use Rattle.offer_answer.specs.Plan.{offer_fault, demand, answer_fault, signal, offer_text, answer_text, tag, is_side, protocol, AnswerRead}
use Rattle.offer_answer.proofs.Numbers.{in-numbers, in-filter}
use Rattle.offer_answer.proofs.Written.{map-alike, section-is}
use Rattle.offer_answer.proofs.Alike.{AlikeLegs, AlikeSections, AlikeOffers, AlikeLast, Alike, section_alike, inactive_past, inactive_beyond, active_alike}
use Rattle.offer_answer.proofs.AlikeNext.{offerer_alike, in_force_alike, written_next, lines_next, rejected_alike, rejected_past, line_alike, committed_alike}

-- Lists.

filter_case : {X : Type 0} (p q : X → Bool) (x : X) (xs : List X) → p x ≡ q x → filter p xs ≡ filter q xs → filter p (x ∷ xs) ≡ filter q (x ∷ xs)
filter_case p q x xs same more = ap (λ (b : Bool). cond b (x ∷ filter p xs) (filter p xs)) same ∙ ap (λ ys. cond (q x) (x ∷ ys) ys) more

filter_alike : {X : Type 0} (p q : X → Bool) (xs : List X) → ((x : X) → In x xs → p x ≡ q x) → filter p xs ≡ filter q xs
filter_alike p q [] same = refl
filter_alike p q (x ∷ xs) same = filter_case p q x xs (same x (here refl)) (filter_alike p q xs (λ y i. same y (there i)))

flat_alike : {X Y : Type 0} (f g : X → List Y) (xs : List X) → ((x : X) → In x xs → f x ≡ g x) → flat_map f xs ≡ flat_map g xs
flat_alike f g [] same = refl
flat_alike f g (x ∷ xs) same = ap (λ ys. ys ++ flat_map f xs) (same x (here refl)) ∙ ap (λ ys. g x ++ ys) (flat_alike f g xs (λ y i. same y (there i)))

any_alike : {X : Type 0} (p q : X → Bool) (xs : List X) → ((x : X) → p x ≡ q x) → list_any p xs ≡ list_any q xs
any_alike p q [] same = refl
any_alike p q (x ∷ xs) same = ap (λ b. b || list_any p xs) (same x) ∙ ap (λ b. q x || b) (any_alike p q xs same)

any_in : {X : Type 0} (p q : X → Bool) (xs : List X) → ((x : X) → In x xs → p x ≡ q x) → list_any p xs ≡ list_any q xs
any_in p q [] same = refl
any_in p q (x ∷ xs) same = ap (λ b. b || list_any p xs) (same x (here refl)) ∙ ap (λ b. q x || b) (any_in p q xs (λ y i. same y (there i)))

active_below : (sdp : List ℕ) (section : ℕ) → In section (active_sections sdp) → section_count sdp ≤ most_sections → section < most_sections
active_below sdp section i few =
    let below = (in-numbers 0 (section_count sdp) section (in-filter (is_active_in sdp) (all_sections sdp) section i)).1 in omega (arith, below, few)

-- Tags and profiles.

pub tag_alike : (config : Config) (rounds others : List Round) (side : Side) → Alike config rounds others → tag rounds side ≡ tag others side
unfolding tag
tag_alike config rounds others A s = s.first_tag_is
tag_alike config rounds others B s = s.answering_tag_is

sides_alike : (config : Config) (rounds others : List Round) (tag : List ℕ) → Alike config rounds others → is_some_sides rounds tag ≡ is_some_sides others tag
sides_alike config rounds others tag s =
    ap (λ (o : Option (List ℕ)). (elim o [ None ↦ false | Some own ↦ bytes_eq own tag ]) || is_tag_of rounds B tag) s.first_tag_is
    ∙ ap (λ (o : Option (List ℕ)). is_tag_of others A tag || (elim o [ None ↦ false | Some own ↦ bytes_eq own tag ])) s.answering_tag_is

pub side_alike : (config : Config) (rounds others : List Round) (tag : List ℕ) → Alike config rounds others → is_side rounds tag ≡ is_side others tag
unfolding is_side
side_alike config rounds others tag s = sides_alike config rounds others tag s

pub protocol_alike : (config : Config) (rounds others : List Round) (section : ℕ) (side : Side) → Alike config rounds others → protocol rounds section side ≡ protocol others section side
unfolding protocol
protocol_alike config rounds others section side s = in_force_alike config rounds others section side s

-- Offers.

misfits_alike : (config : Config) (rounds others : List Round) (ask : OfferAsk) (section : ℕ) → Alike config rounds others → section < most_sections →
    misfits_offerer rounds ask section ≡ misfits_offerer others ask section
misfits_alike config rounds others ask section s below =
    ap (λ (side : Side). misfits (leg_family rounds section side) ask.options (section_in ask.sdp section)) (offerer_alike rounds others ask s.answering_tag_is)
    ∙ ap (λ (family : Option Family). misfits family ask.options (section_in ask.sdp section)) ((s.sections_are section below).legs_are (offerer others ask)).family_is

pub offer_fault_alike : (config : Config) (rounds others : List Round) (ask : OfferAsk) → Alike config rounds others → section_count ask.sdp ≤ most_sections →
    offer_fault rounds ask ≡ offer_fault others ask
unfolding offer_fault
offer_fault_alike config rounds others ask s few =
    ap (λ (b : Bool). fault (b && not (is_some_sides rounds ask.from_tag)) (committed_count rounds) (list_any (misfits_offerer rounds ask) (active_sections ask.sdp))) s.begun_is
    ∙ ap (λ (b : Bool). fault (is_begun others && not b) (committed_count rounds) (list_any (misfits_offerer rounds ask) (active_sections ask.sdp))) (sides_alike config rounds others ask.from_tag s)
    ∙ ap (λ (n : ℕ). fault (is_begun others && not (is_some_sides others ask.from_tag)) n (list_any (misfits_offerer rounds ask) (active_sections ask.sdp))) s.committed_count_is
    ∙ ap (fault (is_begun others && not (is_some_sides others ask.from_tag)) (committed_count others))
    (any_in (misfits_offerer rounds ask) (misfits_offerer others ask) (active_sections ask.sdp) (λ section i. misfits_alike config rounds others ask section s (active_below ask.sdp section i few)))
  where
    fault : Bool → ℕ → Bool → Option ErrorCode
    fault strangers committed misfit =
        if strangers then Some E10
        else if nat_lt (section_count ask.sdp) committed then Some E12
        else if misfit then Some E20
        else if list_any (lacks_line ask) (active_sections ask.sdp) then Some E8
        else None

module _ (config : Config) (rounds others : List Round) (ask : OfferAsk) (s : Alike config rounds others) (few : section_count ask.sdp ≤ most_sections) where
  side_is : offerer rounds ask ≡ offerer others ask
  side_is = offerer_alike rounds others ask s.answering_tag_is

  section_is : (section : ℕ) → In section (active_sections ask.sdp) → AlikeSections config rounds others section
  section_is section i = s.sections_are section (active_below ask.sdp section i few)

  legs_alike : new_legs rounds ask ≡ new_legs others ask
  legs_alike =
      ap (λ (side : Side). flat_map (λ section. leg_by side section (other_side side) ∷ leg_by side section side ∷ []) (new_active_sections rounds ask)) side_is
      ∙ ap (flat_map (legs_for others ask))
      (filter_alike (λ section. not (has_pairs rounds section)) (λ section. not (has_pairs others section)) (active_sections ask.sdp)
      (λ section i. ap not (section_is section i).pairs_are))
    where
      leg_by : Side → ℕ → Side → NewLeg
      leg_by maker section side = record { section = section; side = side; family = family_by ask.options (section_in ask.sdp section) maker side }

  missing_alike : (section : ℕ) (side : Side) (suites : List Suite) → AlikeSections config rounds others section →
      missing_keys rounds section side suites ≡ missing_keys others section side suites
  missing_alike section side suites a =
      ap (map (key_place_of section side))
      (filter_alike (λ suite. is_none (leg_key rounds section side suite)) (λ suite. is_none (leg_key others section side suite)) suites
      (λ suite i. ap is_none ((a.legs_are side).keys_are suite)))

  suites_alike : (section : ℕ) → AlikeSections config rounds others section → others_suites rounds ask section ≡ others_suites others ask section
  suites_alike section a =
      ap (λ (p : Proto). if is_srtp p && is_none (key_in_force rounds section (other_side (offerer rounds ask))) then Tag80 ∷ Tag32 ∷ [] else []) (written_next config rounds others ask section s)
      ∙ ap (λ (side : Side). if is_srtp (written_profile others ask section) && is_none (key_in_force rounds section (other_side side)) then Tag80 ∷ Tag32 ∷ [] else []) side_is
      ∙ ap (λ (o : Option NewKey). if is_srtp (written_profile others ask section) && is_none o then Tag80 ∷ Tag32 ∷ [] else []) (a.legs_are (other_side (offerer others ask))).key_in_force_is

  keys_alike_in : (section : ℕ) → AlikeSections config rounds others section → section_keys rounds ask section ≡ section_keys others ask section
  keys_alike_in section a =
      ap (λ (side : Side). missing_keys rounds section side (offerers_suites ask section) ++ missing_keys rounds section (other_side side) (others_suites rounds ask section)) side_is
      ∙ ap (λ (suites : List Suite). missing_keys rounds section (offerer others ask) (offerers_suites ask section) ++ missing_keys rounds section (other_side (offerer others ask)) suites)
      (suites_alike section a)
      ∙ ap (λ (places : List KeyPlace). places ++ missing_keys rounds section (other_side (offerer others ask)) (others_suites others ask section))
      (missing_alike section (offerer others ask) (offerers_suites ask section) a)
      ∙ ap (λ (places : List KeyPlace). missing_keys others section (offerer others ask) (offerers_suites ask section) ++ places)
      (missing_alike section (other_side (offerer others ask)) (others_suites others ask section) a)

  keys_alike : new_keys rounds ask ≡ new_keys others ask
  keys_alike = flat_alike (section_keys rounds ask) (section_keys others ask) (active_sections ask.sdp) (λ section i. keys_alike_in section (section_is section i))

  dropped_alike : dropped_sections rounds ask ≡ dropped_sections others ask
  dropped_alike =
      filter_alike (is_dropped rounds ask) (is_dropped others ask) (numbers 0 most_sections)
      (λ section i.
      let below : section < most_sections = omega (arith, (in-numbers 0 most_sections section i).1) in
      let a = s.sections_are section below in
      ap (λ (b : Bool). b && not (is_committed rounds section) && not (is_active_in ask.sdp section)) a.pairs_are
      ∙ ap (λ (b : Bool). has_pairs others section && not b && not (is_active_in ask.sdp section)) a.committed_is)

  pub demand_alike : demand rounds ask ≡ demand others ask
  unfolding demand
  demand_alike = λ i. record { pairs = legs_alike i; keys = keys_alike i; dropped = dropped_alike i }

  port_alike : (ports : List ℕ) (section : ℕ) → AlikeSections config rounds others section → offered_port config rounds ask ports section ≡ offered_port config others ask ports section
  port_alike ports section a =
      ap (λ (side : Side). if is_active_in ask.sdp section
      then unwrap_or (or_else (new_port (new_legs rounds ask) ports section (other_side side)) (standing_port config rounds section (other_side side))) 0 else 0) side_is
      ∙ ap (λ (legs : List NewLeg). if is_active_in ask.sdp section
      then unwrap_or (or_else (new_port legs ports section (other_side (offerer others ask))) (standing_port config rounds section (other_side (offerer others ask)))) 0 else 0) legs_alike
      ∙ ap (λ (n : ℕ). if is_active_in ask.sdp section then n else 0)
      (first_or (new_port (new_legs others ask) ports section (other_side (offerer others ask))) (standing_port config rounds section (other_side (offerer others ask)))
      (standing_port config others section (other_side (offerer others ask))) (a.legs_are (other_side (offerer others ask))).port_is)
    where
      first_or : (n k l : Option ℕ) → unwrap_or k 0 ≡ unwrap_or l 0 → unwrap_or (or_else n k) 0 ≡ unwrap_or (or_else n l) 0
      first_or None k l same = same
      first_or (Some x) k l same = refl

  host_alike : (ports : List ℕ) (section : ℕ) → AlikeSections config rounds others section →
      written_host config (offered_port config rounds ask ports section) (Some (family_after rounds ask section (other_side (offerer rounds ask))))
      ≡ written_host config (offered_port config others ask ports section) (Some (family_after others ask section (other_side (offerer others ask))))
  host_alike ports section a =
      ap (λ (port : ℕ). written_host config port (Some (family_after rounds ask section (other_side (offerer rounds ask))))) (port_alike ports section a)
      ∙ ap (λ (side : Side). written_host config (offered_port config others ask ports section)
      (Some (unwrap_or (leg_family rounds section (other_side side)) (family_by ask.options (section_in ask.sdp section) side (other_side side))))) side_is
      ∙ ap (λ (family : Option Family). written_host config (offered_port config others ask ports section)
      (Some (unwrap_or family (new_family others ask section (other_side (offerer others ask)))))) (a.legs_are (other_side (offerer others ask))).family_is

  section_text : (ports : List ℕ) (keys : List NewKey) (section : ℕ) → section < most_sections →
      offer_section config rounds ask ports keys section ≡ offer_section config others ask ports keys section
  section_text ports keys section below =
      section-is (port_alike ports section (s.sections_are section below)) (written_next config rounds others ask section s) (host_alike ports section (s.sections_are section below))
      (lines_next config rounds others ask keys section s below) refl

  pub offer_text_alike : (ports : List ℕ) (keys : List NewKey) → offer_text config rounds ask ports keys ≡ offer_text config others ask ports keys
  unfolding offer_text
  offer_text_alike ports keys =
      ap (λ (sections : List SectionEdit). edited (lines_of ask.sdp) (edit_with config ask.options sections))
      (map-alike (offer_section config rounds ask ports keys) (offer_section config others ask ports keys) (section_count ask.sdp)
      (λ section below. section_text ports keys section (omega (arith, below, few))))

-- Answers.

may_alike : (config : Config) (rounds others : List Round) (ask : AnswerAsk) → Alike config rounds others → may_answer rounds ask ≡ may_answer others ask
may_alike config rounds others ask s =
    ap (λ (b : Bool). if bytes_eq ask.to_tag ask.from_tag then false else if b then is_some_sides rounds ask.to_tag else true) s.is_settled_is
    ∙ ap (λ (b : Bool). if bytes_eq ask.to_tag ask.from_tag then false else if is_settled others then b else true) (sides_alike config rounds others ask.to_tag s)

takes_alike : (offer other : MadeOffer) (ask : AnswerAsk) (section : ℕ) → AlikeOffers offer other → takes_no_line offer ask section ≡ takes_no_line other ask section
takes_alike offer other ask section s =
    ap (λ (b : Bool). b && is_active_in ask.sdp section && is_srtp (written_profile offer.before offer.ask section) && is_none (chosen_in ask.chosen section))
    (active_alike (Some offer) (Some other) section s)
    ∙ elim (cases_lt section most_sections) [
      | inl below ↦ ap (λ (p : Proto). is_active_in other.ask.sdp section && is_active_in ask.sdp section && is_srtp p && is_none (chosen_in ask.chosen section)) (s.sections_are section below).written_is
      | inr past ↦
          let out = inactive_past other.ask.sdp section s.few past in
          ap (λ (b : Bool). b && is_active_in ask.sdp section && is_srtp (written_profile offer.before offer.ask section) && is_none (chosen_in ask.chosen section)) out
          ∙ sym (ap (λ (b : Bool). b && is_active_in ask.sdp section && is_srtp (written_profile other.before other.ask section) && is_none (chosen_in ask.chosen section)) out)
    ]

unfit_alike : (config : Config) (rounds others : List Round) (offer other : MadeOffer) (ask : AnswerAsk) (section : ℕ) → Alike config rounds others → AlikeOffers offer other →
    section < most_sections → misfits_answerer rounds offer ask section ≡ misfits_answerer others other ask section
unfit_alike config rounds others offer other ask section a s below =
    ap (λ (by : Side). misfits (leg_family rounds section (other_side by)) ask.options (section_in ask.sdp section)) s.maker_is
    ∙ ap (λ (family : Option Family). misfits family ask.options (section_in ask.sdp section)) ((a.sections_are section below).legs_are (other_side (maker other))).family_is

fault_to_alike : (config : Config) (rounds others : List Round) (offer other : MadeOffer) (ask : AnswerAsk) → Alike config rounds others → AlikeOffers offer other →
    fault_of_answer_to rounds offer ask ≡ fault_of_answer_to others other ask
fault_to_alike config rounds others offer other ask a s =
    ap (λ (tag : List ℕ). fault (bytes_eq ask.from_tag tag) (section_count ask.sdp == section_count offer.ask.sdp) unfit (list_any (takes_no_line offer ask) (all_sections ask.sdp))) s.from_tag_is
    ∙ ap (λ (n : ℕ). fault (bytes_eq ask.from_tag other.ask.from_tag) (section_count ask.sdp == n) unfit (list_any (takes_no_line offer ask) (all_sections ask.sdp))) s.count_is
    ∙ ap (fault (bytes_eq ask.from_tag other.ask.from_tag) (section_count ask.sdp == section_count other.ask.sdp) unfit)
    (any_alike (takes_no_line offer ask) (takes_no_line other ask) (all_sections ask.sdp) (λ section. takes_alike offer other ask section s))
    ∙ go (bytes_eq ask.from_tag other.ask.from_tag) (section_count ask.sdp == section_count other.ask.sdp) refl
  where
    fault : Bool → Bool → Bool → Bool → Option ErrorCode
    fault own many misfit lacks = if not own then Some E11 else if not many then Some E12 else if misfit then Some E20 else if lacks then Some E8 else None

    unfit : Bool
    unfit = list_any (misfits_answerer rounds offer ask) (active_sections ask.sdp)

    same : section_count ask.sdp ≤ most_sections → list_any (misfits_answerer rounds offer ask) (active_sections ask.sdp) ≡ list_any (misfits_answerer others other ask) (active_sections ask.sdp)
    same few =
        any_in (misfits_answerer rounds offer ask) (misfits_answerer others other ask) (active_sections ask.sdp)
        (λ section i. unfit_alike config rounds others offer other ask section a s (active_below ask.sdp section i few))

    go : (own many : Bool) → (section_count ask.sdp == section_count other.ask.sdp) ≡ many →
        fault own many (list_any (misfits_answerer rounds offer ask) (active_sections ask.sdp)) (list_any (takes_no_line other ask) (all_sections ask.sdp))
        ≡ fault own many (list_any (misfits_answerer others other ask) (active_sections ask.sdp)) (list_any (takes_no_line other ask) (all_sections ask.sdp))
    go own false e = refl
    go own true e =
        let equal : section_count ask.sdp ≡ section_count other.ask.sdp = grind (arith, e) in
        ap (λ (misfit : Bool). fault own true misfit (list_any (takes_no_line other ask) (all_sections ask.sdp))) (same (omega (arith, equal, s.few)))

last_fault_alike : (config : Config) (rounds others : List Round) (offer other : Option MadeOffer) (ask : AnswerAsk) → Alike config rounds others → AlikeLast offer other →
    elim offer as (λ _. Option ErrorCode) [ None ↦ Some E10 | Some made ↦ fault_of_answer_to rounds made ask ] ≡ elim other as (λ _. Option ErrorCode) [ None ↦ Some E10 | Some made ↦ fault_of_answer_to others made ask ]
last_fault_alike config rounds others None None ask a s = refl
last_fault_alike config rounds others None (Some other) ask a s = elim s [ ]
last_fault_alike config rounds others (Some offer) None ask a s = elim s [ ]
last_fault_alike config rounds others (Some offer) (Some other) ask a s = fault_to_alike config rounds others offer other ask a s

pub answer_fault_alike : (config : Config) (rounds others : List Round) (ask : AnswerAsk) → Alike config rounds others → answer_fault rounds ask ≡ answer_fault others ask
unfolding answer_fault
answer_fault_alike config rounds others ask s =
    ap (λ (b : Bool). fault (b && may_answer rounds ask) (last_fault (last_offer rounds))) (sides_alike config rounds others ask.from_tag s)
    ∙ ap (λ (b : Bool). fault (is_some_sides others ask.from_tag && b) (last_fault (last_offer rounds))) (may_alike config rounds others ask s)
    ∙ ap (fault (is_some_sides others ask.from_tag && may_answer others ask)) (last_fault_alike config rounds others (last_offer rounds) (last_offer others) ask s s.offer_is)
  where
    last_fault : Option MadeOffer → Option ErrorCode
    last_fault offer = elim offer [ None ↦ Some E10 | Some made ↦ fault_of_answer_to rounds made ask ]

    fault : Bool → Option ErrorCode → Option ErrorCode
    fault sides last = if not sides then Some E10 else last

-- the last offers, sections past those that are kept among them
module _ (config : Config) (rounds others : List Round) (ask : AnswerAsk) (s : Alike config rounds others) where
  rejected_both : (section : ℕ) → is_rejected_by rounds ask section ≡ is_rejected_by others ask section
  rejected_both section = elim (cases_lt section most_sections) [
    | inl below ↦ rejected_alike config rounds others ask section s.offer_is (s.sections_are section below)
    | inr past ↦
        let out = inactive_beyond (last_offer rounds) (last_offer others) section s.offer_is past in
        rejected_past rounds ask section (active_alike (last_offer rounds) (last_offer others) section s.offer_is ∙ out)
        ∙ sym (rejected_past others ask section out)
  ]

  rejected_out : (section : ℕ) → most_sections ≤ section → is_rejected_by others ask section ≡ true
  rejected_out section past = rejected_past others ask section (inactive_beyond (last_offer rounds) (last_offer others) section s.offer_is past)

  signal_alike_at : (offer other : MadeOffer) (section : ℕ) (side : Side) → AlikeOffers offer other → section < most_sections →
      side_signal rounds offer ask section side ≡ side_signal others other ask section side
  signal_alike_at offer other section side o below =
      ap (λ (line : Option CryptoLine). said (maker offer) (section_in offer.ask.sdp section) offer.ask.options line (committed_key rounds ask section side))
      (line_alike config rounds others ask section side s.offer_is leg below)
      ∙ ap (λ (key : Option NewKey). said (maker offer) (section_in offer.ask.sdp section) offer.ask.options (committed_line others ask section side) key)
      (committed_alike config rounds others ask section side s.offer_is leg below)
      ∙ ap (λ (by : Side). said by (section_in offer.ask.sdp section) offer.ask.options (committed_line others ask section side) (committed_key others ask section side)) o.maker_is
      ∙ ap (λ (at : Section). said (maker other) at offer.ask.options (committed_line others ask section side) (committed_key others ask section side)) (o.sections_are section below).section_is
      ∙ ap (λ (options : Options). said (maker other) (section_in other.ask.sdp section) options (committed_line others ask section side) (committed_key others ask section side)) o.options_are
    where
      leg : AlikeLegs config rounds others section side
      leg = (s.sections_are section below).legs_are side

      said : Side → Section → Options → Option CryptoLine → Option NewKey → LegSignal
      said by at options line key =
          if side_eq side by then leg_signal at options line key (mux_back options at (section_in ask.sdp section))
          else leg_signal (section_in ask.sdp section) ask.options line key (mux_taken options at (section_in ask.sdp section))

  section_signal_alike : (offer other : MadeOffer) (section : ℕ) → AlikeOffers offer other → section_signal rounds offer ask section ≡ section_signal others other ask section
  section_signal_alike offer other section o =
      ap (λ (b : Bool). if b then Reject else Commit (side_signal rounds offer ask section A) (side_signal rounds offer ask section B)) (rejected_both section)
      ∙ elim (cases_lt section most_sections) [
        | inl below ↦
            ap (λ (leg : LegSignal). if is_rejected_by others ask section then Reject else Commit leg (side_signal rounds offer ask section B)) (signal_alike_at offer other section A o below)
            ∙ ap (λ (leg : LegSignal). if is_rejected_by others ask section then Reject else Commit (side_signal others other ask section A) leg) (signal_alike_at offer other section B o below)
        | inr past ↦
            ap (λ (b : Bool). if b then Reject else Commit (side_signal rounds offer ask section A) (side_signal rounds offer ask section B)) (rejected_out section past)
            ∙ sym (ap (λ (b : Bool). if b then Reject else Commit (side_signal others other ask section A) (side_signal others other ask section B)) (rejected_out section past))
      ]

  signals_alike : (offer other : Option MadeOffer) → AlikeLast offer other →
      elim offer as (λ _. List SectionSignal) [ None ↦ [] | Some made ↦ answer_signal rounds made ask ] ≡ elim other as (λ _. List SectionSignal) [ None ↦ [] | Some made ↦ answer_signal others made ask ]
  signals_alike None None o = refl
  signals_alike None (Some other) o = elim o [ ]
  signals_alike (Some offer) None o = elim o [ ]
  signals_alike (Some offer) (Some other) o =
      map-alike (section_signal rounds offer ask) (section_signal others other ask) (section_count ask.sdp) (λ section below. section_signal_alike offer other section o)

  pub signal_alike : signal rounds ask ≡ signal others ask
  unfolding signal
  signal_alike = signals_alike (last_offer rounds) (last_offer others) s.offer_is

  answered_port_alike : (offer other : MadeOffer) (section : ℕ) → AlikeOffers offer other → answered_port config rounds offer ask section ≡ answered_port config others other ask section
  answered_port_alike offer other section o =
      ap (λ (b : Bool). if b then 0 else unwrap_or (standing_port config rounds section (maker offer)) 0) (rejected_both section)
      ∙ ap (λ (by : Side). if is_rejected_by others ask section then 0 else unwrap_or (standing_port config rounds section by) 0) o.maker_is
      ∙ elim (cases_lt section most_sections) [
        | inl below ↦ ap (λ (n : ℕ). if is_rejected_by others ask section then 0 else n) ((s.sections_are section below).legs_are (maker other)).port_is
        | inr past ↦
            ap (λ (b : Bool). if b then 0 else unwrap_or (standing_port config rounds section (maker other)) 0) (rejected_out section past)
            ∙ sym (ap (λ (b : Bool). if b then 0 else unwrap_or (standing_port config others section (maker other)) 0) (rejected_out section past))
      ]

  back_alike : (offer other : MadeOffer) (section : ℕ) (line : Option CryptoLine) → AlikeOffers offer other → section < most_sections →
      option_and_then (answering_line rounds offer section) line ≡ option_and_then (answering_line others other section) line
  back_alike offer other section None o below = refl
  back_alike offer other section (Some line) o below =
      ap (λ (by : Side). option_map (line_with line.tag) (leg_key rounds section by line.suite)) o.maker_is
      ∙ ap (option_map (line_with line.tag)) (((s.sections_are section below).legs_are (maker other)).keys_are line.suite)

  answered_lines_alike : (offer other : MadeOffer) (section : ℕ) → AlikeOffers offer other → answered_lines rounds offer ask section ≡ answered_lines others other ask section
  answered_lines_alike offer other section o =
      ap (λ (b : Bool). lines b (section_in offer.ask.sdp section).proto (option_and_then (answering_line rounds offer section) (chosen_in offer.ask.chosen section))) (rejected_both section)
      ∙ elim (cases_lt section most_sections) [
        | inl below ↦
            ap (λ (at : Section). lines (is_rejected_by others ask section) at.proto (option_and_then (answering_line rounds offer section) (chosen_in offer.ask.chosen section)))
            (o.sections_are section below).section_is
            ∙ ap (λ (line : Option CryptoLine). lines (is_rejected_by others ask section) (section_in other.ask.sdp section).proto (option_and_then (answering_line rounds offer section) line))
            (o.sections_are section below).line_is
            ∙ ap (lines (is_rejected_by others ask section) (section_in other.ask.sdp section).proto) (back_alike offer other section (chosen_in other.ask.chosen section) o below)
        | inr past ↦
            ap (λ (b : Bool). lines b (section_in offer.ask.sdp section).proto (option_and_then (answering_line rounds offer section) (chosen_in offer.ask.chosen section))) (rejected_out section past)
            ∙ sym (ap (λ (b : Bool). lines b (section_in other.ask.sdp section).proto (option_and_then (answering_line others other section) (chosen_in other.ask.chosen section))) (rejected_out section past))
      ]
    where
      lines : Bool → Proto → Option CryptoLine → List (Option CryptoLine)
      lines rejected profile line = if not rejected && is_srtp profile then line ∷ None ∷ [] else no_lines

  answered_host_alike : (offer other : MadeOffer) (section : ℕ) → AlikeOffers offer other →
      written_host config (answered_port config rounds offer ask section) (leg_family rounds section (maker offer))
      ≡ written_host config (answered_port config others other ask section) (leg_family others section (maker other))
  answered_host_alike offer other section o =
      ap (λ (port : ℕ). written_host config port (leg_family rounds section (maker offer))) (answered_port_alike offer other section o)
      ∙ elim (cases_lt section most_sections) [
        | inl below ↦
            ap (λ (by : Side). written_host config (answered_port config others other ask section) (leg_family rounds section by)) o.maker_is
            ∙ ap (written_host config (answered_port config others other ask section)) ((s.sections_are section below).legs_are (maker other)).family_is
        | inr past ↦
            let at = unwrap_or (standing_port config others section (maker other)) 0 in
            ap (λ (b : Bool). written_host config (if b then 0 else at) (leg_family rounds section (maker offer))) (rejected_out section past)
            ∙ sym (ap (λ (b : Bool). written_host config (if b then 0 else at) (leg_family others section (maker other))) (rejected_out section past))
      ]

  answered_mux_alike : (offer other : MadeOffer) (section : ℕ) → AlikeOffers offer other → answered_mux rounds offer ask section ≡ answered_mux others other ask section
  answered_mux_alike offer other section o =
      ap (λ (b : Bool). not b && mux_back offer.ask.options (section_in offer.ask.sdp section) (section_in ask.sdp section)) (rejected_both section)
      ∙ ap (λ (options : Options). not (is_rejected_by others ask section) && mux_back options (section_in offer.ask.sdp section) (section_in ask.sdp section)) o.options_are
      ∙ ap (λ (at : Section). not (is_rejected_by others ask section) && mux_back other.ask.options at (section_in ask.sdp section)) (section_alike offer other section o)

  answer_section_alike : (offer other : MadeOffer) (section : ℕ) → AlikeOffers offer other → answer_section config rounds offer ask section ≡ answer_section config others other ask section
  answer_section_alike offer other section o =
      section-is (answered_port_alike offer other section o) (ap (λ (at : Section). at.proto) (section_alike offer other section o)) (answered_host_alike offer other section o)
      (answered_lines_alike offer other section o) (answered_mux_alike offer other section o)

  answers_alike : (offer other : Option MadeOffer) → AlikeLast offer other →
      elim offer as (λ _. List ℕ) [ None ↦ [] | Some made ↦ edited (lines_of ask.sdp) (edit_with config ask.options (map (answer_section config rounds made ask) (all_sections ask.sdp))) ]
      ≡ elim other as (λ _. List ℕ) [ None ↦ [] | Some made ↦ edited (lines_of ask.sdp) (edit_with config ask.options (map (answer_section config others made ask) (all_sections ask.sdp))) ]
  answers_alike None None o = refl
  answers_alike None (Some other) o = elim o [ ]
  answers_alike (Some offer) None o = elim o [ ]
  answers_alike (Some offer) (Some other) o =
      ap (λ (sections : List SectionEdit). edited (lines_of ask.sdp) (edit_with config ask.options sections))
      (map-alike (answer_section config rounds offer ask) (answer_section config others other ask) (section_count ask.sdp) (λ section below. answer_section_alike offer other section o))

  pub answer_text_alike : answer_text config rounds ask ≡ answer_text config others ask
  unfolding answer_text
  answer_text_alike = answers_alike (last_offer rounds) (last_offer others) s.offer_is

  offered_alike : (offer other : Option MadeOffer) (section : ℕ) → AlikeLast offer other →
      elim offer as (λ _. List (Option CryptoLine)) [ None ↦ no_lines | Some made ↦ offered_lines made.before made.ask made.keys section ]
      ≡ elim other as (λ _. List (Option CryptoLine)) [ None ↦ no_lines | Some made ↦ offered_lines made.before made.ask made.keys section ]
  offered_alike None None section o = refl
  offered_alike None (Some other) section o = elim o [ ]
  offered_alike (Some offer) None section o = elim o [ ]
  offered_alike (Some offer) (Some other) section o = elim (cases_lt section most_sections) [
    | inl below ↦ (o.sections_are section below).lines_are
    | inr past ↦
        let out = inactive_past other.ask.sdp section o.few past in
        none_there offer section (active_alike (Some offer) (Some other) section o ∙ out) ∙ sym (none_there other section out)
  ]
    where
      none_there : (made : MadeOffer) (section : ℕ) → is_active_in made.ask.sdp section ≡ false → offered_lines made.before made.ask made.keys section ≡ no_lines
      none_there made section out = rw out refl

  pub heard_alike : AnswerRead rounds ask → AnswerRead others ask
  unfolding AnswerRead
  heard_alike heard = record {
    count = heard.count;
    first = λ section below.
        subst (λ (lines : List (Option CryptoLine)). IsFirstOf (IsOffered lines) (section_lines section (lines_of ask.sdp)) (chosen_in ask.chosen section))
        (offered_alike (last_offer rounds) (last_offer others) section s.offer_is) (heard.first section below);
  }
