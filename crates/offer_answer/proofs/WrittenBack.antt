-- What an answer writes, from what a dialog keeps.
use Rattle.std.proofs.Common.{◌≡◌, ℕ, ◌≤◌, min, Bool, not, ◌&&◌, inl, inr, List, [], ◌∷◌, length, Option, Some, None, refl, sym, ap, ◌∙◌, subst, if◌then◌else◌, map, option_map, option_and_then, unwrap_or, slice_get, arith}
use Rattle.std.proofs.lemmas.Option.{slice_get_cases}
use Rattle.relay_outside.specs.declared.settings.Config.{Config}
use Rattle.sdes_lines.specs.CryptoLine.{IsTag}
use Rattle.sdes_lines.specs.declared.crypto_line.CryptoLine.{CryptoLine}
use Rattle.sdp_text.specs.Lines.{lines_of}
use Rattle.sdp_text.specs.Descriptions.{sections_in}
use Rattle.sdp_text.specs.declared.section.Section.{Section}
use Rattle.sdp_edit.specs.ChosenLines.{section_lines, IsFirstOf, IsAny}
use Rattle.sdp_edit.specs.declared.edits.Edit.{Edit}
use Rattle.sdp_edit.specs.EditedText.{edited}
use Rattle.ng_command.specs.declared.command.Options.{Options}
use Rattle.port_pool.specs.declared.holder.Side.{Side}
use Rattle.offer_answer.specs.Rounds.{Round, OfferAsk, AnswerAsk}
use Rattle.offer_answer.specs.Sides.{MadeOffer, last_offer, maker, offered_sdp}
use Rattle.offer_answer.specs.Sections.{no_section, section_in, section_count, is_active, is_active_in, all_sections}
use Rattle.offer_answer.specs.Profiles.{is_srtp}
use Rattle.offer_answer.specs.Keys.{no_lines, chosen_in, line_with}
use Rattle.offer_answer.specs.Mux.{mux_back}
use Rattle.offer_answer.specs.Signals.{is_rejected_by}
use Rattle.offer_answer.specs.Families.{leg_family}
use Rattle.offer_answer.specs.Texts.{written_host, session_host, answering_line, answered_port, answered_lines, answered_mux, answer_section, answer_edit}
use Rattle.offer_answer.specs.Plan.{OfferRead, answer_text}
use Rattle.offer_answer.specs.Dialogs.{LegFor, SectionFor, key_for, leg_at, drawn_for_leg}
use Rattle.offer_answer.specs.LastOffers.{MadeFor}
use Rattle.offer_answer.specs.Edits.{greatest_tag, line_back}
use Rattle.offer_answer.specs.declared.leg.DrawnKey.{DrawnKey}
use Rattle.offer_answer.specs.declared.leg.Leg.{Leg}
use Rattle.offer_answer.specs.declared.leg.DialogSection.{DialogSection}
use Rattle.offer_answer.specs.declared.last_offer.MadeSection.{MadeSection}
use Rattle.offer_answer.proofs.Written.{section-of, section-is, text-is}

-- The sections of a description.

past : {X : Type 0} (xs : List X) (i : ℕ) → length xs ≤ i → slice_get xs i ≡ None
past xs i l = elim (slice_get_cases xs i).1 [
  | inl here ↦ absurd (omega (arith, here.1, l))
  | inr gone ↦ gone.1
]

pub section-there : (sdp : List ℕ) (lines : List (List ℕ)) (section : ℕ) (s : Section) → lines_of sdp ≡ lines → slice_get (sections_in lines) section ≡ Some s →
    s ≡ section_in sdp section
section-there sdp lines section s l e =
    sym (subst (λ (ls : List (List ℕ)). unwrap_or (slice_get (sections_in ls) section) no_section ≡ s) (sym l) (ap (λ o. unwrap_or o no_section) e))

pub section-gone : (sdp : List ℕ) (lines : List (List ℕ)) (section : ℕ) → lines_of sdp ≡ lines → length (sections_in lines) ≤ section → no_section ≡ section_in sdp section
section-gone sdp lines section l e =
    sym (subst (λ (ls : List (List ℕ)). unwrap_or (slice_get (sections_in ls) section) no_section ≡ no_section) (sym l)
    (ap (λ o. unwrap_or o no_section) (past (sections_in lines) section e)))

pub count-is : (sdp : List ℕ) (lines : List (List ℕ)) → lines_of sdp ≡ lines → section_count sdp ≡ length (sections_in lines)
count-is sdp lines l = ap (λ ls. length (sections_in ls)) l

-- Whether a section is rejected.

pub rejected-is : (config : Config) (rounds : List Round) (offer : MadeOffer) (ask : AnswerAsk) (section : ℕ) (made : MadeSection) (kept : DialogSection) (b : Bool) →
    last_offer rounds ≡ Some offer → MadeFor offer section made → SectionFor config rounds section kept → b ≡ is_active_in ask.sdp section →
    not (is_active made.section && b && kept.has_pairs) ≡ is_rejected_by rounds ask section
rejected-is config rounds offer ask section made kept b o m s e =
    let sdp : offered_sdp rounds ≡ offer.ask.sdp = ap (λ (x : Option MadeOffer). elim x [ None ↦ [] | Some y ↦ y.ask.sdp ]) o in
    ap (λ (x : Section). not (is_active x && b && kept.has_pairs)) m.section_is
    ∙ ap (λ (x : List ℕ). not (is_active_in x section && b && kept.has_pairs)) (sym sdp)
    ∙ ap (λ x. not (is_active_in (offered_sdp rounds) section && x && kept.has_pairs)) e
    ∙ ap (λ x. not (is_active_in (offered_sdp rounds) section && is_active_in ask.sdp section && x)) s.pairs_are

-- The line in answer to the chosen one.

-- the key of a usable line has a tag that can be written
first-tag : (lines : List (List ℕ)) (key : CryptoLine) → IsFirstOf IsAny lines (Some key) → IsTag key.tag
first-tag [] key none = cc none
first-tag (line ∷ more) key (inl here) = here.0.0.is_tag
first-tag (line ∷ more) key (inr there) = first-tag more key there.1

chosen-tag : (ask : OfferAsk) (section : ℕ) (line : CryptoLine) → OfferRead ask → chosen_in ask.chosen section ≡ Some line → IsTag line.tag
unfolding OfferRead
chosen-tag ask section line heard e = elim (slice_get_cases ask.chosen section).1 [
  | inl here ↦ first-tag (section_lines section (lines_of ask.sdp)) line
      (subst (IsFirstOf IsAny (section_lines section (lines_of ask.sdp))) e (heard.first section (omega (arith, here.1, heard.count))))
  | inr gone ↦
      let none : chosen_in ask.chosen section ≡ None =
      ap (λ (o : Option (Option CryptoLine)). elim o [ None ↦ None | Some l ↦ l ]) gone.1 in
      cc (none, e)
]

answering-is : (config : Config) (rounds : List Round) (offer : MadeOffer) (section : ℕ) (leg : Leg) (line : CryptoLine) →
    LegFor config rounds section (maker offer) leg → IsTag line.tag → line_back leg line ≡ answering_line rounds offer section line
answering-is config rounds offer section leg line l tag =
    go (key_for leg line.suite) ∙ ap (option_map (line_with line.tag)) (l.keys_are line.suite)
  where
    same : min line.tag greatest_tag ≡ line.tag
    same = omega arith

    go : (k : Option DrawnKey) → option_map (λ (key : DrawnKey). record { tag = min line.tag greatest_tag; suite = key.suite; key = key.bytes }) k
        ≡ option_map (line_with line.tag) (option_map (drawn_for_leg section (maker offer)) k)
    go None = refl
    go (Some k) = ap (λ (t : ℕ). Some (line_with t (drawn_for_leg section (maker offer) k))) same

chosen-back : (config : Config) (rounds : List Round) (offer : MadeOffer) (section : ℕ) (leg : Leg) (chosen : Option CryptoLine) →
    LegFor config rounds section (maker offer) leg → ((line : CryptoLine) → chosen ≡ Some line → IsTag line.tag) →
    option_and_then (line_back leg) chosen ≡ option_and_then (answering_line rounds offer section) chosen
chosen-back config rounds offer section leg None l tags = refl
chosen-back config rounds offer section leg (Some line) l tags = answering-is config rounds offer section leg line l (tags line refl)

lines-back : (config : Config) (rounds : List Round) (offer : MadeOffer) (ask : AnswerAsk) (section : ℕ) (made : MadeSection) (leg : Leg) (r : Bool) →
    MadeFor offer section made → LegFor config rounds section (maker offer) leg → OfferRead offer.ask → r ≡ is_rejected_by rounds ask section →
    (if not r && is_srtp made.section.proto then option_and_then (line_back leg) made.line ∷ None ∷ [] else no_lines) ≡ answered_lines rounds offer ask section
lines-back config rounds offer ask section made leg r m l heard e =
    ap (λ x. if not x && is_srtp made.section.proto then option_and_then (line_back leg) made.line ∷ None ∷ [] else no_lines) e
    ∙ ap (λ (x : Section). if not (is_rejected_by rounds ask section) && is_srtp x.proto then option_and_then (line_back leg) made.line ∷ None ∷ [] else no_lines) m.section_is
    ∙ ap (λ x. if not (is_rejected_by rounds ask section) && is_srtp (section_in offer.ask.sdp section).proto then x ∷ None ∷ [] else no_lines)
    (ap (option_and_then (line_back leg)) m.line_is
    ∙ chosen-back config rounds offer section leg (chosen_in offer.ask.chosen section) l (λ line is. chosen-tag offer.ask section line heard is))

port-back : (config : Config) (rounds : List Round) (offer : MadeOffer) (ask : AnswerAsk) (section : ℕ) (leg : Leg) (r : Bool) →
    LegFor config rounds section (maker offer) leg → r ≡ is_rejected_by rounds ask section →
    (if r then 0 else leg.port) ≡ answered_port config rounds offer ask section
port-back config rounds offer ask section leg r l e =
    ap (λ x. if x then 0 else leg.port) e ∙ ap (λ x. if is_rejected_by rounds ask section then 0 else x) l.port_is

mux-back : (rounds : List Round) (offer : MadeOffer) (ask : AnswerAsk) (section : ℕ) (made : MadeSection) (r : Bool) (answered : Section) (options : Options) →
    MadeFor offer section made → r ≡ is_rejected_by rounds ask section → answered ≡ section_in ask.sdp section → options ≡ offer.ask.options →
    (not r && mux_back options made.section answered) ≡ answered_mux rounds offer ask section
mux-back rounds offer ask section made r answered options m rejected here o =
    ap (λ x. not x && mux_back options made.section answered) rejected
    ∙ ap (λ (x : Options). not (is_rejected_by rounds ask section) && mux_back x made.section answered) o
    ∙ ap (λ (x : Section). not (is_rejected_by rounds ask section) && mux_back offer.ask.options x answered) m.section_is
    ∙ ap (λ (x : Section). not (is_rejected_by rounds ask section) && mux_back offer.ask.options (section_in offer.ask.sdp section) x) here

-- what is written of a section of the answer
pub section-back : (config : Config) (rounds : List Round) (offer : MadeOffer) (ask : AnswerAsk) (section : ℕ) (made : MadeSection) (kept : DialogSection) (side : Side) (r : Bool)
    (answered : Section) (options : Options) →
    MadeFor offer section made → SectionFor config rounds section kept → side ≡ maker offer → OfferRead offer.ask → r ≡ is_rejected_by rounds ask section →
    answered ≡ section_in ask.sdp section → options ≡ offer.ask.options →
    section-of (if r then 0 else (leg_at kept side).port) made.section.proto (written_host config (if r then 0 else (leg_at kept side).port) (leg_at kept side).family)
    (if not r && is_srtp made.section.proto then option_and_then (line_back (leg_at kept side)) made.line ∷ None ∷ [] else no_lines)
    (not r && mux_back options made.section answered)
    ≡ answer_section config rounds offer ask section
section-back config rounds offer ask section made kept side r answered options m s e heard rejected here o =
    let leg : LegFor config rounds section (maker offer) (leg_at kept side) = subst (λ x. LegFor config rounds section (maker offer) (leg_at kept x)) (sym e) (s.legs_are (maker offer)) in
    let port = port-back config rounds offer ask section (leg_at kept side) r leg rejected in
    let host : written_host config (if r then 0 else (leg_at kept side).port) (leg_at kept side).family
    ≡ written_host config (answered_port config rounds offer ask section) (leg_family rounds section (maker offer)) =
    ap (λ p. written_host config p (leg_at kept side).family) port ∙ ap (written_host config (answered_port config rounds offer ask section)) leg.family_is in
    section-is port (ap (λ (x : Section). x.proto) m.section_is) host
    (lines-back config rounds offer ask section made (leg_at kept side) r m leg heard rejected)
    (mux-back rounds offer ask section made r answered options m rejected here o)

-- the edit with these sections has the answer's text
pub answer-written : (config : Config) (rounds : List Round) (offer : MadeOffer) (ask : AnswerAsk) (options : Options) (lines : List (List ℕ)) (edit : Edit) →
    last_offer rounds ≡ Some offer → ask.options ≡ options → lines_of ask.sdp ≡ lines →
    edit.address ≡ session_host config edit.sections.list → edit.replace_origin ≡ options.replace_origin → edit.replace_session ≡ options.replace_session →
    edit.sections.list ≡ map (answer_section config rounds offer ask) (all_sections ask.sdp) → edited lines edit ≡ answer_text config rounds ask
unfolding answer_text
answer-written config rounds offer ask options lines edit is o l a origin session e =
    text-is lines edit config ask.options (map (answer_section config rounds offer ask) (all_sections ask.sdp)) a
    (origin ∙ ap (λ (x : Options). x.replace_origin) (sym o)) (session ∙ ap (λ (x : Options). x.replace_session) (sym o)) e
    ∙ ap (λ ls. edited ls (answer_edit config rounds offer ask)) (sym l)
    ∙ sym (ap (λ (x : Option MadeOffer). elim x [ None ↦ [] | Some y ↦ edited (lines_of ask.sdp) (answer_edit config rounds y ask) ]) is)
