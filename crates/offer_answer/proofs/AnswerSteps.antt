-- What a dialog becomes by an answer.
use Rattle.std.proofs.Common.{◌≡◌, ◌<◌, ◌≤◌, ℕ, zero, suc, Bool, true, false, not, ◌&&◌, List, [], ◌∷◌, Option, Some, None, IsSome, refl, sym, ap, ◌∙◌, if◌then◌else◌, unwrap_or, option_map, slice_index_or, arith}
use Rattle.relay_outside.specs.declared.settings.Config.{Config}
use Rattle.sdes_lines.specs.declared.crypto_line.Suite.{Suite}
use Rattle.sdes_lines.specs.declared.crypto_line.Suite.TheVariants.{Tag80, Tag32}
use Rattle.port_pool.specs.declared.holder.Side.{Side}
use Rattle.port_pool.specs.declared.holder.Side.TheVariants.{A, B}
use Rattle.port_pool.specs.declared.holder.Holder.{Holder}
use Rattle.port_pool.specs.Ports.{pair_port}
use Rattle.ng_bencode.specs.Room.{Room}
use Rattle.sdp_text.specs.declared.section.Section.{Section}
use Rattle.offer_answer.specs.Rounds.{Round, Answered, AnswerAsk}
use Rattle.offer_answer.specs.Sides.{MadeOffer, is_begun, answering_tag, last_offer, offered_sdp}
use Rattle.offer_answer.specs.Sections.{most_sections, section_count, sections_of, no_section, is_active, is_active_in, has_pairs, leg_of}
use Rattle.offer_answer.specs.Profiles.{profile_offered, profile_in_force}
use Rattle.offer_answer.specs.Keys.{leg_key, committed_key}
use Rattle.offer_answer.specs.Signals.{is_rejected_by}
use Rattle.offer_answer.specs.Families.{leg_family}
use Rattle.offer_answer.specs.Dialogs.{LegFor, SectionFor, DialogFor, key_for, leg_at, no_leg, drawn_for_leg}
use Rattle.offer_answer.specs.LastOffers.{OfferKept}
use Rattle.offer_answer.specs.Answers.{AnsweredFor}
use Rattle.offer_answer.specs.declared.leg.DrawnKey.{DrawnKey}
use Rattle.offer_answer.specs.declared.leg.Leg.{Leg}
use Rattle.offer_answer.specs.declared.last_offer.LastOffer.{LastOffer}
use Rattle.offer_answer.specs.declared.dialog.Dialog.{Dialog}
use Rattle.offer_answer.specs.declared.next_answer.AnsweredNext.{AnsweredNext}
use Rattle.offer_answer.proofs.Offering.{past-end}
use Rattle.offer_answer.proofs.Steps.{pairs-answered, committed-answered, leg-answered, key-answered, in_force-answered, profile-answered, family-answered}

-- a section has pairs after the answer, and is committed, where it wasn't rejected
pairs-after : (rounds : List Round) (ask : AnswerAsk) (section : ℕ) (rejected : Bool) → is_rejected_by rounds ask section ≡ rejected →
    has_pairs (Answered ask ∷ rounds) section ≡ not rejected
pairs-after rounds ask section rejected e = pairs-answered ask rounds section ∙ ap not e

-- Its legs.

abbrev port_of : Config → Option Holder → ℕ
port_of config leg = unwrap_or (option_map (λ (l : Holder). pair_port config l.pair) leg) 0

pub leg-rejected : (config : Config) (rounds : List Round) (ask : AnswerAsk) (section : ℕ) (side : Side) (leg : Leg) → LegFor config rounds section side leg →
    is_rejected_by rounds ask section ≡ true → LegFor config (Answered ask ∷ rounds) section side (record no_leg { offered = leg.offered })
leg-rejected config rounds ask section side leg f r = record {
  port_is = sym (ap (port_of config) (leg-answered ask rounds section side ∙ ap (λ (b : Bool). if b then leg_of rounds section side else None) gone));
  family_is = sym (family-answered ask rounds section side ∙ ap (λ (b : Bool). if b then leg_family rounds section side else None) gone);
  offered_is = f.offered_is;
  in_force_is = sym (profile-answered ask rounds section side ∙ ap (λ (b : Bool). if b then profile_offered rounds section side else None) gone);
  keys_are = keys;
  key_in_force_is = sym (in_force-answered ask rounds section side ∙ ap (λ (b : Bool). if b then committed_key rounds ask section side else None) gone);
}
  where
    gone : has_pairs (Answered ask ∷ rounds) section ≡ false
    gone = pairs-after rounds ask section true r

    keys : (suite : Suite) → option_map (drawn_for_leg section side) (key_for (record no_leg { offered = leg.offered }) suite) ≡ leg_key (Answered ask ∷ rounds) section side suite
    keys Tag80 = sym (key-answered ask rounds section side Tag80 ∙ ap (λ (b : Bool). if b then leg_key rounds section side Tag80 else None) gone)
    keys Tag32 = sym (key-answered ask rounds section side Tag32 ∙ ap (λ (b : Bool). if b then leg_key rounds section side Tag32 else None) gone)

pub leg-committed : (config : Config) (rounds : List Round) (ask : AnswerAsk) (section : ℕ) (side : Side) (leg : Leg) (key : Option DrawnKey) → LegFor config rounds section side leg →
    is_rejected_by rounds ask section ≡ false → option_map (drawn_for_leg section side) key ≡ committed_key rounds ask section side →
    LegFor config (Answered ask ∷ rounds) section side (record leg { in_force = leg.offered; key_in_force = key })
leg-committed config rounds ask section side leg key f r k = record {
  port_is = f.port_is ∙ sym (ap (port_of config) (leg-answered ask rounds section side ∙ ap (λ (b : Bool). if b then leg_of rounds section side else None) stays));
  family_is = f.family_is ∙ sym (family-answered ask rounds section side ∙ ap (λ (b : Bool). if b then leg_family rounds section side else None) stays);
  offered_is = f.offered_is;
  in_force_is = f.offered_is ∙ sym (profile-answered ask rounds section side ∙ ap (λ (b : Bool). if b then profile_offered rounds section side else None) stays);
  keys_are = keys;
  key_in_force_is = k ∙ sym (in_force-answered ask rounds section side ∙ ap (λ (b : Bool). if b then committed_key rounds ask section side else None) stays);
}
  where
    stays : has_pairs (Answered ask ∷ rounds) section ≡ true
    stays = pairs-after rounds ask section false r

    keys : (suite : Suite) → option_map (drawn_for_leg section side) (key_for (record leg { in_force = leg.offered; key_in_force = key }) suite) ≡ leg_key (Answered ask ∷ rounds) section side suite
    keys Tag80 = f.keys_are Tag80 ∙ sym (key-answered ask rounds section side Tag80 ∙ ap (λ (b : Bool). if b then leg_key rounds section side Tag80 else None) stays)
    keys Tag32 = f.keys_are Tag32 ∙ sym (key-answered ask rounds section side Tag32 ∙ ap (λ (b : Bool). if b then leg_key rounds section side Tag32 else None) stays)

-- The section.

pub section-after : (config : Config) (rounds : List Round) (ask : AnswerAsk) (section : ℕ) (rejected : Bool) (a b : Leg) → is_rejected_by rounds ask section ≡ rejected →
    LegFor config (Answered ask ∷ rounds) section A a → LegFor config (Answered ask ∷ rounds) section B b →
    SectionFor config (Answered ask ∷ rounds) section (record { has_pairs = not rejected; is_committed = not rejected; a = a; b = b })
section-after config rounds ask section rejected a b r leg_a leg_b = record {
  pairs_are = sym (pairs-after rounds ask section rejected r);
  committed_is = sym (committed-answered ask rounds section ∙ pairs-after rounds ask section rejected r);
  legs_are = legs;
}
  where
    legs : (side : Side) → LegFor config (Answered ask ∷ rounds) section side (leg_at (record { has_pairs = not rejected; is_committed = not rejected; a = a; b = b }) side)
    legs A = leg_a
    legs B = leg_b

-- what holds of each of eight holds of all
pub of-eight : {X : Type 0} (P : ℕ → X → Type 0) (none : X) {a b c d e f g h : X} → P 0 a → P 1 b → P 2 c → P 3 d → P 4 e → P 5 f → P 6 g → P 7 h →
    (section : ℕ) → section < 8 → P section (slice_index_or (a ∷ b ∷ c ∷ d ∷ e ∷ f ∷ g ∷ h ∷ []) section none)
of-eight P none p0 p1 p2 p3 p4 p5 p6 p7 zero l = p0
of-eight P none p0 p1 p2 p3 p4 p5 p6 p7 (suc zero) l = p1
of-eight P none p0 p1 p2 p3 p4 p5 p6 p7 (suc (suc zero)) l = p2
of-eight P none p0 p1 p2 p3 p4 p5 p6 p7 (suc (suc (suc zero))) l = p3
of-eight P none p0 p1 p2 p3 p4 p5 p6 p7 (suc (suc (suc (suc zero)))) l = p4
of-eight P none p0 p1 p2 p3 p4 p5 p6 p7 (suc (suc (suc (suc (suc zero))))) l = p5
of-eight P none p0 p1 p2 p3 p4 p5 p6 p7 (suc (suc (suc (suc (suc (suc zero)))))) l = p6
of-eight P none p0 p1 p2 p3 p4 p5 p6 p7 (suc (suc (suc (suc (suc (suc (suc zero))))))) l = p7
of-eight P none p0 p1 p2 p3 p4 p5 p6 p7 (suc (suc (suc (suc (suc (suc (suc (suc section)))))))) l = absurd (omega (arith, l))

-- The dialog.

begun-by_offer : (rounds : List Round) → IsSome (last_offer rounds) → is_begun rounds ≡ true
begun-by_offer [] s = cc
begun-by_offer (round ∷ rounds) s = refl

few-offered : (offer : Option MadeOffer) (last : Option LastOffer) → OfferKept offer last → IsSome offer →
    section_count (elim offer [ None ↦ [] | Some made ↦ made.ask.sdp ]) ≤ most_sections
few-offered None last k s = cc
few-offered (Some offer) None k s = elim k [ ]
few-offered (Some offer) (Some last) k s = k.few

-- a section that isn't there isn't active
unused-past : (sdp : List ℕ) (section : ℕ) → section_count sdp ≤ section → is_active_in sdp section ≡ false
unused-past sdp section l = ap (λ (o : Option Section). is_active (unwrap_or o no_section)) (past-end (sections_of sdp) section l)

rejected-past : (rounds : List Round) (ask : AnswerAsk) (section : ℕ) → section_count (offered_sdp rounds) ≤ section → is_rejected_by rounds ask section ≡ true
rejected-past rounds ask section l = ap (λ b. not (b && is_active_in ask.sdp section && has_pairs rounds section)) (unused-past (offered_sdp rounds) section l)

none-past : (rounds : List Round) (ask : AnswerAsk) (section : ℕ) (side : Side) → section_count (offered_sdp rounds) ≤ section →
    profile_in_force (Answered ask ∷ rounds) section side ≡ None
none-past rounds ask section side l =
    profile-answered ask rounds section side
    ∙ ap (λ (b : Bool). if b then profile_offered rounds section side else None) (pairs-after rounds ask section true (rejected-past rounds ask section l))

abbrev after_answer : Dialog → AnsweredNext → Dialog
after_answer dialog next = record dialog {
  answering_tag = if dialog.is_settled then dialog.answering_tag else Some next.to_tag;
  has_answer = true;
  committed_count = next.count;
  sections = next.sections;
}

pub dialog-answered : (config : Config) (rounds : List Round) (ask : AnswerAsk) (dialog : Dialog) (next : AnsweredNext) → DialogFor config dialog rounds → AnsweredFor config rounds ask next →
    DialogFor config (after_answer dialog next) (Answered ask ∷ rounds)
dialog-answered config rounds ask dialog next s n = record {
  begun_is = s.begun_is ∙ begun-by_offer rounds n.to_offer;
  first_tag_is = s.first_tag_is;
  answering_tag_is = tags dialog.is_settled ∙ ap (λ (b : Bool). if b then answering_tag rounds else Some ask.to_tag) s.is_settled_is;
  has_answer_is = refl;
  is_settled_is = s.is_settled_is;
  committed_count_is = n.count_is;
  offer_is = s.offer_is;
  sections_are = n.sections_are;
  no_more = λ section side l.
      let few : section_count (offered_sdp rounds) ≤ most_sections = few-offered (last_offer rounds) dialog.last_offer s.offer_is n.to_offer in
      none-past rounds ask section side (omega (arith, few, l));
}
  where
    tags : (b : Bool) → option_map (λ (t : Room ℕ). t.list) (if b then dialog.answering_tag else Some next.to_tag) ≡ (if b then answering_tag rounds else Some ask.to_tag)
    tags true = s.answering_tag_is
    tags false = ap Some n.to_tag_is
