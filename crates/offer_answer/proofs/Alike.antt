-- Rounds of which a dialog keeps the same.
use Rattle.std.proofs.Common.{◌≡◌, ◌∙◌, refl, sym, ap, ℕ, ◌<◌, ◌≤◌, inl, inr, false, List, [], Option, Some, None, unwrap_or, arith}
use Rattle.std.proofs.lemmas.Bool.{cases_lt}
use Rattle.relay_outside.specs.declared.settings.Config.{Config}
use Rattle.sdes_lines.specs.declared.crypto_line.Suite.{Suite}
use Rattle.port_pool.specs.declared.holder.Side.{Side}
use Rattle.offer_answer.specs.Rounds.{Round}
use Rattle.offer_answer.specs.Sides.{MadeOffer, is_begun, has_answer, is_settled, first_tag, answering_tag, last_offer, maker}
use Rattle.offer_answer.specs.Sections.{most_sections, no_section, section_count, section_in, sections_of, is_active, is_active_in, has_pairs, is_committed, committed_count}
use Rattle.offer_answer.specs.Profiles.{profile_offered, profile_in_force, written_profile}
use Rattle.offer_answer.specs.Keys.{chosen_in, leg_key, key_in_force, offered_lines}
use Rattle.offer_answer.specs.Families.{leg_family}
use Rattle.offer_answer.specs.Texts.{standing_port}
use Rattle.offer_answer.specs.Plan.{OfferRead}
use Rattle.offer_answer.specs.LastOffers.{MadeFor, LastFor, OfferKept}
use Rattle.offer_answer.specs.Dialogs.{LegFor, SectionFor, DialogFor, leg_at}
use Rattle.offer_answer.specs.declared.leg.Leg.{Leg}
use Rattle.offer_answer.specs.declared.leg.DialogSection.{DialogSection}
use Rattle.offer_answer.specs.declared.last_offer.MadeSection.{MadeSection}
use Rattle.offer_answer.specs.declared.last_offer.LastOffer.{LastOffer}
use Rattle.offer_answer.specs.declared.dialog.Dialog.{Dialog}
use Rattle.offer_answer.proofs.Offering.{past-end}

-- the same is kept of a leg
pub record AlikeLegs (config : Config) (rounds others : List Round) (section : ℕ) (side : Side) : Type 0 where
  pub port_is : unwrap_or (standing_port config rounds section side) 0 ≡ unwrap_or (standing_port config others section side) 0
  pub family_is : leg_family rounds section side ≡ leg_family others section side
  pub offered_is : profile_offered rounds section side ≡ profile_offered others section side
  pub in_force_is : profile_in_force rounds section side ≡ profile_in_force others section side
  pub keys_are : (suite : Suite) → leg_key rounds section side suite ≡ leg_key others section side suite
  pub key_in_force_is : key_in_force rounds section side ≡ key_in_force others section side

pub record AlikeSections (config : Config) (rounds others : List Round) (section : ℕ) : Type 0 where
  pub pairs_are : has_pairs rounds section ≡ has_pairs others section
  pub committed_is : is_committed rounds section ≡ is_committed others section
  pub legs_are : (side : Side) → AlikeLegs config rounds others section side

-- the same is kept of a section of two offers
pub record AlikeMade (offer other : MadeOffer) (section : ℕ) : Type 0 where
  pub section_is : section_in offer.ask.sdp section ≡ section_in other.ask.sdp section
  pub line_is : chosen_in offer.ask.chosen section ≡ chosen_in other.ask.chosen section
  pub written_is : written_profile offer.before offer.ask section ≡ written_profile other.before other.ask section
  pub lines_are : offered_lines offer.before offer.ask offer.keys section ≡ offered_lines other.before other.ask other.keys section

-- the same is kept of two offers
pub record AlikeOffers (offer other : MadeOffer) : Type 0 where
  pub from_tag_is : offer.ask.from_tag ≡ other.ask.from_tag
  pub maker_is : maker offer ≡ maker other
  pub options_are : offer.ask.options ≡ other.ask.options
  pub count_is : section_count offer.ask.sdp ≡ section_count other.ask.sdp
  pub few : section_count other.ask.sdp ≤ most_sections
  pub heard : OfferRead other.ask
  pub sections_are : (section : ℕ) → section < most_sections → AlikeMade offer other section

abbrev pub AlikeLast : Option MadeOffer → Option MadeOffer → Type 0
AlikeLast None None = Unit {0}
AlikeLast None (Some other) = ⊥
AlikeLast (Some offer) None = ⊥
AlikeLast (Some offer) (Some other) = AlikeOffers offer other

-- the same is kept of both
pub record Alike (config : Config) (rounds others : List Round) : Type 0 where
  pub begun_is : is_begun rounds ≡ is_begun others
  pub first_tag_is : first_tag rounds ≡ first_tag others
  pub answering_tag_is : answering_tag rounds ≡ answering_tag others
  pub has_answer_is : has_answer rounds ≡ has_answer others
  pub is_settled_is : is_settled rounds ≡ is_settled others
  pub committed_count_is : committed_count rounds ≡ committed_count others
  pub offer_is : AlikeLast (last_offer rounds) (last_offer others)
  pub sections_are : (section : ℕ) → section < most_sections → AlikeSections config rounds others section
  pub no_more : (section : ℕ) (side : Side) → most_sections ≤ section → profile_in_force rounds section side ≡ None
  pub none_more : (section : ℕ) (side : Side) → most_sections ≤ section → profile_in_force others section side ≡ None

-- before the first round
pub alike_none : (config : Config) → Alike config [] []
alike_none config = record {
  begun_is = refl;
  first_tag_is = refl;
  answering_tag_is = refl;
  has_answer_is = refl;
  is_settled_is = refl;
  committed_count_is = refl;
  offer_is = tt;
  sections_are = λ section below. record {
    pairs_are = refl;
    committed_is = refl;
    legs_are = λ side. record { port_is = refl; family_is = refl; offered_is = refl; in_force_is = refl; keys_are = λ suite. refl; key_in_force_is = refl };
  };
  no_more = λ section side past. refl;
  none_more = λ section side past. refl;
}

-- What one dialog stands for is alike.

legs_of_one : (config : Config) (rounds others : List Round) (section : ℕ) (side : Side) (leg : Leg) → LegFor config rounds section side leg → LegFor config others section side leg →
    AlikeLegs config rounds others section side
legs_of_one config rounds others section side leg a b = record {
  port_is = sym a.port_is ∙ b.port_is;
  family_is = sym a.family_is ∙ b.family_is;
  offered_is = sym a.offered_is ∙ b.offered_is;
  in_force_is = sym a.in_force_is ∙ b.in_force_is;
  keys_are = λ suite. sym (a.keys_are suite) ∙ b.keys_are suite;
  key_in_force_is = sym a.key_in_force_is ∙ b.key_in_force_is;
}

sections_of_one : (config : Config) (rounds others : List Round) (section : ℕ) (kept : DialogSection) → SectionFor config rounds section kept → SectionFor config others section kept →
    AlikeSections config rounds others section
sections_of_one config rounds others section kept a b = record {
  pairs_are = sym a.pairs_are ∙ b.pairs_are;
  committed_is = sym a.committed_is ∙ b.committed_is;
  legs_are = λ side. legs_of_one config rounds others section side (leg_at kept side) (a.legs_are side) (b.legs_are side);
}

made_of_one : (offer other : MadeOffer) (section : ℕ) (made : MadeSection) → MadeFor offer section made → MadeFor other section made → AlikeMade offer other section
made_of_one offer other section made a b = record {
  section_is = sym a.section_is ∙ b.section_is;
  line_is = sym a.line_is ∙ b.line_is;
  written_is = sym a.written_is ∙ b.written_is;
  lines_are = sym a.lines_are ∙ b.lines_are;
}

offers_of_one : (offer other : MadeOffer) (last : LastOffer) → LastFor offer last → LastFor other last → AlikeOffers offer other
offers_of_one offer other last a b = record {
  from_tag_is = sym a.from_tag_is ∙ b.from_tag_is;
  maker_is = sym a.maker_is ∙ b.maker_is;
  options_are = sym a.options_are ∙ b.options_are;
  count_is = sym a.count_is ∙ b.count_is;
  few = b.few;
  heard = b.heard;
  sections_are = λ section below. made_of_one offer other section _ (a.sections_are section below) (b.sections_are section below);
}

last_of_one : (offer other : Option MadeOffer) (last : Option LastOffer) → OfferKept offer last → OfferKept other last → AlikeLast offer other
last_of_one None None last a b = tt
last_of_one None (Some other) None a b = elim b [ ]
last_of_one None (Some other) (Some last) a b = elim a [ ]
last_of_one (Some offer) None None a b = elim a [ ]
last_of_one (Some offer) None (Some last) a b = elim b [ ]
last_of_one (Some offer) (Some other) None a b = elim a [ ]
last_of_one (Some offer) (Some other) (Some last) a b = offers_of_one offer other last a b

pub alike_of_one : (config : Config) (dialog : Dialog) (rounds others : List Round) → DialogFor config dialog rounds → DialogFor config dialog others → Alike config rounds others
alike_of_one config dialog rounds others a b = record {
  begun_is = sym a.begun_is ∙ b.begun_is;
  first_tag_is = sym a.first_tag_is ∙ b.first_tag_is;
  answering_tag_is = sym a.answering_tag_is ∙ b.answering_tag_is;
  has_answer_is = sym a.has_answer_is ∙ b.has_answer_is;
  is_settled_is = sym a.is_settled_is ∙ b.is_settled_is;
  committed_count_is = sym a.committed_count_is ∙ b.committed_count_is;
  offer_is = last_of_one (last_offer rounds) (last_offer others) dialog.last_offer a.offer_is b.offer_is;
  sections_are = λ section below. sections_of_one config rounds others section _ (a.sections_are section below) (b.sections_are section below);
  no_more = a.no_more;
  none_more = b.no_more;
}

-- A dialog that stands for rounds stands for what is alike.

leg_moves : (config : Config) (rounds others : List Round) (section : ℕ) (side : Side) (leg : Leg) → AlikeLegs config rounds others section side → LegFor config rounds section side leg →
    LegFor config others section side leg
leg_moves config rounds others section side leg s a = record {
  port_is = a.port_is ∙ s.port_is;
  family_is = a.family_is ∙ s.family_is;
  offered_is = a.offered_is ∙ s.offered_is;
  in_force_is = a.in_force_is ∙ s.in_force_is;
  keys_are = λ suite. a.keys_are suite ∙ s.keys_are suite;
  key_in_force_is = a.key_in_force_is ∙ s.key_in_force_is;
}

section_moves : (config : Config) (rounds others : List Round) (section : ℕ) (kept : DialogSection) → AlikeSections config rounds others section → SectionFor config rounds section kept →
    SectionFor config others section kept
section_moves config rounds others section kept s a = record {
  pairs_are = a.pairs_are ∙ s.pairs_are;
  committed_is = a.committed_is ∙ s.committed_is;
  legs_are = λ side. leg_moves config rounds others section side (leg_at kept side) (s.legs_are side) (a.legs_are side);
}

made_moves : (offer other : MadeOffer) (section : ℕ) (made : MadeSection) → AlikeMade offer other section → MadeFor offer section made → MadeFor other section made
made_moves offer other section made s a = record {
  section_is = a.section_is ∙ s.section_is;
  line_is = a.line_is ∙ s.line_is;
  written_is = a.written_is ∙ s.written_is;
  lines_are = a.lines_are ∙ s.lines_are;
}

offer_moves : (offer other : MadeOffer) (last : LastOffer) → AlikeOffers offer other → LastFor offer last → LastFor other last
offer_moves offer other last s a = record {
  from_tag_is = a.from_tag_is ∙ s.from_tag_is;
  maker_is = a.maker_is ∙ s.maker_is;
  options_are = a.options_are ∙ s.options_are;
  count_is = a.count_is ∙ s.count_is;
  few = s.few;
  heard = s.heard;
  sections_are = λ section below. made_moves offer other section _ (s.sections_are section below) (a.sections_are section below);
}

last_moves : (offer other : Option MadeOffer) (last : Option LastOffer) → AlikeLast offer other → OfferKept offer last → OfferKept other last
last_moves None None None s a = tt
last_moves None None (Some last) s a = a
last_moves None (Some other) last s a = elim s [ ]
last_moves (Some offer) None last s a = elim s [ ]
last_moves (Some offer) (Some other) None s a = a
last_moves (Some offer) (Some other) (Some last) s a = offer_moves offer other last s a

pub stands_for_alike : (config : Config) (dialog : Dialog) (rounds others : List Round) → Alike config rounds others → DialogFor config dialog rounds → DialogFor config dialog others
stands_for_alike config dialog rounds others s a = record {
  begun_is = a.begun_is ∙ s.begun_is;
  first_tag_is = a.first_tag_is ∙ s.first_tag_is;
  answering_tag_is = a.answering_tag_is ∙ s.answering_tag_is;
  has_answer_is = a.has_answer_is ∙ s.has_answer_is;
  is_settled_is = a.is_settled_is ∙ s.is_settled_is;
  committed_count_is = a.committed_count_is ∙ s.committed_count_is;
  offer_is = last_moves (last_offer rounds) (last_offer others) dialog.last_offer s.offer_is a.offer_is;
  sections_are = λ section below. section_moves config rounds others section _ (s.sections_are section below) (a.sections_are section below);
  no_more = s.none_more;
}

-- The sections of the last offers, also where there are none.

-- a section past the last isn't there
pub section_past : (sdp : List ℕ) (section : ℕ) → section_count sdp ≤ section → section_in sdp section ≡ no_section
section_past sdp section past = ap (λ o. unwrap_or o no_section) (past-end (sections_of sdp) section past)

pub section_alike : (offer other : MadeOffer) (section : ℕ) → AlikeOffers offer other → section_in offer.ask.sdp section ≡ section_in other.ask.sdp section
section_alike offer other section s = elim (cases_lt section most_sections) [
  | inl below ↦ (s.sections_are section below).section_is
  | inr past ↦
      section_past offer.ask.sdp section (omega (arith, past, s.count_is, s.few))
      ∙ sym (section_past other.ask.sdp section (omega (arith, past, s.few)))
]

-- a section is active in both last offers or in neither, and no section past those that are kept is
pub active_alike : (offer other : Option MadeOffer) (section : ℕ) → AlikeLast offer other →
    is_active_in (elim offer [ None ↦ [] | Some made ↦ made.ask.sdp ]) section ≡ is_active_in (elim other [ None ↦ [] | Some made ↦ made.ask.sdp ]) section
active_alike None None section s = refl
active_alike None (Some other) section s = elim s [ ]
active_alike (Some offer) None section s = elim s [ ]
active_alike (Some offer) (Some other) section s = ap is_active (section_alike offer other section s)

pub inactive_past : (sdp : List ℕ) (section : ℕ) → section_count sdp ≤ most_sections → most_sections ≤ section → is_active_in sdp section ≡ false
inactive_past sdp section few past = ap is_active (section_past sdp section (omega (arith, few, past)))

none_there : section_count [] ≡ 0
none_there = refl

pub inactive_beyond : (offer other : Option MadeOffer) (section : ℕ) → AlikeLast offer other → most_sections ≤ section →
    is_active_in (elim other [ None ↦ [] | Some made ↦ made.ask.sdp ]) section ≡ false
inactive_beyond None None section s past = inactive_past [] section (omega (arith, none_there)) past
inactive_beyond None (Some other) section s past = elim s [ ]
inactive_beyond (Some offer) None section s past = elim s [ ]
inactive_beyond (Some offer) (Some other) section s past = inactive_past other.ask.sdp section s.few past

-- the number of sections of both
pub count_alike : (offer other : Option MadeOffer) → AlikeLast offer other →
    section_count (elim offer [ None ↦ [] | Some made ↦ made.ask.sdp ]) ≡ section_count (elim other [ None ↦ [] | Some made ↦ made.ask.sdp ])
count_alike None None s = refl
count_alike None (Some other) s = elim s [ ]
count_alike (Some offer) None s = elim s [ ]
count_alike (Some offer) (Some other) s = s.count_is
