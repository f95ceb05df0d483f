-- What a dialog keeps of its call's legs that the call's cell keeps too, and what an offer makes of it. This is said of each dialog,
-- also of one that stands for no rounds.
use Rattle.std.specs.Prelude.{◌≡◌, ◌<◌, ◌==◌, ◌&&◌, ◌||◌, ℕ, Bool, false, not, List, Option, None, Some, if◌then◌else◌, filter, map, unwrap_or, option_map, slice_get, slice_index_or}
use Rattle.std.specs.List.{list_any}
use Rattle.histories.specs.Words.{or_else, numbers}
use Rattle.sdes_lines.specs.declared.crypto_line.Suite.{Suite}
use Rattle.sdes_lines.specs.declared.crypto_line.Suite.TheVariants.{Tag80, Tag32}
use Rattle.sdp_text.specs.Descriptions.{sections_in}
use Rattle.port_pool.specs.declared.holder.Side.{Side}
use Rattle.port_pool.specs.declared.holder.Side.TheVariants.{A, B}
use Rattle.port_pool.specs.Signals.{NewKey}
use Rattle.offer_answer.specs.Rounds.{NewLeg, KeyPlace}
use Rattle.offer_answer.specs.Sections.{most_sections, no_section, is_active}
use Rattle.offer_answer.specs.Keys.{is_for, key_among}
use Rattle.offer_answer.specs.Texts.{new_port}
use Rattle.offer_answer.specs.Dialogs.{no_state}
use Rattle.offer_answer.specs.Offers.{legs_demanded, key_asked}
use Rattle.offer_answer.specs.declared.leg.DrawnKey.{DrawnKey}
use Rattle.offer_answer.specs.declared.leg.Leg.{Leg}
use Rattle.offer_answer.specs.declared.leg.DialogSection.{DialogSection}
use Rattle.offer_answer.specs.declared.dialog.Dialog.{Dialog}
use Rattle.offer_answer.specs.declared.plan.Next.{Next}
use Rattle.offer_answer.specs.declared.plan.Next.TheVariants.{Offer, Answer}
use Rattle.offer_answer.specs.declared.plan.Plan.{Plan}

-- a leg's RTP port, 0 where it has none, and its keys and the one in force, each by its number and its suite
pub record LegShape : Type 0 where
  pub port : ℕ
  pub long_key : Option (ℕ × Suite)
  pub short_key : Option (ℕ × Suite)
  pub key_in_force : Option (ℕ × Suite)

-- whether the section has pairs, whether an answer has committed it since it got them, and its legs
pub record SectionShape : Type 0 where
  pub has_pairs : Bool
  pub is_committed : Bool
  pub a : LegShape
  pub b : LegShape

abbrev pub key_shape : DrawnKey → ℕ × Suite
key_shape key = (key.number, key.suite)

abbrev pub leg_shape : Leg → LegShape
leg_shape leg = record {
  port = leg.port;
  long_key = option_map key_shape leg.long_key;
  short_key = option_map key_shape leg.short_key;
  key_in_force = option_map key_shape leg.key_in_force;
}

-- a section without pairs isn't committed, whatever is kept of it
abbrev pub section_shape : DialogSection → SectionShape
section_shape kept = record {
  has_pairs = kept.has_pairs;
  is_committed = kept.has_pairs && kept.is_committed;
  a = leg_shape kept.a;
  b = leg_shape kept.b;
}

-- the shape of one of these sections, from 0
abbrev pub shape_in : List DialogSection → ℕ → SectionShape
shape_in sections section = section_shape (slice_index_or sections section no_state)

abbrev pub shape_of : Dialog → ℕ → SectionShape
shape_of dialog section = shape_in dialog.sections section

abbrev pub no_leg_shape : LegShape
no_leg_shape = record { port = 0; long_key = None; short_key = None; key_in_force = None }

-- a section that has no pairs
abbrev pub bare_shape : SectionShape
bare_shape = record { has_pairs = false; is_committed = false; a = no_leg_shape; b = no_leg_shape }

-- the section is active in a description of these lines
abbrev pub is_active_at : List (List ℕ) → ℕ → Bool
is_active_at lines section = is_active (unwrap_or (slice_get (sections_in lines) section) no_section)

-- an offer in which the section is active or not drops the section
abbrev pub is_dropped_from : Bool → SectionShape → Bool
is_dropped_from active old = old.has_pairs && not old.is_committed && not active

-- the section after such an offer, before its ports and keys are known
abbrev pub shape_after : Bool → SectionShape → SectionShape
shape_after active old = if is_dropped_from active old then bare_shape else record old { has_pairs = active || old.is_committed }

-- the section is one of those that pairs are demanded for
abbrev pub is_demanded : List NewLeg → ℕ → Bool
is_demanded legs section = list_any (λ (leg : NewLeg). leg.section == section) legs

-- the same, by what the plan of the offer demands and drops
abbrev pub shape_left : List NewLeg → Bool → ℕ → SectionShape → SectionShape
shape_left legs dropped section old = if dropped then bare_shape else record old { has_pairs = old.has_pairs || is_demanded legs section }

-- of these keys the one that was drawn for a leg and a suite
abbrev pub new_key_shape : NewKey → ℕ × Suite
new_key_shape key = (key.number, key.suite)

abbrev pub shape_drawn : List NewKey → ℕ → Side → Suite → Option (ℕ × Suite)
shape_drawn keys section side suite = option_map new_key_shape (key_among (filter (is_for section side) keys) suite)

-- the leg with its port and its keys, where they are among the new ones
abbrev pub leg_with_new : List NewLeg → List ℕ → List NewKey → ℕ → Side → LegShape → LegShape
leg_with_new legs ports keys section side leg = record {
  port = unwrap_or (new_port legs ports section side) leg.port;
  long_key = or_else (shape_drawn keys section side Tag80) leg.long_key;
  short_key = or_else (shape_drawn keys section side Tag32) leg.short_key;
  key_in_force = leg.key_in_force;
}

abbrev pub shape_with_new : List NewLeg → List ℕ → List NewKey → ℕ → SectionShape → SectionShape
shape_with_new legs ports keys section old = record {
  has_pairs = old.has_pairs;
  is_committed = old.is_committed;
  a = leg_with_new legs ports keys section A old.a;
  b = leg_with_new legs ports keys section B old.b;
}

abbrev pub drops_at : Plan → ℕ → Bool
drops_at plan section = slice_index_or plan.dropped section false

-- the section after the plan's offer, with these ports and keys
abbrev pub shape_offered : Plan → List ℕ → List NewKey → ℕ → SectionShape → SectionShape
shape_offered plan ports keys section old =
    shape_with_new (legs_demanded plan) ports keys section (shape_left (legs_demanded plan) (drops_at plan section) section old)

-- what the plan's offer makes of the dialog, before its ports and keys are known
abbrev pub OfferShapes : Plan → Dialog → Next → Type 0
OfferShapes plan dialog (Offer next) = (section : ℕ) → section < 8 →
    shape_in next.sections section ≡ shape_left (legs_demanded plan) (drops_at plan section) section (shape_of dialog section)
OfferShapes plan dialog (Answer next) = ⊥

-- and with them
abbrev pub FilledShapes : Plan → Dialog → List ℕ → List NewKey → Next → Type 0
FilledShapes plan dialog ports keys (Offer next) = (section : ℕ) → section < 8 →
    shape_in next.sections section ≡ shape_offered plan ports keys section (shape_of dialog section)
FilledShapes plan dialog ports keys (Answer next) = ⊥

-- the legs and suites that the plan demands keys for, in the order of draws
abbrev pub keys_demanded : Plan → List KeyPlace
keys_demanded plan = map key_asked plan.key_places.items

-- both plans demand and drop the same
pub record SamePlaces (old new : Plan) : Type 0 where
  pub pairs_are : legs_demanded new ≡ legs_demanded old
  pub keys_are : keys_demanded new ≡ keys_demanded old
  pub drops_are : new.dropped ≡ old.dropped

-- The dialog's eight sections, and how many sections its offers have.
pub record DialogShape : Type 0 where
  pub sections : List SectionShape
  pub offered_count : ℕ
  pub committed_count : ℕ

-- how many sections the last accepted offer has, 0 before the first
abbrev pub offered_count : Dialog → ℕ
offered_count dialog = elim dialog.last_offer [ None ↦ 0 | Some last ↦ last.count ]

abbrev pub dialog_shape : Dialog → DialogShape
dialog_shape dialog = record {
  sections = map (shape_of dialog) (numbers 0 most_sections);
  offered_count = offered_count dialog;
  committed_count = dialog.committed_count;
}
