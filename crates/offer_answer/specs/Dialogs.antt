-- What a dialog keeps of the accepted offers and answers of a call.
use Rattle.std.specs.Prelude.{◌≡◌, ◌<◌, ◌≤◌, ℕ, List, false, Option, Some, None, if◌then◌else◌, unwrap_or, option_map, slice_index_or}
use Rattle.relay_outside.specs.declared.settings.Config.{Config}
use Rattle.sdes_lines.specs.declared.crypto_line.Suite.{Suite}
use Rattle.sdes_lines.specs.declared.crypto_line.Suite.TheVariants.{Tag80, Tag32}
use Rattle.port_pool.specs.declared.holder.Side.{Side}
use Rattle.port_pool.specs.declared.holder.Side.TheVariants.{A, B}
use Rattle.port_pool.specs.Signals.{NewKey}
use Rattle.ng_bencode.specs.Room.{Room}
use Rattle.offer_answer.specs.Rounds.{Round}
use Rattle.offer_answer.specs.Sides.{is_begun, has_answer, is_settled, first_tag, answering_tag, last_offer}
use Rattle.offer_answer.specs.Sections.{most_sections, has_pairs, is_committed, committed_count}
use Rattle.offer_answer.specs.Profiles.{profile_offered, profile_in_force}
use Rattle.offer_answer.specs.Keys.{leg_key, key_in_force}
use Rattle.offer_answer.specs.Families.{leg_family}
use Rattle.offer_answer.specs.Texts.{standing_port}
use Rattle.offer_answer.specs.LastOffers.{OfferKept}
use Rattle.offer_answer.specs.declared.leg.DrawnKey.{DrawnKey}
use Rattle.offer_answer.specs.declared.leg.Leg.{Leg}
use Rattle.offer_answer.specs.declared.leg.DialogSection.{DialogSection}
use Rattle.offer_answer.specs.declared.dialog.Dialog.{Dialog}

-- the leg's key for a suite
abbrev pub key_for : Leg → Suite → Option DrawnKey
key_for leg Tag80 = leg.long_key
key_for leg Tag32 = leg.short_key

abbrev pub leg_at : DialogSection → Side → Leg
leg_at kept A = kept.a
leg_at kept B = kept.b

-- a leg and a section of which nothing is known
abbrev pub no_leg : Leg
no_leg = record { port = 0; family = None; offered = None; in_force = None; long_key = None; short_key = None; key_in_force = None }

abbrev pub no_state : DialogSection
no_state = record { has_pairs = false; is_committed = false; a = no_leg; b = no_leg }

-- the key as one that was drawn for this leg
abbrev pub drawn_for_leg : ℕ → Side → DrawnKey → NewKey
drawn_for_leg section side key = record { number = key.number; section = section; side = side; suite = key.suite; bytes = key.bytes }

-- what is kept of a leg is what the rounds come to
pub record LegFor (config : Config) (rounds : List Round) (section : ℕ) (side : Side) (leg : Leg) : Type 0 where
  pub port_is : leg.port ≡ unwrap_or (standing_port config rounds section side) 0
  pub family_is : leg.family ≡ leg_family rounds section side
  pub offered_is : leg.offered ≡ profile_offered rounds section side
  pub in_force_is : leg.in_force ≡ profile_in_force rounds section side
  pub keys_are : (suite : Suite) → option_map (drawn_for_leg section side) (key_for leg suite) ≡ leg_key rounds section side suite
  pub key_in_force_is : option_map (drawn_for_leg section side) leg.key_in_force ≡ key_in_force rounds section side

pub record SectionFor (config : Config) (rounds : List Round) (section : ℕ) (kept : DialogSection) : Type 0 where
  pub pairs_are : kept.has_pairs ≡ has_pairs rounds section
  pub committed_is : kept.is_committed ≡ is_committed rounds section
  pub legs_are : (side : Side) → LegFor config rounds section side (leg_at kept side)

-- The dialog stands for these rounds: it keeps what they come to. A call has no more sections than it keeps.
pub record DialogFor (config : Config) (dialog : Dialog) (rounds : List Round) : Type 0 where
  pub begun_is : dialog.is_begun ≡ is_begun rounds
  pub first_tag_is : (if dialog.is_begun then Some dialog.first_tag.list else None) ≡ first_tag rounds
  pub answering_tag_is : option_map (λ (tag : Room ℕ). tag.list) dialog.answering_tag ≡ answering_tag rounds
  pub has_answer_is : dialog.has_answer ≡ has_answer rounds
  pub is_settled_is : dialog.is_settled ≡ is_settled rounds
  pub committed_count_is : dialog.committed_count ≡ committed_count rounds
  pub offer_is : OfferKept (last_offer rounds) dialog.last_offer
  pub sections_are : (section : ℕ) → section < most_sections → SectionFor config rounds section (slice_index_or dialog.sections section no_state)
  pub no_more : (section : ℕ) (side : Side) → most_sections ≤ section → profile_in_force rounds section side ≡ None

-- before its first offer the dialog awaits one from the side with this tag
abbrev pub Awaits : Dialog → List ℕ → Type 0
Awaits dialog tag = dialog.is_begun ≡ false → dialog.first_tag.list ≡ tag
