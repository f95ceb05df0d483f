-- What a dialog becomes by an offer, while the offer's ports and keys come in.
use Rattle.std.specs.Prelude.{◌≡◌, ◌<◌, ◌≤◌, ◌+◌, ℕ, List, [], ◌∷◌, Bool, ◌||◌, Option, Some, None, if◌then◌else◌, filter, unwrap_or, option_map, slice_index_or}
use Rattle.histories.specs.Words.{or_else}
use Rattle.relay_outside.specs.declared.address.Family.{Family}
use Rattle.relay_outside.specs.declared.settings.Config.{Config}
use Rattle.sdes_lines.specs.declared.crypto_line.Suite.{Suite}
use Rattle.sdes_lines.specs.declared.crypto_line.CryptoLine.{CryptoLine}
use Rattle.port_pool.specs.declared.holder.Side.{Side}
use Rattle.port_pool.specs.Signals.{NewKey}
use Rattle.offer_answer.specs.Rounds.{Round, Offered, OfferAsk, KeyPlace}
use Rattle.offer_answer.specs.Sides.{offerer}
use Rattle.offer_answer.specs.Sections.{most_sections, section_in, section_count, is_active_in, is_committed}
use Rattle.offer_answer.specs.Profiles.{profile_offered, profile_in_force, written_profile}
use Rattle.offer_answer.specs.Keys.{chosen_in, is_for, key_among, leg_key, key_in_force}
use Rattle.offer_answer.specs.Families.{family_after}
use Rattle.offer_answer.specs.Demands.{new_legs}
use Rattle.offer_answer.specs.Plan.{OfferRead}
use Rattle.offer_answer.specs.Texts.{new_port, standing_port}
use Rattle.offer_answer.specs.Dialogs.{drawn_for_leg, key_for, leg_at, no_state}
use Rattle.offer_answer.specs.LastOffers.{no_made}
use Rattle.offer_answer.specs.declared.leg.DrawnKey.{DrawnKey}
use Rattle.offer_answer.specs.declared.leg.Leg.{Leg}
use Rattle.offer_answer.specs.declared.leg.DialogSection.{DialogSection}
use Rattle.offer_answer.specs.declared.last_offer.MadeSection.{MadeSection}
use Rattle.offer_answer.specs.declared.last_offer.LastOffer.{LastOffer}
use Rattle.offer_answer.specs.declared.last_offer.OfferedNext.{OfferedNext}

-- the keys that were drawn for these places, in order, with the numbers from the first one on
abbrev pub numbered_keys : ℕ → List (List ℕ) → List KeyPlace → List NewKey
numbered_keys first [] places = []
numbered_keys first (bytes ∷ keys) [] = []
numbered_keys first (bytes ∷ keys) (place ∷ places) =
    record { number = first; section = place.section; side = place.side; suite = place.suite; bytes = bytes } ∷ numbered_keys (first + 1) keys places

-- after an offer a section has pairs where the offer uses it, and where an answer has committed those that it had
abbrev pub pairs_after : List Round → OfferAsk → ℕ → Bool
pairs_after rounds ask section = is_active_in ask.sdp section || is_committed rounds section

-- a port that the leg keeps
abbrev pub port_kept : Config → List Round → OfferAsk → ℕ → Side → Option ℕ
port_kept config rounds ask section side = if pairs_after rounds ask section then standing_port config rounds section side else None

-- the family of the leg; none where the section has no pairs after the offer
abbrev pub family_next : List Round → OfferAsk → ℕ → Side → Option Family
family_next rounds ask section side = if pairs_after rounds ask section then Some (family_after rounds ask section side) else None

-- a key that the leg keeps
abbrev pub key_kept : List Round → OfferAsk → ℕ → Side → Suite → Option NewKey
key_kept rounds ask section side suite = if pairs_after rounds ask section then leg_key rounds section side suite else None

-- the crypto line with this tag that carries a key
abbrev pub carrying : ℕ → DrawnKey → CryptoLine
carrying tag key = record { tag = tag; suite = key.suite; key = key.bytes }

-- a leg after the offer, as far as these ports and keys have come
pub record LegNext (config : Config) (rounds : List Round) (ask : OfferAsk) (ports : List ℕ) (keys : List NewKey) (section : ℕ) (side : Side) (leg : Leg) : Type 0 where
  pub port_is : leg.port ≡ unwrap_or (or_else (new_port (new_legs rounds ask) ports section side) (port_kept config rounds ask section side)) 0
  pub family_is : leg.family ≡ family_next rounds ask section side
  pub offered_is : leg.offered ≡ profile_offered (Offered ask [] [] ∷ rounds) section side
  pub in_force_is : leg.in_force ≡ profile_in_force rounds section side
  pub keys_are : (suite : Suite) →
      option_map (drawn_for_leg section side) (key_for leg suite) ≡ or_else (key_among (filter (is_for section side) keys) suite) (key_kept rounds ask section side suite)
  pub key_in_force_is : option_map (drawn_for_leg section side) leg.key_in_force ≡ key_in_force rounds section side

pub record SectionNext (config : Config) (rounds : List Round) (ask : OfferAsk) (ports : List ℕ) (keys : List NewKey) (section : ℕ) (kept : DialogSection) : Type 0 where
  pub pairs_are : kept.has_pairs ≡ pairs_after rounds ask section
  pub committed_is : kept.is_committed ≡ is_committed rounds section
  pub legs_are : (side : Side) → LegNext config rounds ask ports keys section side (leg_at kept side)

-- what is kept of a section of the offer, before the lines that the other side is offered are known
pub record MadeNext (rounds : List Round) (ask : OfferAsk) (section : ℕ) (made : MadeSection) : Type 0 where
  pub section_is : made.section ≡ section_in ask.sdp section
  pub line_is : made.line ≡ chosen_in ask.chosen section
  pub written_is : made.written ≡ written_profile rounds ask section

-- what is kept of the offer
pub record LastNext (rounds : List Round) (ask : OfferAsk) (last : LastOffer) : Type 0 where
  pub from_tag_is : last.from_tag.list ≡ ask.from_tag
  pub maker_is : last.maker ≡ offerer rounds ask
  pub options_are : last.options ≡ ask.options
  pub count_is : last.count ≡ section_count ask.sdp
  pub few : section_count ask.sdp ≤ most_sections
  pub heard : OfferRead ask
  pub sections_are : (section : ℕ) → section < most_sections → MadeNext rounds ask section (slice_index_or last.sections section no_made)

-- The offer after these rounds is kept, and the sections are as after it, as far as these ports and keys have come.
pub record NextFor (config : Config) (rounds : List Round) (ask : OfferAsk) (ports : List ℕ) (keys : List NewKey) (next : OfferedNext) : Type 0 where
  pub last_for : LastNext rounds ask next.last
  pub sections_are : (section : ℕ) → section < most_sections → SectionNext config rounds ask ports keys section (slice_index_or next.sections section no_state)
