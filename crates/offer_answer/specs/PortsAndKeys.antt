-- What the sections of a dialog become by an offer, once its pairs are leased and its keys drawn.
use Rattle.std.specs.Prelude.{◌≡◌, ◌<◌, ℕ, List, ◌∷◌, true, Some, map, unwrap_or, slice_index_or}
use Rattle.histories.specs.Words.{or_else}
use Rattle.relay_outside.specs.declared.settings.Config.{Config}
use Rattle.port_pool.specs.declared.holder.Side.{Side}
use Rattle.port_pool.specs.declared.holder.Holder.{Holder}
use Rattle.port_pool.specs.Signals.{NewKey}
use Rattle.port_pool.specs.Ports.{pair_port}
use Rattle.offer_answer.specs.Rounds.{Round, Offered, OfferAsk}
use Rattle.offer_answer.specs.Sections.{most_sections, is_active_in}
use Rattle.offer_answer.specs.Families.{family_after}
use Rattle.offer_answer.specs.Demands.{new_legs}
use Rattle.offer_answer.specs.Texts.{new_port, standing_port}
use Rattle.offer_answer.specs.Laws.{leg_place, new_leg_place}
use Rattle.offer_answer.specs.Dialogs.{SectionFor, leg_at, no_state}
use Rattle.offer_answer.specs.LastOffers.{LastFor}
use Rattle.offer_answer.specs.declared.last_offer.OfferedNext.{OfferedNext}

-- the legs are those that the offer demanded pairs for, and have these RTP ports, in the order of leases
pub record AreDemandedLegs (config : Config) (rounds : List Round) (ask : OfferAsk) (ports : List ℕ) (legs : List Holder) : Type 0 where
  pub places_are : map leg_place legs ≡ map new_leg_place (new_legs rounds ask)
  pub ports_are : map (λ leg. pair_port config leg.pair) legs ≡ ports

-- the RTP port of a section's leg: of its new pair, or of the one that it has
abbrev pub port_after : Config → List Round → OfferAsk → List ℕ → ℕ → Side → ℕ
port_after config rounds ask ports section side =
    unwrap_or (or_else (new_port (new_legs rounds ask) ports section side) (standing_port config rounds section side)) 0

-- The offer after these rounds is kept, with its new ports and keys, and the sections are as after it.
pub record FilledFor (config : Config) (rounds : List Round) (ask : OfferAsk) (ports : List ℕ) (keys : List NewKey) (next : OfferedNext) : Type 0 where
  pub last_for : LastFor (record { ask = ask; keys = keys; before = rounds }) next.last
  pub ports_are : (section : ℕ) (side : Side) → section < most_sections → is_active_in ask.sdp section ≡ true →
      (leg_at (slice_index_or next.sections section no_state) side).port ≡ port_after config rounds ask ports section side
  pub families_are : (section : ℕ) (side : Side) → section < most_sections → is_active_in ask.sdp section ≡ true →
      (leg_at (slice_index_or next.sections section no_state) side).family ≡ Some (family_after rounds ask section side)
  pub sections_are : (legs : List Holder) (section : ℕ) → AreDemandedLegs config rounds ask ports legs → section < most_sections →
      SectionFor config (Offered ask legs keys ∷ rounds) section (slice_index_or next.sections section no_state)
