-- What an offer demands.
use Rattle.std.specs.Prelude.{ℕ, List, [], ◌∷◌, Bool, not, ◌&&◌, filter, flat_map}
use Rattle.histories.specs.Words.{numbers}
use Rattle.port_pool.specs.declared.holder.Side.{Side}
use Rattle.port_pool.specs.Signals.{other_side}
use Rattle.offer_answer.specs.Rounds.{Round, OfferAsk, NewLeg, KeyPlace}
use Rattle.offer_answer.specs.Sides.{offerer}
use Rattle.offer_answer.specs.Sections.{most_sections, active_sections, is_active_in, has_pairs, is_committed}
use Rattle.offer_answer.specs.Keys.{section_keys}
use Rattle.offer_answer.specs.Families.{new_family}

-- the active sections without pairs
abbrev pub new_active_sections : List Round → OfferAsk → List ℕ
new_active_sections rounds ask = filter (λ section. not (has_pairs rounds section)) (active_sections ask.sdp)

abbrev pub new_leg : List Round → OfferAsk → ℕ → Side → NewLeg
new_leg rounds ask section side = record { section = section; side = side; family = new_family rounds ask section side }

-- a new section gets two pairs: for the leg that the reply names, which is the other side's, and for the offerer's
abbrev pub legs_for : List Round → OfferAsk → ℕ → List NewLeg
legs_for rounds ask section = new_leg rounds ask section (other_side (offerer rounds ask)) ∷ new_leg rounds ask section (offerer rounds ask) ∷ []

abbrev pub new_legs : List Round → OfferAsk → List NewLeg
new_legs rounds ask = flat_map (legs_for rounds ask) (new_active_sections rounds ask)

abbrev pub new_keys : List Round → OfferAsk → List KeyPlace
new_keys rounds ask = flat_map (section_keys rounds ask) (active_sections ask.sdp)

-- the section has pairs, no answer has committed it since, and this offer doesn't use it
abbrev pub is_dropped : List Round → OfferAsk → ℕ → Bool
is_dropped rounds ask section = has_pairs rounds section && not (is_committed rounds section) && not (is_active_in ask.sdp section)

abbrev pub dropped_sections : List Round → OfferAsk → List ℕ
dropped_sections rounds ask = filter (is_dropped rounds ask) (numbers 0 most_sections)
