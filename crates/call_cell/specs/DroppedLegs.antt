-- Legs of some sections go from a cell, and the others stay.
use Rattle.std.specs.Prelude.{◌≡◌, ◌<◌, ◌+◌, ◌≤◌, ◌++◌, ℕ, Bool, false, not, List, [], ◌∷◌, filter, filter_map, length, map, slice_index_or, Some, ◌⊎◌, if◌then◌else◌}
use Rattle.std.specs.Option.{option_to_list}
use Rattle.histories.specs.Words.{In}
use Rattle.port_pool.specs.declared.pairs.Lease.{Lease}
use Rattle.call_cell.specs.declared.leg.Leg.{Leg}
use Rattle.call_cell.specs.CellEnds.{parts_of}

-- the flags of 8 sections say this
abbrev pub FlagsAre : List Bool → (ℕ → Bool) → Type 0
FlagsAre flags test = (section : ℕ) → section < 8 → slice_index_or flags section false ≡ test section

abbrev pub goes : {O : Type 0} → List Bool → Leg O → Bool
goes flags leg = slice_index_or flags leg.holder.section false

abbrev pub stays : {O : Type 0} → List Bool → Leg O → Bool
stays flags leg = not (goes flags leg)

-- the leg, where it stays
abbrev pub staying : {O : Type 0} → List Bool → Leg O → List (Leg O)
staying flags leg = if stays flags leg then leg ∷ [] else []

-- what goes with the leg, where it goes and has its ends
abbrev pub going : {O : Type 0} → List Bool → Leg O → List (Lease × O × O)
going flags leg = if goes flags leg then option_to_list (parts_of leg) else []

-- where there is room, the legs of the sections with a flag went, in their order, those without ends nowhere
abbrev pub Part : {O : Type 0} → List Bool → List (Leg O) → List (Leg O) → List (Lease × O × O) → List (Lease × O × O) → Type 0
Part {O} flags old new before after = length before + length old ≤ 16 → (new ≡ filter (λ (leg : Leg O). stays flags leg) old)
    × (after ≡ before ++ filter_map (λ (leg : Leg O). parts_of leg) (filter (λ (leg : Leg O). goes flags leg) old))

-- with room or without: the legs that are there were there, and what went since then are leases and ends of legs that were there
pub record StayWhole {O : Type 0} (old new : List (Leg O)) (before after : List (Lease × O × O)) : Type 0 where
  pub stay : (leg : Leg O) → In leg new → In leg old
  pub went : (parts : Lease × O × O) → In parts after → In parts before ⊎ In (Some parts) (map (λ (leg : Leg O). parts_of leg) old)
