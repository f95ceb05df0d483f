-- The out ends that the legs of a loaded cell are given, from a list of ends by address.
use Rattle.std.specs.Prelude.{◌≡◌, ◌≤◌, ◌<◌, ℕ, Bool, List, ◌∷◌, ◌++◌, filter, filter_map, count_by, length, Some, IsSome, slice_index_or}
use Rattle.relay_outside.specs.declared.address.Addr.{Addr}
use Rattle.relay_outside.specs.declared.settings.Config.{Config}
use Rattle.relay_outside.specs.Ports.{same_addr}
use Rattle.histories.specs.Words.{In}
use Rattle.call_cell.specs.declared.leg.Leg.{Leg}
use Rattle.call_cell.specs.declared.saved.LegSaved.{LegSaved}
use Rattle.call_cell.specs.LegHistories.{with_sending}
use Rattle.call_cell.specs.TakenEnds.{leased_address, ends_by_address}

-- the ends are of this address
abbrev pub is_of_address : {O : Type 0} → Addr → Addr × O × O → Bool
is_of_address at ends = same_addr ends.0 at

-- the saved leg's port for RTP has this address
abbrev pub is_saved_at : Config → Addr → LegSaved → Bool
is_saved_at config at leg = same_addr (leased_address config leg.lease) at

-- the leg with these ends
abbrev pub with_given_ends : {O : Type 0} → Leg O → O × O → Leg O
with_given_ends leg ends = with_sending leg (record { ends = Some ends; tag80 = leg.sending.tag80; tag32 = leg.sending.tag32 })

-- of each address the list has ends for all legs that were saved with it
abbrev pub HasEndsFor : {O : Type 0} → Config → List LegSaved → List (Addr × O × O) → Type 0
HasEndsFor config saved those = (at : Addr) → count_by (is_saved_at config at) saved ≤ count_by (is_of_address at) those

-- the ends of a cell's legs, in lease order, with the addresses of their ports for RTP
abbrev pub ends_with_addresses : {O : Type 0} → Config → List (Leg O) → List (Addr × O × O)
ends_with_addresses {O} config those = filter_map (λ (leg : Leg O). ends_by_address (leased_address config leg.lease) leg.sending.ends) those

-- what is left of a list stands in its order
pub record IsLeftOf {X : Type 0} (old new : List X) : Type 0 where
  pub place : ℕ → ℕ
  pub rises : (i j : ℕ) → i < j → place i < place j
  pub within : (i : ℕ) → i < length new → place i < length old
  pub same : (i : ℕ) (d : X) → i < length new → slice_index_or new i d ≡ slice_index_or old (place i) d

-- each leg has ends of the address of its port, and the list the others, in their order; of one address the earlier ends went, and
-- to the earlier leg the earlier
pub record GivesEnds {O : Type 0} (config : Config) (those : List (Leg O)) (old new : List (Addr × O × O)) : Type 0 where
  pub all : (leg : Leg O) → In leg those → IsSome leg.sending.ends
  pub given : (at : Addr) → filter (is_of_address at) old ≡ filter (is_of_address at) (ends_with_addresses config those ++ new)
  pub left : IsLeftOf old new

-- ends of an address were taken: the earliest of that address
pub record TakesEndsOf {O : Type 0} (at : Addr) (old new : List (Addr × O × O)) (result : O × O) : Type 0 where
  pub taken : (other : Addr) → filter (is_of_address other) old ≡ filter (is_of_address other) ((at, result.0, result.1) ∷ new)
  pub left : IsLeftOf old new
