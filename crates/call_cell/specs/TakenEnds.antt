-- The out ends of a cell's legs, taken out one leg after the other, before the cell is saved.
use Rattle.std.specs.Prelude.{◌≡◌, List, [], ◌∷◌, Option, Some, None, is_some, if◌then◌else◌}
use Rattle.relay_outside.specs.declared.address.Addr.{Addr}
use Rattle.relay_outside.specs.declared.settings.Config.{Config}
use Rattle.histories.specs.Words.{or_else}
use Rattle.port_pool.specs.Ports.{interface_of, port_at}
use Rattle.port_pool.specs.declared.pairs.Lease.{Lease}
use Rattle.call_cell.specs.declared.leg.Leg.{Leg}
use Rattle.call_cell.specs.declared.cell.Cell.{Cell}
use Rattle.call_cell.specs.LegHistories.{with_sending}

-- the address of the port for RTP of a leased pair
abbrev pub leased_address : Config → Lease → Addr
leased_address config lease = port_at (interface_of config lease.family) lease.rtp_port

abbrev pub ends_by_address : {O : Type 0} → Addr → Option (O × O) → Option (Addr × O × O)
ends_by_address at None = None
ends_by_address at (Some ends) = Some (at, ends.0, ends.1)

abbrev pub without_ends : {O : Type 0} → Leg O → Leg O
without_ends leg = with_sending leg (record { ends = None; tag80 = leg.sending.tag80; tag32 = leg.sending.tag32 })

-- the address and the ends of the first leg that has some
abbrev pub first_ends : {O : Type 0} → Config → List (Leg O) → Option (Addr × O × O)
first_ends config [] = None
first_ends config (leg ∷ legs) = or_else (ends_by_address (leased_address config leg.lease) leg.sending.ends) (first_ends config legs)

-- the legs, where the first that has ends gave them
abbrev pub without_first : {O : Type 0} → List (Leg O) → List (Leg O)
without_first [] = []
without_first (leg ∷ legs) = if is_some leg.sending.ends then without_ends leg ∷ legs else leg ∷ without_first legs

-- the first leg that has its ends gives them, and nothing else changes
pub record TakesEnds {O : Type 0} (old new : Cell O) (result : Option (Addr × O × O)) : Type 0 where
  pub taken : result ≡ first_ends old.config old.legs.items
  pub legs : new.legs.items ≡ without_first old.legs.items
  pub config : new.config ≡ old.config
  pub moment : new.moment ≡ old.moment
  pub call : new.call ≡ old.call
  pub began : new.began ≡ old.began
  pub is_committed : new.is_committed ≡ old.is_committed
  pub active : new.active ≡ old.active
