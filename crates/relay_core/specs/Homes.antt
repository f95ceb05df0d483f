-- The ends that the parts of a relay keep are those of their ports, whatever the histories of the parts.
use Rattle.std.specs.Prelude.{◌≡◌, ◌<◌, ◌≤◌, ℕ, List, Some, slice_get}
use Rattle.relay_outside.specs.declared.ports.InCall.{InCall}
use Rattle.relay_outside.specs.declared.ports.OutCall.{OutCall}
use Rattle.relay_outside.specs.declared.settings.Config.{Config}
use Rattle.relay_outside.specs.DeviceLogs.{EndLog}
use Rattle.histories.specs.Words.{In}
use Rattle.port_pool.specs.Ports.{pair_count}
use Rattle.call_cell.specs.declared.leg.Leg.{Leg}
use Rattle.call_cell.specs.declared.cell.Cell as cell
use Rattle.relay_core.specs.declared.part.Part.{Part}
use Rattle.relay_core.specs.declared.part.Part.TheVariants as part
use Rattle.relay_core.specs.Entries.{box_of}
use Rattle.relay_core.specs.PlaceHistories.{LegsHome, BoxHome}

-- the lease of each leg is of the pair of its holder
abbrev pub ArePaired : {O : Type 0} → List (Leg O) → Type 0
ArePaired {O} those = (leg : Leg O) → In leg those → leg.lease.pair ≡ leg.holder.pair

-- a cell that is run with this configuration, whose legs are in leases of their pairs and, where they have out ends, have those that
-- were opened for the ports of their pairs
pub record IsCellHome {O : Type 0} (log : O → EndLog OutCall) (config : Config) (cell : cell.Cell O) : Type 0 where
  pub config_is : cell.config ≡ config
  pub paired : ArePaired cell.legs.items
  pub legs : LegsHome log config cell.legs.items

module _ {I O : Type 0} where
  -- the state is such a cell
  abbrev pub KeepsHome : (O → EndLog OutCall) → Config → Part I O → Type 0
  KeepsHome log config (part.Cell cell) = IsCellHome log config cell
  KeepsHome log config _ = ⊥

  -- The ends that the parts keep are those of their ports: at the place of each call that may be live is such a cell, and at that of
  -- each pair the pair's box, whose in ends, where it has some, were opened for the two ports of the pair
  pub record AreEndsHome (in_log : I → EndLog InCall) (out_log : O → EndLog OutCall) (config : Config) (parts : List (Part I O)) : Type 0 where
    pub cells : (k : ℕ) (x : Part I O) → 1 ≤ k → k ≤ config.max_sessions → slice_get parts k ≡ Some x → KeepsHome out_log config x
    pub boxes : (pair : ℕ) (x : Part I O) → pair < pair_count config → slice_get parts (box_of config pair) ≡ Some x → BoxHome in_log config pair x
