-- Which end of a pair a packet of a script arrives at, and what its take leaves.
use Rattle.std.specs.Prelude.{◌≡◌, ◌<◌, ℕ, List, Option, Some, None}
use Rattle.relay_outside.specs.declared.address.Ip.{Ip}
use Rattle.relay_outside.specs.declared.settings.Config.{Config}
use Rattle.relay_outside.specs.Settings.{ip_family}
use Rattle.rtp_packet.specs.declared.head.Half.{Half}
use Rattle.port_pool.specs.Ports.{pair_count, pair_family, half_port}
use Rattle.call_cell.specs.Cells.{Receipt}
use Rattle.port_pool.specs.Boxes.{holder}
use Rattle.relay_core.specs.Entries.{Entry, box_of, box_history}
use Rattle.relay_core.specs.Turns.{IsAbove}
use Rattle.media_lane.specs.Steps.{IsIn, AreOfTwoTakes}
use Rattle.replay_steps.specs.declared.line_packet.Arrived.{Arrived}
use Rattle.replay_steps.specs.declared.line_packet.Arrived.TheVariants as arrived
use Rattle.replay_steps.specs.Receipts.{taken_with_pair}

-- an end of a pair: the pair, and the half
abbrev pub End : Type 0
End = ℕ × Half

-- The end has this port, in the family of this address
pub record IsEndAt (config : Config) (port : ℕ) (source : Ip) (e : End) : Type 0 where
  pub in_range : e.0 < pair_count config
  pub port_is : half_port config e.0 e.1 ≡ port
  pub family : pair_family config e.0 ≡ ip_family source

-- no pair of the range has the port in that family
abbrev pub IsNoEnd : Config → (port : ℕ) → Ip → Type 0
IsNoEnd config port source = (e : End) → IsEndAt config port source e → ⊥

abbrev pub HasEnd : Config → (port : ℕ) → Ip → Option End → Type 0
HasEnd config port source None = IsNoEnd config port source
HasEnd config port source (Some e) = IsEndAt config port source e

-- the box of a pair has no holder, unless this is so
abbrev pub IsShutUnless : Config → List Entry → (pair : ℕ) → Type 0 → Type 0
IsShutUnless config l pair P = (P → ⊥) → (n : ℕ) → IsAbove l (box_of config pair) n → holder (box_history l (box_of config pair) n) ≡ None

-- a packet that was taken is a receipt of the list after it, of another take than all receipts before
abbrev pub IsGoodArrival : Config → List Entry → Arrived → List Entry → Type 0
IsGoodArrival config l (arrived.Packet r) new = IsIn config new (taken_with_pair r) × ((s : ℕ × Receipt) → IsIn config l s → AreOfTwoTakes (taken_with_pair r) s)
IsGoodArrival config l _ new = Unit {0}
