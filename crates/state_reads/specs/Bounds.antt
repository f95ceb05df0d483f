-- How great the counts of a state may be: a node that goes on with it counts from there.
use Rattle.std.specs.Prelude.{ℕ, ◌<◌, ◌^◌, List, All}
use Rattle.call_cell.specs.declared.counts.Counts.{Counts}
use Rattle.call_cell.specs.declared.saved.LegSaved.{LegSaved}
use Rattle.call_cell.specs.declared.saved.CellSaved.{CellSaved}
use Rattle.port_pool.specs.SavedLeases.{FitsLease}
use Rattle.state_values.specs.SignalTrees.{FitsHolder}
use Rattle.state_values.specs.CellLegTrees.{FitsPacketCounts}
use Rattle.state_values.specs.declared.relays.RelaySaved.{RelaySaved}

-- below 2 ^ 62
abbrev pub IsCountBelow : ℕ → Type 0
IsCountBelow number = number < 2 ^ 62

-- of calls that were begun, and of keys that were drawn
pub record RelayCounts (saved : RelaySaved) : Type 0 where
  pub begun : IsCountBelow saved.begun
  pub drawn : IsCountBelow saved.drawn

-- as the generation of each pair
abbrev pub AreCounts : List ℕ → Type 0
AreCounts generations = All IsCountBelow generations

-- of accepted and sent packets
pub record PacketCounts (counts : Counts) : Type 0 where
  pub rtp_accepted : IsCountBelow counts.rtp_accepted
  pub rtp_sent : IsCountBelow counts.rtp_sent
  pub rtcp_accepted : IsCountBelow counts.rtcp_accepted
  pub rtcp_sent : IsCountBelow counts.rtcp_sent

-- those of a leg, and the generation of its holder and of its lease
pub record LegCounts (leg : LegSaved) : Type 0 where
  pub packets : PacketCounts leg.counts
  pub holder : IsCountBelow leg.holder.generation
  pub lease : IsCountBelow leg.lease.generation

-- of each leg of the cell
abbrev pub CellCounts : CellSaved → Type 0
CellCounts saved = All LegCounts saved.legs.items

-- the ranges of these numbers of a leg
pub record LegRanges (leg : LegSaved) : Type 0 where
  pub packets : FitsPacketCounts leg.counts
  pub holder : FitsHolder leg.holder
  pub lease : FitsLease leg.lease
