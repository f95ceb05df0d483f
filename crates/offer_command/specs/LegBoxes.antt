-- The boxes and the ends of new legs.
use Rattle.std.specs.Prelude.{ℕ, List, [], ◌∷◌}
use Rattle.relay_outside.specs.declared.settings.Config.{Config}
use Rattle.relay_outside.specs.declared.ports.InCall.{InCall}
use Rattle.relay_outside.specs.declared.ports.OutCall.{OutCall}
use Rattle.relay_outside.specs.DeviceLogs.{EndLog}
use Rattle.turn_table.specs.declared.hands.Hand.{Hand}
use Rattle.turn_table.specs.Hands.{IsSameHand}
use Rattle.histories.specs.Words.{In}
use Rattle.port_pool.specs.declared.holder.Holder.{Holder}
use Rattle.port_pool.specs.declared.pairs.Lease.{Lease}
use Rattle.port_pool.specs.Boxes.{Open}
use Rattle.media_ports.specs.declared.ends.PairEnds.{PairEnds}
use Rattle.relay_core.specs.declared.part.Part.{Part}
use Rattle.relay_core.specs.Entries.{Box, box_of}
use Rattle.relay_core.specs.Records.{Made}
use Rattle.board_turns.specs.NestedSteps.{IsShut, OpensBox, nested}

-- the boxes of these pairs are shut
abbrev pub AreShut : {M I O T : Type 0} {g : _} → Config → Hand M (Part I O) Made T g → List ℕ → Type 0
AreShut config hand pairs = (pair : ℕ) → In pair pairs → IsShut config hand pair

-- a lease with the out ends of its pair, that for RTP first
abbrev pub leg_parts : {I O : Type 0} → Lease → PairEnds I O → Lease × O × O
leg_parts lease ends = (lease, ends.rtp_out, ends.rtcp_out)

-- each lease with the out ends of its pair, in order
abbrev pub leased_parts : {I O : Type 0} → List Lease → List (PairEnds I O) → List (Lease × O × O)
leased_parts [] opened = []
leased_parts (lease ∷ leases) [] = []
leased_parts (lease ∷ leases) (ends ∷ opened) = leg_parts lease ends ∷ leased_parts leases opened

module _ {I O : Type 0} (in_told : I → EndLog InCall) (in_faults : I → ℕ) (out_told : O → EndLog OutCall) (out_faults : O → ℕ) where
  -- the hand opened the box of the leg's pair for the leg, with the in ends of the pair
  pub record IsBoxOpened {M T : Type 0} {g : _} (config : Config) (number moment : ℕ) (begun : Hand M (Part I O) Made T g) (leg : Holder) (ends : PairEnds I O) : Type 0 where
    pub hand : Hand M (Part I O) Made T g
    pub same : IsSameHand begun hand
    pub opens : OpensBox in_told in_faults out_told out_faults hand (box_of config leg.pair) (nested number moment 0 (Box (Open leg))) (ends.rtp_in, ends.rtcp_in)
