-- The legs that went from a cell: when they may be closed, and what that adds to the lists.
use Rattle.std.specs.Prelude.{◌≡◌, ◌<◌, ℕ, not, true, Option, List, [], ◌∷◌, map, filter}
use Rattle.relay_outside.specs.declared.ports.InCall.{InCall}
use Rattle.relay_outside.specs.declared.ports.OutCall.{OutCall}
use Rattle.relay_outside.specs.declared.ports.PortCall.{PortCall}
use Rattle.relay_outside.specs.declared.ports.PortCall.TheVariants.{Close}
use Rattle.relay_outside.specs.declared.settings.Config.{Config}
use Rattle.relay_outside.specs.DeviceLogs.{EndLog, WhereLogged}
use Rattle.histories.specs.Words.{In, has}
use Rattle.rtp_packet.specs.declared.head.Half.TheVariants.{Rtp, Rtcp}
use Rattle.turn_table.specs.declared.hands.Hand.{Hand}
use Rattle.port_pool.specs.declared.pairs.Lease.{Lease}
use Rattle.port_pool.specs.Ports.{pair_count}
use Rattle.call_board.specs.declared.board.Board.{Board}
use Rattle.call_board.specs.Boards.{AreOut, pairs_in}
use Rattle.relay_core.specs.declared.part.Part.{Part}
use Rattle.relay_core.specs.Records.{Made}
use Rattle.relay_core.specs.Scripts.{Owed}
use Rattle.media_ports.specs.Addresses.{port_address}
use Rattle.media_ports.specs.OpenPorts.{OpensHeld}
use Rattle.board_turns.specs.NestedSteps.{IsTurnOpen, closing_of}

-- the leases of the legs
abbrev pub leases_of_legs : {O : Type 0} → List (Lease × O × O) → List Lease
leases_of_legs gone = map (λ leg. leg.0) gone

-- the closings of their boxes
abbrev pub closings_of : {O : Type 0} → Config → List (Lease × O × O) → List Owed
closings_of config gone = map (λ leg. closing_of config leg.0.pair) gone

-- The legs may be closed: their leases are out and of different pairs of the range, the boxes of these are open, and, where the port
-- maker tells, just the ports of some pairs are open, theirs among them
pub record CanClose {M I O T : Type 0} {g : _} (config : Config) (hand : Hand M (Part I O) Made T g) (board : Board) (log : Option (List PortCall))
    (gone : List (Lease × O × O)) : Type 0 where
  pub out : AreOut board.pool (leases_of_legs gone)
  pub of_range : (pair : ℕ) → In pair (pairs_in (leases_of_legs gone)) → pair < pair_count config
  pub boxes_open : (pair : ℕ) → In pair (pairs_in (leases_of_legs gone)) → IsTurnOpen config hand pair
  pub held : List ℕ
  pub opens : WhereLogged log (λ calls. OpensHeld config calls held)
  pub are_held : (pair : ℕ) → In pair (pairs_in (leases_of_legs gone)) → has held pair ≡ true

-- the pairs without these
abbrev pub pairs_left : List ℕ → List ℕ → List ℕ
pairs_left pairs held = filter (λ pair. not (has pairs pair)) held

-- The calls close the two ports of each leg in order, that for RTP first, with the leg's out ends
module _ {O : Type 0} (sent : O → EndLog OutCall) where
  abbrev pub ClosesLegs : Config → List (Lease × O × O) → List PortCall → Type 0
  ClosesLegs config [] calls = calls ≡ []
  ClosesLegs config (leg ∷ legs) calls =
      (rtp : Option (List InCall)) × (rtcp : Option (List InCall)) × (rest : List PortCall)
      × (calls ≡ Close (port_address config leg.0.pair Rtp) rtp (sent leg.1).calls ∷ Close (port_address config leg.0.pair Rtcp) rtcp (sent leg.2).calls ∷ rest)
      × ClosesLegs config legs rest
