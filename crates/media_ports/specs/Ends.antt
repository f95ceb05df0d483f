-- The ends of opened pairs, in the order of leases.
use Rattle.std.specs.Prelude.{ℕ, Option, Some, None, List, [], ◌∷◌, ◌++◌}
use Rattle.std.specs.List.{AllZip}
use Rattle.relay_outside.specs.declared.settings.Config.{Config}
use Rattle.relay_outside.specs.declared.ports.InCall.{InCall}
use Rattle.relay_outside.specs.declared.ports.OutCall.{OutCall}
use Rattle.relay_outside.specs.DeviceLogs.{EndLog, IsOpenedFor}
use Rattle.rtp_packet.specs.declared.head.Half.TheVariants.{Rtp, Rtcp}
use Rattle.port_pool.specs.declared.pairs.Lease.{Lease}
use Rattle.port_pool.specs.Ports.{port_address, AreOfPair}
use Rattle.media_ports.specs.declared.ends.PairEnds.{PairEnds}
use Rattle.media_ports.specs.declared.opened_ports.HalfOpened.{HalfOpened}

-- the ends of each pair, and for how many pairs there is room in all
pub record EndsList (I O : Type 0) : Type 0 where
  pub list : List (PairEnds I O)
  pub room : ℕ

-- one more, at the end
abbrev pub with_ends : {I O : Type 0} → EndsList I O → PairEnds I O → EndsList I O
with_ends opened ends = record { list = opened.list ++ ends ∷ []; room = opened.room }

-- what the ends of a pair tell
pub record EndLogs : Type 0 where
  pub rtp_in : Option (List InCall)
  pub rtp_out : Option (List OutCall)
  pub rtcp_in : Option (List InCall)
  pub rtcp_out : Option (List OutCall)

module _ {I O : Type 0} (taken : I → EndLog InCall) (sent : O → EndLog OutCall) where
  abbrev pub ends_told : PairEnds I O → EndLogs
  ends_told ends = record {
    rtp_in = (taken ends.rtp_in).calls;
    rtp_out = (sent ends.rtp_out).calls;
    rtcp_in = (taken ends.rtcp_in).calls;
    rtcp_out = (sent ends.rtcp_out).calls;
  }

  -- the ends of the pair were opened for the ports of the lease, each for its own, and not called since
  pub record IsPairOpened (config : Config) (lease : Lease) (ends : PairEnds I O) : Type 0 where
    pub rtp_in : IsOpenedFor (port_address config lease.pair Rtp) (taken ends.rtp_in)
    pub rtp_out : IsOpenedFor (port_address config lease.pair Rtp) (sent ends.rtp_out)
    pub rtcp_in : IsOpenedFor (port_address config lease.pair Rtcp) (taken ends.rtcp_in)
    pub rtcp_out : IsOpenedFor (port_address config lease.pair Rtcp) (sent ends.rtcp_out)

  -- the same of the pairs of these leases, in order
  abbrev pub ArePairsOpened : Config → List Lease → List (PairEnds I O) → Type 0
  ArePairsOpened config leases pairs = AllZip (IsPairOpened config) leases pairs

  -- the ends of the port for RTP of the lease, where there are any, were opened for it, and not called since
  abbrev pub IsHalfOpened : Config → Lease → Option (HalfOpened I O) → Type 0
  IsHalfOpened config lease None = Unit {0}
  IsHalfOpened config lease (Some ends) =
      IsOpenedFor (port_address config lease.pair Rtp) (taken ends.receiving) × IsOpenedFor (port_address config lease.pair Rtp) (sent ends.sending)

  -- the ends are those of the ports of the lease, each of its own
  abbrev pub AreOfLease : Config → Lease → PairEnds I O → Type 0
  AreOfLease config lease ends =
      AreOfPair taken (port_address config lease.pair Rtp) ends.rtp_in ends.rtcp_in × AreOfPair sent (port_address config lease.pair Rtp) ends.rtp_out ends.rtcp_out

-- how many ports of the pair were opened
abbrev pub half_count : {I O : Type 0} → Option (HalfOpened I O) → ℕ
half_count None = 0
half_count (Some ends) = 1
