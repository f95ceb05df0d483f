-- The calls, packets and histories of the worked rows.
use Rattle.std.proofs.Common.{ℕ, ◌+◌, ◌/◌, ◌%◌, List, [], ◌∷◌, ◌++◌, map, Bool, false, true, Option, Some, None}
use Rattle.relay_outside.specs.declared.address.Family.TheVariants.{V4}
use Rattle.relay_outside.specs.declared.settings.Config.{Config}
use Rattle.relay_outside.specs.declared.settings.Flags.{Flags}
use Rattle.relay_outside.specs.declared.address.Ip.TheVariants as ips
use Rattle.relay_outside.specs.declared.address.Addr.{Addr}
use Rattle.rtp_packet.specs.declared.head.Half.{Half}
use Rattle.rtp_packet.specs.declared.head.Half.TheVariants.{Rtp, Rtcp}
use Rattle.sdes_lines.specs.declared.crypto_line.Suite.{Suite}
use Rattle.sdes_lines.specs.declared.crypto_line.Suite.TheVariants.{Tag80, Tag32}
use Rattle.srtp_sources.specs.Notes.{Note}
use Rattle.port_pool.specs.declared.holder.Side.TheVariants.{A, B}
use Rattle.port_pool.specs.declared.holder.Holder.{Holder}
use Rattle.port_pool.specs.declared.signal.LegSignal.{LegSignal}
use Rattle.port_pool.specs.declared.signal.SectionSignal.TheVariants as section
use Rattle.port_pool.specs.Signals.{NewKey}
use Rattle.call_cell.specs.declared.outcome.Outcome.{Outcome}
use Rattle.call_cell.specs.declared.outcome.Outcome.TheVariants as outcomes
use Rattle.call_cell.specs.Cells.{CellEvent, CellEntry, Prepare, Commit, Relay, Receipt, Shield, Relayed, Deed, since_end, relay_in}
use Rattle.call_cell.specs.Deeds.{deed}

abbrev pub config : Config
config = record {
  interface = ips.V4 (203 ∷ 0 ∷ 113 ∷ 1 ∷ []);
  interface6 = None;
  port_min = 30000;
  port_max = 40000;
  timeout_ms = 60000;
  offer_timeout_ms = 3600000;
  max_sessions = 2048;
}

-- The legs: side B's leg has ports 30000 and 30001, side A's leg 30002 and 30003.

abbrev pub leg_b : Holder
leg_b = record { cell = 1; call = 0; section = 0; side = B; pair = 0; generation = 1 }

abbrev pub leg_a : Holder
leg_a = record { cell = 1; call = 0; section = 0; side = A; pair = 1; generation = 1 }

abbrev pub addr : ℕ → ℕ → Addr
addr host port = record { ip = ips.V4 (192 ∷ 0 ∷ 2 ∷ host ∷ []); port = port }

-- where side A and side B expect RTP
abbrev pub at_a : Addr
at_a = addr 10 6000

abbrev pub at_b : Addr
at_b = addr 20 7000

-- other places that packets come from
abbrev pub first_place : Addr
first_place = addr 77 5000

abbrev pub second_place : Addr
second_place = addr 77 5002

abbrev pub third_place : Addr
third_place = addr 78 5000

-- What answers commit.

abbrev pub no_flags : Flags
no_flags = record { strict = false; handover = false; asymmetric = false }

abbrev pub strict : Flags
strict = record no_flags { strict = true }

abbrev pub handover : Flags
handover = record no_flags { handover = true }

abbrev pub strict_handover : Flags
strict_handover = record { strict = true; handover = true; asymmetric = false }

abbrev pub asymmetric : Flags
asymmetric = record no_flags { asymmetric = true }

abbrev pub strict_asymmetric : Flags
strict_asymmetric = record { strict = true; handover = false; asymmetric = true }

abbrev pub next_port : Addr → Addr
next_port a = record { ip = a.ip; port = a.port + 1 }

-- a side without keys
abbrev pub plain : Addr → Flags → LegSignal
plain at flags =
    record { rtp = at; rtcp = next_port at; flags = flags; hold = false; mux = false; inbound = None; outbound = None }

abbrev pub side_a : LegSignal
side_a = plain at_a no_flags

abbrev pub side_b : LegSignal
side_b = plain at_b no_flags

abbrev pub held : LegSignal → LegSignal
held s = record s { hold = true }

-- a side to which packets go under the key of that number
abbrev pub under : ℕ → LegSignal → LegSignal
under number s = record s { outbound = Some number }

-- a side that sends under that key
abbrev pub sends_under : List ℕ → Suite → LegSignal → LegSignal
sends_under key suite s = record s { inbound = Some (key, suite) }

-- Events.

abbrev pub prepared : CellEvent
prepared = Prepare 0 (leg_b ∷ leg_a ∷ []) [] []

abbrev pub committed : LegSignal → LegSignal → CellEvent
committed a b = Commit (section.Commit a b ∷ [])

abbrev pub rejected : CellEvent
rejected = Commit (section.Reject ∷ [])

-- Packets.

abbrev pub word : ℕ → List ℕ
word n = n / 16777216 ∷ n / 65536 % 256 ∷ n / 256 % 256 ∷ n % 256 ∷ []

-- an RTP packet of 13 bytes, with that source and sequence number
abbrev pub rtp_of : ℕ → ℕ → List ℕ
rtp_of ssrc seq = 128 ∷ 0 ∷ seq / 256 ∷ seq % 256 ∷ 0 ∷ 0 ∷ 0 ∷ 0 ∷ (word ssrc ++ 1 ∷ [])

-- an RTCP packet of 8 bytes of that source
abbrev pub rtcp_of : ℕ → List ℕ
rtcp_of ssrc = 128 ∷ 200 ∷ 0 ∷ 1 ∷ word ssrc

abbrev pub received : Holder → Half → Addr → List ℕ → Receipt
received leg half source bytes = record { take = 0; half = half; source = source; bytes = bytes; holder = leg }

-- an RTP packet from side A, with that sequence number
abbrev pub from_a : Addr → ℕ → Receipt
from_a source seq = received leg_a Rtp source (rtp_of 286331153 seq)

abbrev pub from_b : Addr → ℕ → Receipt
from_b source seq = received leg_b Rtp source (rtp_of 572662306 seq)

-- the same for RTCP
abbrev pub control_a : Addr → Receipt
control_a source = received leg_a Rtcp source (rtcp_of 286331153)

abbrev pub control_b : Addr → Receipt
control_b source = received leg_b Rtcp source (rtcp_of 572662306)

-- Histories.

-- an event, or a relay with the result of its send
pub data Step : Type 0 where
  makes : ℕ → CellEvent → Step
  relays : ℕ → Receipt → Bool → Step

abbrev pub relay : List CellEntry → Receipt → Bool → CellEvent
relay h p ok = Relay (record { packet = p; sent_ok = ok; deed = deed config (since_end h) p ok })

abbrev pub entry_of : List CellEntry → Step → CellEntry
entry_of h (makes now event) = record { moment = now; event = event }
entry_of h (relays now p ok) = record { moment = now; event = relay h p ok }

-- one step more
abbrev pub after : List CellEntry → Step → List CellEntry
after h step = entry_of h step ∷ h

-- the history that these steps make of one, the first step first
abbrev pub steps : List CellEntry → List Step → List CellEntry
steps h [] = h
steps h (step ∷ rest) = steps (after h step) rest

abbrev pub now : CellEvent → Step
now event = makes 0 event

-- a packet that is relayed, and sent well where it is sent
abbrev pub packet : Receipt → Step
packet p = relays 0 p true

-- a call that was answered with these
abbrev pub answered : LegSignal → LegSignal → List CellEntry
answered a b = steps [] (now prepared ∷ now (committed a b) ∷ [])

-- what became of the packets, the last one first
abbrev pub deed_in : Option Relayed → List Deed → List Deed
deed_in None rest = rest
deed_in (Some r) rest = r.deed ∷ rest

abbrev pub deeds : List CellEntry → List Deed
deeds [] = []
deeds (e ∷ h) = deed_in (relay_in e.event) (deeds h)

abbrev pub outcomes_of : List CellEntry → List Outcome
outcomes_of h = map (λ d. d.outcome) (deeds h)

-- what they were protected under
abbrev pub shields_of : List CellEntry → List (Option Shield)
shields_of h = map (λ d. d.shield) (deeds h)

-- 13 bytes sent to a place by the RTP port of a side's leg
abbrev pub sent_to_a : Addr → Outcome
sent_to_a to = outcomes.Sent V4 30002 to 13

abbrev pub sent_to_b : Addr → Outcome
sent_to_b to = outcomes.Sent V4 30000 to 13

abbrev pub note : Half → ℕ → ℕ → Note
note half ssrc index = record { half = half; ssrc = ssrc; index = index }

abbrev pub shield : ℕ → Half → ℕ → ℕ → Option Shield
shield key half ssrc index = Some (record { key = key; note = note half ssrc index })

-- a packet whose send fails, where it is sent
abbrev pub fails : Receipt → Step
fails p = relays 0 p false

-- Keys that an offer drew for side B's leg, of each suite.

abbrev pub key_80 : NewKey
key_80 = record { number = 0; section = 0; side = B; suite = Tag80; bytes = 1 ∷ [] }

abbrev pub key_32 : NewKey
key_32 = record { number = 1; section = 0; side = B; suite = Tag32; bytes = 2 ∷ [] }

abbrev pub prepared_keyed : CellEvent
prepared_keyed = Prepare 0 (leg_b ∷ leg_a ∷ []) (key_80 ∷ key_32 ∷ []) []

abbrev pub answered_keyed : LegSignal → LegSignal → List CellEntry
answered_keyed a b = steps [] (now prepared_keyed ∷ now (committed a b) ∷ [])
