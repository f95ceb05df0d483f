-- What the ports in memory give.
use Rattle.std.specs.Prelude.{◌≡◌, ℕ, min, Option, Some, None, List, [], ◌∷◌, MatchOption, position, slice_index_or, slice_set, length, take}
use Rattle.relay_outside.specs.declared.address.Addr.{Addr}
use Rattle.relay_outside.specs.declared.ports.InCall.{InCall}
use Rattle.relay_outside.specs.declared.ports.OutCall.{OutCall}
use Rattle.relay_outside.specs.declared.ports.PortCall.{PortCall}
use Rattle.relay_outside.specs.declared.memory.ports.Packet.{Packet}
use Rattle.relay_outside.specs.Failures.{Failures, uncalled}
use Rattle.relay_outside.specs.DeviceLogs.{EndLog, opened_for}
use Rattle.relay_outside.specs.Ports.{same_addr}
use Rattle.relay_outside.specs.declared.memory.ports.Packet.TheVariants as packet

-- an in end in memory: its log, and what its takes are still to give
pub record InTape : Type 0 where
  pub log : EndLog InCall
  pub packets : List Packet

-- a take gives the front of the list, a datagram cut at the room of the buffer; after the list, nothing
abbrev pub GivesPacket : List Packet → List Packet → Option (Addr × ℕ) → List ℕ → Type 0
GivesPacket [] left answer buf = (answer ≡ None) × (left ≡ [])
GivesPacket (packet.Nothing ∷ packets) left answer buf = (answer ≡ None) × (left ≡ packets)
GivesPacket (packet.Datagram from bytes ∷ packets) left answer buf =
    let len = min (length bytes) (length buf) in
    (answer ≡ Some (from, len)) × (take len buf ≡ take len bytes) × (left ≡ packets)

-- a port maker in memory: its log, and what the takes at each address are still to give
pub record MakerTape : Type 0 where
  pub log : Option (List PortCall)
  pub arrivals : List (Addr × List Packet)

-- an end gets the packets of the first entry for its address, which is left without any
abbrev pub Moves : List (Addr × List Packet) → Addr → List Packet → List (Addr × List Packet) → Type 0
Moves old at packets new =
    MatchOption (position (λ entry. same_addr entry.0 at) old)
    ((packets ≡ []) × (new ≡ old))
    (λ place.
    let entry = slice_index_or old place (at, []) in
    (packets ≡ entry.1) × (new ≡ slice_set old place (entry.0, [])))

-- what an end has not given goes back to the first entry for its address, unless that is nothing
abbrev pub GoesBack : List (Addr × List Packet) → Addr → List Packet → List (Addr × List Packet) → Type 0
GoesBack old at [] new = new ≡ old
GoesBack old at (packet ∷ packets) new =
    MatchOption (position (λ entry. same_addr entry.0 at) old)
    (new ≡ old)
    (λ place.
    let entry = slice_index_or old place (at, []) in
    new ≡ slice_set old place (entry.0, packet ∷ packets))

-- an in end in memory whose takes may fail
pub record InState : Type 0 where
  pub log : EndLog InCall
  pub packets : List Packet
  pub failures : Failures

-- an out end in memory whose sends may fail
pub record OutState : Type 0 where
  pub log : EndLog OutCall
  pub failures : Failures

-- what the ends at one address are to give, and the numbers of their takes and sends that fail
pub record PortState : Type 0 where
  pub at : Addr
  pub packets : List Packet
  pub takes : List ℕ
  pub sends : List ℕ

-- a port maker in memory whose openings may fail: its log, what it has for the ends at each address
pub record MakerState : Type 0 where
  pub log : Option (List PortCall)
  pub ports : List PortState
  pub failures : Failures

-- an entry that holds nothing
abbrev pub nothing_at : Addr → PortState
nothing_at at = record { at = at; packets = []; takes = []; sends = [] }

-- the in end for an address that gets what an entry holds: it keeps a log, it was not called, and it counts from its opening
abbrev pub in_from : Addr → PortState → InState
in_from at port = record { log = opened_for at; packets = port.packets; failures = uncalled port.takes }

-- the out end that gets what an entry holds, in the same way
abbrev pub out_from : Addr → PortState → OutState
out_from at port = record { log = opened_for at; failures = uncalled port.sends }

-- an entry that gets back what its ends are left with: the packets that were not given, and the numbers of
-- their failing calls, which count from the next opening on
abbrev pub given_back : Addr → InState → OutState → PortState
given_back at receiving sending = record {
  at = at;
  packets = receiving.packets;
  takes = receiving.failures.numbers;
  sends = sending.failures.numbers;
}

-- the ends get what the first entry for their address holds, which is left with nothing
abbrev pub MovesOut : List PortState → Addr → InState → OutState → List PortState → Type 0
MovesOut old at receiving sending new =
    MatchOption (position (λ port. same_addr port.at at) old)
    ((receiving ≡ in_from at (nothing_at at)) × (sending ≡ out_from at (nothing_at at)) × (new ≡ old))
    (λ place.
    let port = slice_index_or old place (nothing_at at) in
    (receiving ≡ in_from at port) × (sending ≡ out_from at port) × (new ≡ slice_set old place (nothing_at port.at)))

-- what the ends are left with goes back to the first entry for their address, if there is one
abbrev pub MovesBack : List PortState → Addr → InState → OutState → List PortState → Type 0
MovesBack old at receiving sending new =
    MatchOption (position (λ port. same_addr port.at at) old)
    (new ≡ old)
    (λ place.
    let port = slice_index_or old place (nothing_at at) in
    new ≡ slice_set old place (given_back port.at receiving sending))
