-- What the in ends of a load gave, by what they told when they were given back.
use Rattle.std.specs.Prelude.{◌≡◌, ◌<◌, ℕ, ◌+◌, ◌*◌, Option, Some, None, List, [], ◌∷◌, length, take, slice_index_or}
use Rattle.relay_outside.specs.declared.address.Ip.{Ip}
use Rattle.relay_outside.specs.declared.ports.InCall.{InCall}
use Rattle.relay_outside.specs.declared.ports.InCall.TheVariants as into
use Rattle.relay_outside.specs.declared.ports.InGiven.TheVariants as given
use Rattle.relay_outside.specs.declared.ports.PortCall.{PortCall}
use Rattle.relay_outside.specs.declared.ports.PortCall.TheVariants as port
use Rattle.relay_outside.specs.DeviceLogs.{WhereLogged}
use Rattle.load_maker.specs.declared.stream.Stream.{Stream}
use Rattle.load_maker.specs.Packets.{side_source, packet}
use Rattle.load_maker.specs.declared.ports.ClosedEnd.{ClosedEnd}
use Rattle.load_maker.specs.Ports.{end_at}

-- Takes of an end that gives the packets of this stream: each gave the next one, cut at the room of its buffer, or nothing. So many of the
-- stream's packets were given before them, and so many after
abbrev pub GivesOn : Option Stream → (before : ℕ) → List InCall → (after : ℕ) → Type 0
GivesOn stream before [] after = after ≡ before
GivesOn stream before (into.Take room given.Nothing ∷ calls) after = GivesOn stream before calls after
GivesOn stream before (into.Take room given.Failed ∷ calls) after = ⊥
GivesOn None before (into.Take room (given.Datagram from bytes) ∷ calls) after = ⊥
GivesOn (Some stream) before (into.Take room (given.Datagram from bytes) ∷ calls) after =
    (from ≡ side_source stream.call stream.side) × (bytes ≡ take room (packet stream.call stream.side (before + 1))) × GivesOn (Some stream) (before + 1) calls after

-- an end tells what its takes gave: the first so many packets of this stream, in order
abbrev pub GaveFirst : Option Stream → (taken : Option (List InCall)) → (given : ℕ) → Type 0
GaveFirst stream taken given = (takes : List InCall) × (taken ≡ Some takes) × GivesOn stream 0 takes given

-- these calls of a maker gave back just these ends, in order, each of which tells its takes, and gave the first so many packets of its stream
abbrev pub AreClosed : List PortCall → List ClosedEnd → Type 0
AreClosed [] [] = Unit {0}
AreClosed [] (c ∷ closings) = ⊥
AreClosed (port.Open at done ∷ calls) closings = AreClosed calls closings
AreClosed (port.Close at taken sent ∷ calls) [] = ⊥
AreClosed (port.Close at taken sent ∷ calls) (c ∷ closings) = (c.at ≡ at) × GaveFirst c.stream taken c.given × AreClosed calls closings

-- These ends are those of this many calls, each of two pairs, in the order of their ports, from the first one on; and each gave all packets of
-- its side
pub record AreAllEnds (host : Ip) (first calls packets : ℕ) (closed : List ClosedEnd) : Type 0 where
  pub count : length closed ≡ 4 * calls
  pub ends : (n : ℕ) (d : ClosedEnd) → n < 4 * calls → slice_index_or closed n d ≡ end_at host first packets n

-- The ends that a maker was given back, by what it tells, are those of this many calls, and each gave all packets of its side, one after the other
pub record HasGivenAll (host : Ip) (first calls packets : ℕ) (log : Option (List PortCall)) : Type 0 where
  pub closed : List ClosedEnd
  pub all : AreAllEnds host first calls packets closed
  pub gave : WhereLogged log (λ opened. AreClosed opened closed)
