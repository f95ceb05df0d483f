-- What the ports of the generated load tell and give.
use Rattle.std.specs.Prelude.{◌≡◌, ◌<◌, ℕ, ◌+◌, ◌/◌, ◌%◌, min, nat_lt, Bool, ◌==◌, Option, Some, None, MatchOption, List, length, take, if◌then◌else◌}
use Rattle.relay_outside.specs.declared.address.Addr.{Addr}
use Rattle.relay_outside.specs.declared.address.Ip.{Ip}
use Rattle.relay_outside.specs.declared.ports.InCall.{InCall}
use Rattle.relay_outside.specs.declared.ports.OutCall.{OutCall}
use Rattle.relay_outside.specs.declared.ports.PortCall.{PortCall}
use Rattle.relay_outside.specs.DeviceLogs.{EndLog, opened_for}
use Rattle.port_pool.specs.declared.holder.Side.TheVariants.{A, B}
use Rattle.load_maker.specs.declared.ports.ClosedEnd.{ClosedEnd}
use Rattle.load_maker.specs.declared.stream.Stream.{Stream}
use Rattle.load_maker.specs.Packets.{side_source, packet}

-- an in end: what it tells; whose packets it gives, if any; how many there are, and how many of them were given
pub record LoadInState : Type 0 where
  pub log : EndLog InCall
  pub stream : Option Stream
  pub packets : ℕ
  pub given : ℕ

-- the maker: what it tells; how many packets each side sends; the call that was begun last, and how many ports were opened since then;
-- the ends that were given back
pub record LoadMakerState : Type 0 where
  pub log : Option (List PortCall)
  pub packets : ℕ
  pub call : Option ℕ
  pub opened : ℕ
  pub closed : List ClosedEnd

-- the maker of a whole load: the maker of its ports, and how many were opened in all
pub record LoadPortsState : Type 0 where
  pub maker : LoadMakerState
  pub opened : ℕ

-- what an out end tells: its address, and nothing of its calls
abbrev pub silent_at : Addr → EndLog OutCall
silent_at at = record { at = at; calls = None }

-- whose packets the next port that is opened gives. The first pair of a call is that of side B's leg, the second that of side A's; of each the
-- RTP port comes first, and to the RTCP port nothing is sent
abbrev pub stream_at : Option ℕ → ℕ → Option Stream
stream_at None opened = None
stream_at (Some call) opened =
    if opened == 0
    then Some (record { call = call; side = B })
    else if opened == 2 then Some (record { call = call; side = A }) else None

-- the end that is given back as the nth, from 0, where each of the calls has opened its four ports, each gave all its packets, and the ports
-- are given back in order: their numbers follow one another from the first one on
abbrev pub end_at : (host : Ip) (first packets : ℕ) → ℕ → ClosedEnd
end_at host first packets n = record {
  at = record { ip = host; port = first + n };
  stream = stream_at (Some (n / 4 + 1)) (n % 4);
  given = if n % 2 == 0 then packets else 0;
}

-- How many ports the largest load opens: four for each of a thousand calls. Of the maker of a whole load, in the midst of a call: its ports are
-- those of the call of this number, of which as many were opened as are left over
abbrev pub IsInCall : (call : Option ℕ) → (begun : ℕ) → (opened : ℕ) → Type 0
IsInCall call begun opened = opened < 4000 → 0 < opened % 4 → (call ≡ Some (opened / 4 + 1)) × (begun ≡ opened % 4)

-- the in end of the next port, opened for this address
abbrev pub next_end : LoadMakerState → Addr → LoadInState
next_end maker at = record {
  log = opened_for at;
  stream = stream_at maker.call maker.opened;
  packets = maker.packets;
  given = 0;
}

abbrev pub where_left : Bool → Option Stream → Option Stream
where_left more stream = if more then stream else None

-- whose packet the next take gives, where one is left
abbrev pub next_stream : LoadInState → Option Stream
next_stream end = where_left (nat_lt end.given end.packets) end.stream

-- a take gives these bytes from this source, cut at the room of the buffer
pub record GivesLoadPacket (source : Addr) (bytes : List ℕ) (answer : Option (Addr × ℕ)) (buf : List ℕ) : Type 0 where
  pub len : ℕ
  pub cut : len ≡ min (length bytes) (length buf)
  pub answer_is : answer ≡ Some (source, len)
  pub front : take len buf ≡ take len bytes

-- a take gives the next packet of the stream; after the last one it gives nothing
abbrev pub TakesNext : LoadInState → LoadInState → Option (Addr × ℕ) → List ℕ → Type 0
TakesNext before after answer buf =
    MatchOption (next_stream before)
    ((answer ≡ None) × (after.given ≡ before.given))
    (λ stream.
    GivesLoadPacket (side_source stream.call stream.side) (packet stream.call stream.side (before.given + 1)) answer buf
    × (after.given ≡ before.given + 1))
