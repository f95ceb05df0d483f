-- The RTP packets that the two sides of a generated call send (RFC 3550, section 5.1), by the numbers of the call and of the packet, both from 1.
use Rattle.std.specs.Prelude.{ℕ, ◌+◌, ◌%◌, ◌^◌, ◌==◌, Bool, false, List, [], ◌∷◌, ◌++◌, replicate, if◌then◌else◌}
use Rattle.std.specs.Int.{w16, w32, to_be_bytes}
use Rattle.relay_outside.specs.declared.address.Addr.{Addr}
use Rattle.relay_outside.specs.declared.address.Ip.TheVariants as ip
use Rattle.port_pool.specs.declared.holder.Side.{Side}
use Rattle.port_pool.specs.declared.holder.Side.TheVariants.{A, B}
use Rattle.sdes_lines.specs.declared.crypto_line.Suite.TheVariants.{Tag80}
use Rattle.srtp_context.specs.Packets.{protect}
use Rattle.load_maker.specs.Calls.{signalled_port, answer_key}

-- the address that a side signals, from which it sends
abbrev pub side_source : ℕ → Side → Addr
side_source call A = record { ip = ip.V4 (192 ∷ 0 ∷ 2 ∷ 10 ∷ []); port = signalled_port call }
side_source call B = record { ip = ip.V4 (198 ∷ 51 ∷ 100 ∷ 20 ∷ []); port = signalled_port call }

-- the synchronization source of a side's packets
abbrev pub ssrc_of : ℕ → Side → ℕ
ssrc_of call A = call
ssrc_of call B = 2 ^ 31 + call

-- a packet before it is protected: version 2, payload type 0, the packet's number as its sequence number, a timestamp of 0, the source,
-- and 20 equal bytes of payload
abbrev pub plain_packet : ℕ → Side → ℕ → List ℕ
plain_packet call side number =
    128 ∷ 0 ∷ to_be_bytes w16 number ++ 0 ∷ 0 ∷ 0 ∷ 0 ∷ to_be_bytes w32 (ssrc_of call side) ++ replicate 20 ((call + number) % 256)

-- of the calls with an even number, side B's packets are protected
abbrev pub is_protected : ℕ → Side → Bool
is_protected call A = false
is_protected call B = call % 2 == 0

-- a packet as it is sent; the index of a protected one is its sequence number
abbrev pub packet : ℕ → Side → ℕ → List ℕ
packet call side number =
    if is_protected call side
    then protect (answer_key call) Tag80 (plain_packet call side number) number
    else plain_packet call side number
