-- The head of a packet that isn't protected yet.
use Rattle.std.proofs.Common.{◌≡◌, ℕ, ◌+◌, ◌*◌, ◌/◌, ◌%◌, ◌^◌, ◌<◌, ◌≤◌, Some, arith}
use Rattle.std.proofs.lemmas.Nat.{from_be_bytes-to_be_bytes_4}
use Rattle.port_pool.specs.declared.holder.Side.{Side}
use Rattle.port_pool.specs.declared.holder.Side.TheVariants.{A, B}
use Rattle.rtp_packet.specs.Head.{rtp_head}
use Rattle.load_maker.specs.Packets.{ssrc_of, plain_packet}

pub ssrc_fits : (call : ℕ) (side : Side) → call ≤ 1000 → ssrc_of call side < 2 ^ 32
ssrc_fits call A below = omega arith
ssrc_fits call B below = omega arith

-- a number of 32 bits, read from the bytes that spell it
spelled_32 : (n : ℕ) → n < 2 ^ 32
    → 65536 * (256 * (n / 16777216 % 256) + n / 65536 % 256) + (256 * (n / 256 % 256) + n % 256) ≡ n
spelled_32 n fits = omega (arith, from_be_bytes-to_be_bytes_4 n fits)

-- the same of 16 bits
spelled_16 : (n : ℕ) → n < 2 ^ 16 → 256 * (n / 256 % 256) + n % 256 ≡ n
spelled_16 n fits = omega arith

pub plain_head : (call : ℕ) (side : Side) (number : ℕ) → call ≤ 1000 → number ≤ 1000
    → rtp_head (plain_packet call side number) ≡ Some (record { ssrc = ssrc_of call side; seq = number; head = 12 })
unfolding rtp_head
plain_head call side number low small =
    let ssrc = spelled_32 (ssrc_of call side) (ssrc_fits call side low) in
    let seq = spelled_16 number (omega arith) in
    λ i. Some (record { ssrc = ssrc i; seq = seq i; head = 12 })
