-- The counter with which the keystream of a packet begins (RFC 3711, section 4.1.1).
use Rattle.std.specs.Prelude.{ℕ, ◌*◌, ◌^◌, List, [], ◌∷◌, ◌++◌, bit_xor}
use Rattle.std.specs.Int.{w128, from_be_bytes}

-- the session's salt followed by two zeros, the SSRC and the packet's index, each at its place: salt * 2 ^ 16 XOR
-- SSRC * 2 ^ 64 XOR index * 2 ^ 16
unfoldable pub packet_counter : List ℕ → ℕ → ℕ → ℕ
packet_counter salt ssrc index =
    bit_xor (bit_xor (from_be_bytes w128 (salt ++ 0 ∷ 0 ∷ [])) (ssrc * 2 ^ 64)) (index * 2 ^ 16)
