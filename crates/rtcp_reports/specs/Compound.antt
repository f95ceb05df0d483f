-- The parts of an RTCP compound packet (RFC 3550, section 6.1), which RFC 3550 calls its individual RTCP packets, each as its bytes.
use Rattle.std.specs.Prelude.{ℕ, zero, suc, ◌+◌, ◌*◌, ◌==◌, ◌&&◌, List, [], ◌∷◌, Bool, length, take, drop, nat_le, if◌then◌else◌}
use Rattle.rtp_packet.specs.Head.{u16_at, version}

-- how long the part is that begins these bytes: 4 bytes, and 4 for each unit of its length field (section 6.4.1)
abbrev pub part_size : List ℕ → ℕ
part_size bytes = 4 + 4 * u16_at bytes 2

-- a part begins these bytes: its version is 2, and the whole of it is there
abbrev pub begins_with_part : List ℕ → Bool
begins_with_part bytes = (version bytes == 2) && nat_le (part_size bytes) (length bytes)

-- the parts that stand one after another from the first byte on, up to the first that isn't one: these many at most
abbrev pub leading_parts : ℕ → List ℕ → List (List ℕ)
leading_parts zero bytes = []
leading_parts (suc most) bytes =
    if begins_with_part bytes then take (part_size bytes) bytes ∷ leading_parts most (drop (part_size bytes) bytes) else []

-- all of them: since each has 4 bytes or more, there are no more parts than bytes
unfoldable pub compound_parts : List ℕ → List (List ℕ)
compound_parts packet = leading_parts (length packet) packet
