-- Which half a packet is that came to a port which RTP and RTCP share (RFC 5761, section 4).
use Rattle.std.specs.Prelude.{ℕ, ◌&&◌, List, length, slice_index, nat_lt, if◌then◌else◌}
use Rattle.rtp_packet.specs.Head.{is_control_type}
use Rattle.rtp_packet.specs.declared.head.Half.{Half}
use Rattle.rtp_packet.specs.declared.head.Half.TheVariants.{Rtp, Rtcp}

-- RTCP where there is a second byte and it is a packet type that RTCP uses, RTP otherwise
unfoldable pub half_of_packet : List ℕ → Half
half_of_packet packet =
    if nat_lt 1 (length packet) && is_control_type (slice_index packet 1) then Rtcp else Rtp
