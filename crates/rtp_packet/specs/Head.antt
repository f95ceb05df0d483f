-- The heads of RTP and RTCP packets (RFC 3550, sections 5.1, 5.3.1 and 6.1), read from a packet's bytes. Past a packet's
-- end a byte counts as 0 here, which no answer shows: each is given only where the packet holds what it was read from.
use Rattle.std.specs.Prelude.{ℕ, ◌+◌, ◌*◌, ◌/◌, ◌%◌, ◌==◌, ◌&&◌, List, Bool, Option, Some, None, length, slice_index, nat_le, if◌then◌else◌}
use Rattle.rtp_packet.specs.declared.head.RtpHead.{RtpHead}

-- the number that two bytes spell from a place on, the most significant first
abbrev pub u16_at : List ℕ → ℕ → ℕ
u16_at packet place = 256 * slice_index packet place + slice_index packet (place + 1)

-- the number that four bytes spell from a place on, the most significant first
abbrev pub u32_at : List ℕ → ℕ → ℕ
u32_at packet place = 65536 * u16_at packet place + u16_at packet (place + 2)

-- the version: the two highest bits of the first byte
abbrev pub version : List ℕ → ℕ
version packet = slice_index packet 0 / 64

-- the X bit: a head extension follows the list of contributing sources
abbrev pub has_extension : List ℕ → Bool
has_extension packet = slice_index packet 0 / 16 % 2 == 1

-- where the list of contributing sources ends: after the fixed 12 bytes, 4 bytes for each of the CC sources
abbrev pub sources_end : List ℕ → ℕ
sources_end packet = 12 + 4 * (slice_index packet 0 % 16)

-- how long the extension is that begins at a place: 4 bytes, and 4 for each word that its length field counts
abbrev pub extension_size : List ℕ → ℕ → ℕ
extension_size packet place = 4 + 4 * u16_at packet (place + 2)

-- how many bytes stand before the payload
abbrev pub head_size : List ℕ → ℕ
head_size packet =
    sources_end packet + (if has_extension packet then extension_size packet (sources_end packet) else 0)

-- the version is 2 and the packet holds its whole head
abbrev pub is_rtp : List ℕ → Bool
is_rtp packet = (version packet == 2) && nat_le (head_size packet) (length packet)

-- the head of an RTP packet; none where the version is not 2 or the packet is shorter than its head
unfoldable pub rtp_head : List ℕ → Option RtpHead
rtp_head packet =
    if is_rtp packet
    then Some (record { ssrc = u32_at packet 8; seq = u16_at packet 2; head = head_size packet })
    else None

-- the packet type, the second byte, is one that RTCP uses: 192 to 223 (RFC 5761, section 4)
abbrev pub is_control_type : ℕ → Bool
is_control_type byte = nat_le 192 byte && nat_le byte 223

-- the version is 2, the second byte is a packet type of RTCP, and the sender's SSRC is there
abbrev pub is_rtcp : List ℕ → Bool
is_rtcp packet =
    (version packet == 2) && (is_control_type (slice_index packet 1) && nat_le 8 (length packet))

-- the SSRC of the sender of an RTCP packet; none where the version is not 2, the second byte is no packet type of
-- RTCP or fewer than 8 bytes are there
unfoldable pub rtcp_ssrc : List ℕ → Option ℕ
rtcp_ssrc packet = if is_rtcp packet then Some (u32_at packet 4) else None
