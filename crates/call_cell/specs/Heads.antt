-- What the head of a packet of either half says.
use Rattle.std.specs.Prelude.{ℕ, ◌≡◌, List, Option, Some}
use Rattle.std.specs.Option.{option_map}
use Rattle.rtp_packet.specs.declared.head.Half.{Half}
use Rattle.rtp_packet.specs.declared.head.Half.TheVariants.{Rtp, Rtcp}
use Rattle.rtp_packet.specs.declared.head.RtpHead.{RtpHead}
use Rattle.rtp_packet.specs.Head.{rtp_head, rtcp_ssrc}
use Rattle.call_cell.specs.declared.heads.Head.{Head}
use Rattle.call_cell.specs.declared.heads.Head.TheVariants as heads

-- the head of a packet of a half, where it has one
abbrev pub head_of : Half → List ℕ → Option Head
head_of Rtp bytes = option_map (λ (found : RtpHead). heads.Rtp found) (rtp_head bytes)
head_of Rtcp bytes = option_map (λ (ssrc : ℕ). heads.Rtcp ssrc) (rtcp_ssrc bytes)

-- the half of a head
abbrev pub half_of : Head → Half
half_of (heads.Rtp found) = Rtp
half_of (heads.Rtcp ssrc) = Rtcp

-- it is the head of these bytes
abbrev pub IsHead : Head → List ℕ → Type 0
IsHead (heads.Rtp found) bytes = rtp_head bytes ≡ Some found
IsHead (heads.Rtcp ssrc) bytes = rtcp_ssrc bytes ≡ Some ssrc
