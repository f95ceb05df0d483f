-- What a head that was read says of the packet and of its half.
use Rattle.std.proofs.Common.{◌≡◌, refl, ap, subst, sym, ◌∙◌, ℕ, true, false, List, Option, Some, None}
use Rattle.std.specs.Prelude.{is_some}
use Rattle.std.specs.Option.{option_map}
use Rattle.rtp_packet.specs.declared.head.Half.{Half}
use Rattle.rtp_packet.specs.declared.head.Half.TheVariants.{Rtp, Rtcp}
use Rattle.rtp_packet.specs.declared.head.RtpHead.{RtpHead}
use Rattle.rtp_packet.specs.Head.{rtp_head, rtcp_ssrc}
use Rattle.call_cell.specs.declared.heads.Head.{Head}
use Rattle.call_cell.specs.declared.heads.Head.TheVariants as heads
use Rattle.call_cell.specs.Heads.{head_of, half_of, IsHead}
use Rattle.call_cell.specs.Protection.{is_packet}

mapped_some : {X : Type 0} (f : X → Head) (o : Option X) → is_some o ≡ is_some (option_map f o)
mapped_some f None = refl
mapped_some f (Some x) = refl

is_packet_by : (half : Half) (bytes : List ℕ) → is_packet half bytes ≡ is_some (head_of half bytes)
is_packet_by Rtp bytes = mapped_some (λ (found : RtpHead). heads.Rtp found) (rtp_head bytes)
is_packet_by Rtcp bytes = mapped_some (λ (ssrc : ℕ). heads.Rtcp ssrc) (rtcp_ssrc bytes)

-- what has no head is no packet, and what has one is one
pub no_packet_by : (half : Half) (bytes : List ℕ) (o : Option Head) → o ≡ head_of half bytes → o ≡ None → is_packet half bytes ≡ false
no_packet_by half bytes o read none = is_packet_by half bytes ∙ ap (λ (x : Option Head). is_some x) (sym read ∙ none)

pub packet_by : (half : Half) (bytes : List ℕ) (o : Option Head) (h : Head) → o ≡ head_of half bytes → o ≡ Some h → is_packet half bytes ≡ true
packet_by half bytes o h read is = is_packet_by half bytes ∙ ap (λ (x : Option Head). is_some x) (sym read ∙ is)

pub packet_of : (h : Head) (bytes : List ℕ) → IsHead h bytes → is_packet (half_of h) bytes ≡ true
packet_of (heads.Rtp found) bytes is = ap (λ (o : Option RtpHead). is_some o) is
packet_of (heads.Rtcp ssrc) bytes is = ap (λ (o : Option ℕ). is_some o) is

-- a head that was read is of the half, and is that of the bytes
pub record IsRead (half : Half) (bytes : List ℕ) (h : Head) : Type 0 where
  pub half_is : half_of h ≡ half
  pub head_is : IsHead h bytes

rtp_is : (bytes : List ℕ) (o : Option RtpHead) (h : Head) → rtp_head bytes ≡ o → option_map (λ (found : RtpHead). heads.Rtp found) o ≡ Some h → IsRead Rtp bytes h
rtp_is bytes None h e q = absurd (let f = q in cc)
rtp_is bytes (Some found) h e q =
    let f : ◌≡◌ {A = Option Head} (Some (heads.Rtp found)) (Some h) = q in
    let same : heads.Rtp found ≡ h = cc in
    subst (λ (x : Head). IsRead Rtp bytes x) same (record { half_is = refl; head_is = e })

rtcp_is : (bytes : List ℕ) (o : Option ℕ) (h : Head) → rtcp_ssrc bytes ≡ o → option_map (λ (ssrc : ℕ). heads.Rtcp ssrc) o ≡ Some h → IsRead Rtcp bytes h
rtcp_is bytes None h e q = absurd (let f = q in cc)
rtcp_is bytes (Some ssrc) h e q =
    let f : ◌≡◌ {A = Option Head} (Some (heads.Rtcp ssrc)) (Some h) = q in
    let same : heads.Rtcp ssrc ≡ h = cc in
    subst (λ (x : Head). IsRead Rtcp bytes x) same (record { half_is = refl; head_is = e })

pub read_is : (half : Half) (bytes : List ℕ) (o : Option Head) (h : Head) → o ≡ head_of half bytes → o ≡ Some h → IsRead half bytes h
read_is Rtp bytes o h read is = rtp_is bytes (rtp_head bytes) h refl (sym read ∙ is)
read_is Rtcp bytes o h read is = rtcp_is bytes (rtcp_ssrc bytes) h refl (sym read ∙ is)

-- bytes with that head have no other
pub head_again : (half : Half) (bytes : List ℕ) (h : Head) → half_of h ≡ half → IsHead h bytes → head_of half bytes ≡ Some h
head_again half bytes (heads.Rtp found) is there =
    ap (λ (k : Half). head_of k bytes) (sym is) ∙ ap (λ (o : Option RtpHead). option_map (λ (f : RtpHead). heads.Rtp f) o) there
head_again half bytes (heads.Rtcp ssrc) is there =
    ap (λ (k : Half). head_of k bytes) (sym is) ∙ ap (λ (o : Option ℕ). option_map (λ (s : ℕ). heads.Rtcp s) o) there
