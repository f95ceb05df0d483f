-- What an answer commits for a section.
use Rattle.std.specs.Prelude.{ℕ, List, [], ◌∷◌, Bool, not, ◌&&◌, Option, Some, None, if◌then◌else◌, map, option_map}
use Rattle.relay_outside.specs.declared.address.Ip.{Ip}
use Rattle.relay_outside.specs.declared.address.Ip.TheVariants as ips
use Rattle.sdes_lines.specs.declared.crypto_line.Suite.{Suite}
use Rattle.sdes_lines.specs.declared.crypto_line.CryptoLine.{CryptoLine}
use Rattle.sdp_text.specs.declared.host.Host.{Host}
use Rattle.sdp_text.specs.declared.host.Host.TheVariants as hosts
use Rattle.sdp_text.specs.declared.section.Section.{Section}
use Rattle.ng_command.specs.declared.command.Options.{Options}
use Rattle.port_pool.specs.declared.holder.Side.{Side}
use Rattle.port_pool.specs.declared.holder.Side.TheVariants.{A, B}
use Rattle.port_pool.specs.declared.signal.LegSignal.{LegSignal}
use Rattle.port_pool.specs.declared.signal.SectionSignal.{SectionSignal}
use Rattle.port_pool.specs.declared.signal.SectionSignal.TheVariants.{Commit, Reject}
use Rattle.port_pool.specs.Signals.{NewKey, side_eq}
use Rattle.offer_answer.specs.Rounds.{Round, AnswerAsk}
use Rattle.offer_answer.specs.Sides.{MadeOffer, maker, offered_sdp}
use Rattle.offer_answer.specs.Sections.{section_in, all_sections, is_active_in, has_pairs}
use Rattle.offer_answer.specs.Keys.{committed_line, committed_key}
use Rattle.offer_answer.specs.Mux.{mux_taken, mux_back}

-- the section isn't active in the offer or in the answer, or its pairs have gone
abbrev pub is_rejected_by : List Round → AnswerAsk → ℕ → Bool
is_rejected_by rounds ask section =
    not (is_active_in (offered_sdp rounds) section && is_active_in ask.sdp section && has_pairs rounds section)

abbrev pub ip_of : Host → Ip
ip_of (hosts.V4 bytes) = ips.V4 bytes
ip_of (hosts.V6 bytes) = ips.V6 bytes

-- the address that is signalled: that of `received from` where it is in effect, else the description's; 0.0.0.0 stands where
-- there is none, which no active section has
abbrev pub signalled : Option Ip → Option Host → Ip
signalled (Some source) host = source
signalled None (Some host) = ip_of host
signalled None None = ips.V4 (0 ∷ 0 ∷ 0 ∷ 0 ∷ [])

-- the key and the suite of a crypto line
abbrev pub line_key : CryptoLine → List ℕ × Suite
line_key line = (line.key, line.suite)

-- What a leg is committed with, by its side's section in a description with these options, the crypto line that the side chose,
-- the key under which packets are sent to it and whether it is muxed. Hold is read from the description alone (RFC 3264 section 8.4).
abbrev pub leg_signal : Section → Options → Option CryptoLine → Option NewKey → Bool → LegSignal
leg_signal section options line key mux = record {
  rtp = record { ip = signalled options.source section.address; port = section.port };
  rtcp = record { ip = signalled options.source section.rtcp_address; port = section.rtcp_port };
  flags = options.flags;
  hold = section.hold;
  mux = mux;
  inbound = option_map line_key line;
  outbound = option_map (λ (k : NewKey). k.number) key;
}

-- the offerer's leg is committed by the offer, the other one by the answer
abbrev pub side_signal : List Round → MadeOffer → AnswerAsk → ℕ → Side → LegSignal
side_signal rounds offer ask section side =
    let line = committed_line rounds ask section side in
    let key = committed_key rounds ask section side in
    let offered = section_in offer.ask.sdp section in
    let answered = section_in ask.sdp section in
    if side_eq side (maker offer)
    then leg_signal offered offer.ask.options line key (mux_back offer.ask.options offered answered)
    else leg_signal answered ask.options line key (mux_taken offer.ask.options offered answered)

abbrev pub section_signal : List Round → MadeOffer → AnswerAsk → ℕ → SectionSignal
section_signal rounds offer ask section =
    if is_rejected_by rounds ask section then Reject
    else Commit (side_signal rounds offer ask section A) (side_signal rounds offer ask section B)

-- the signal of an answer to this offer
abbrev pub answer_signal : List Round → MadeOffer → AnswerAsk → List SectionSignal
answer_signal rounds offer ask = map (section_signal rounds offer ask) (all_sections ask.sdp)
