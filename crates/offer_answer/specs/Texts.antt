-- What descriptions become (RFC 3264 sections 5 and 6).
use Rattle.std.specs.Prelude.{ℕ, List, [], ◌∷◌, Bool, not, ◌&&◌, ◌==◌, Option, Some, None, if◌then◌else◌, map, find, zip, unwrap_or, option_map, option_and_then}
use Rattle.histories.specs.Words.{or_else}
use Rattle.relay_outside.specs.declared.address.Ip.{Ip}
use Rattle.relay_outside.specs.declared.address.Ip.TheVariants as ips
use Rattle.relay_outside.specs.declared.address.Family.{Family}
use Rattle.relay_outside.specs.declared.address.Family.TheVariants.{V4}
use Rattle.relay_outside.specs.declared.settings.Config.{Config}
use Rattle.relay_outside.specs.Settings.{interface_of}
use Rattle.sdes_lines.specs.declared.crypto_line.CryptoLine.{CryptoLine}
use Rattle.sdp_text.specs.declared.host.Host.{Host}
use Rattle.sdp_text.specs.declared.host.Host.TheVariants as hosts
use Rattle.sdp_edit.specs.declared.edits.SectionEdit.{SectionEdit}
use Rattle.sdp_edit.specs.declared.edits.Edit.{Edit}
use Rattle.ng_command.specs.declared.command.Options.{Options}
use Rattle.port_pool.specs.declared.holder.Side.{Side}
use Rattle.port_pool.specs.Signals.{NewKey, side_eq, other_side}
use Rattle.port_pool.specs.Ports.{pair_port}
use Rattle.offer_answer.specs.Rounds.{Round, OfferAsk, AnswerAsk, NewLeg}
use Rattle.offer_answer.specs.Sides.{MadeOffer, offerer, maker}
use Rattle.offer_answer.specs.Sections.{section_in, all_sections, is_active_in, leg_of}
use Rattle.offer_answer.specs.Profiles.{is_srtp, written_profile}
use Rattle.offer_answer.specs.Keys.{chosen_in, leg_key, line_with, no_lines, offered_lines}
use Rattle.offer_answer.specs.Mux.{mux_on, mux_back}
use Rattle.offer_answer.specs.Signals.{is_rejected_by}
use Rattle.offer_answer.specs.Families.{leg_family, family_after}
use Rattle.offer_answer.specs.Demands.{new_legs}

abbrev pub host_of_ip : Ip → Host
host_of_ip (ips.V4 bytes) = hosts.V4 bytes
host_of_ip (ips.V6 bytes) = hosts.V6 bytes

abbrev pub interface_host : Config → Host
interface_host config = host_of_ip config.interface

-- the address that is written with a port: that of the interface of its leg's family, and of the interface of version 4 where the port is 0
abbrev pub written_host : Config → ℕ → Option Family → Host
written_host config port family = if port == 0 then interface_host config else host_of_ip (interface_of config (unwrap_or family V4))

-- the address of the first section whose port isn't 0
abbrev pub session_host : Config → List SectionEdit → Host
session_host config sections =
    unwrap_or (option_map (λ (edit : SectionEdit). edit.address) (find (λ (edit : SectionEdit). not (edit.port == 0)) sections)) (interface_host config)

-- these sections, with what the options say of the lines before the first of them
abbrev pub edit_with : Config → Options → List SectionEdit → Edit
edit_with config options sections = record {
  address = session_host config sections;
  replace_origin = options.replace_origin;
  replace_session = options.replace_session;
  sections = record { list = sections; spare = 0 };
}

-- the RTP port of a leg that stands
abbrev pub standing_port : Config → List Round → ℕ → Side → Option ℕ
standing_port config rounds section side = option_map (λ leg. pair_port config leg.pair) (leg_of rounds section side)

-- the RTP port of a new leg, where these are the new legs and their ports in the order of leases
abbrev pub new_port : List NewLeg → List ℕ → ℕ → Side → Option ℕ
new_port legs ports section side =
    option_map (λ (leased : NewLeg × ℕ). leased.1) (find (λ leased. leased.0.section == section && side_eq leased.0.side side) (zip legs ports))

-- An offer's section names the other side's leg.
abbrev pub offered_port : Config → List Round → OfferAsk → List ℕ → ℕ → ℕ
offered_port config rounds ask ports section =
    let side = other_side (offerer rounds ask) in
    if is_active_in ask.sdp section
    then unwrap_or (or_else (new_port (new_legs rounds ask) ports section side) (standing_port config rounds section side)) 0
    else 0

abbrev pub offer_section : Config → List Round → OfferAsk → List ℕ → List NewKey → ℕ → SectionEdit
offer_section config rounds ask ports keys section = record {
  port = offered_port config rounds ask ports section;
  proto = written_profile rounds ask section;
  address = written_host config (offered_port config rounds ask ports section) (Some (family_after rounds ask section (other_side (offerer rounds ask))));
  mux = mux_on ask.options (section_in ask.sdp section);
  crypto = offered_lines rounds ask keys section;
}

abbrev pub offer_edit : Config → List Round → OfferAsk → List ℕ → List NewKey → Edit
offer_edit config rounds ask ports keys =
    edit_with config ask.options (map (offer_section config rounds ask ports keys) (all_sections ask.sdp))

-- an answer's section names the offerer's leg
abbrev pub answered_port : Config → List Round → MadeOffer → AnswerAsk → ℕ → ℕ
answered_port config rounds offer ask section =
    if is_rejected_by rounds ask section then 0 else unwrap_or (standing_port config rounds section (maker offer)) 0

-- the proxy's key for the line that the offerer chose, with the tag and the suite of that line (RFC 4568 section 5.1.2)
abbrev pub answering_line : List Round → MadeOffer → ℕ → CryptoLine → Option CryptoLine
answering_line rounds offer section line = option_map (line_with line.tag) (leg_key rounds section (maker offer) line.suite)

abbrev pub answered_lines : List Round → MadeOffer → AnswerAsk → ℕ → List (Option CryptoLine)
answered_lines rounds offer ask section =
    if not (is_rejected_by rounds ask section) && is_srtp (section_in offer.ask.sdp section).proto
    then option_and_then (answering_line rounds offer section) (chosen_in offer.ask.chosen section) ∷ None ∷ []
    else no_lines

-- a rejected section has no `a=rtcp-mux`
abbrev pub answered_mux : List Round → MadeOffer → AnswerAsk → ℕ → Bool
answered_mux rounds offer ask section =
    not (is_rejected_by rounds ask section) && mux_back offer.ask.options (section_in offer.ask.sdp section) (section_in ask.sdp section)

abbrev pub answer_section : Config → List Round → MadeOffer → AnswerAsk → ℕ → SectionEdit
answer_section config rounds offer ask section = record {
  port = answered_port config rounds offer ask section;
  proto = (section_in offer.ask.sdp section).proto;
  address = written_host config (answered_port config rounds offer ask section) (leg_family rounds section (maker offer));
  mux = answered_mux rounds offer ask section;
  crypto = answered_lines rounds offer ask section;
}

abbrev pub answer_edit : Config → List Round → MadeOffer → AnswerAsk → Edit
answer_edit config rounds offer ask = edit_with config ask.options (map (answer_section config rounds offer ask) (all_sections ask.sdp))
