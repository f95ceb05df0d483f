-- The edits by which an offer and an answer are written, from what a dialog keeps.
use Rattle.std.specs.Prelude.{◌≡◌, ◌≤◌, ℕ, List, [], ◌∷◌, Bool, ◌&&◌, nat_le, length, Option, Some, None, map, min, option_map, replicate, slice_index_or, if◌then◌else◌}
use Rattle.histories.specs.Words.{numbers}
use Rattle.relay_outside.specs.declared.address.Family.{Family}
use Rattle.relay_outside.specs.declared.address.Family.TheVariants.{V6}
use Rattle.relay_outside.specs.declared.settings.Config.{Config}
use Rattle.relay_outside.specs.Settings.{interface_of}
use Rattle.sdp_text.specs.Hosts.{text_of}
use Rattle.sdp_text.specs.declared.host.Host.{Host}
use Rattle.sdes_lines.specs.declared.crypto_line.CryptoLine.{CryptoLine}
use Rattle.sdes_lines.specs.declared.crypto_line.Suite.TheVariants.{Tag80}
use Rattle.sdp_edit.specs.declared.edits.SectionEdit.{SectionEdit}
use Rattle.sdp_edit.specs.declared.edits.Edit.{Edit}
use Rattle.sdp_edit.specs.EditedText.{edited}
use Rattle.ng_command.specs.declared.command.Options.{Options}
use Rattle.port_pool.specs.Signals.{other_side}
use Rattle.offer_answer.specs.Sections.{is_active}
use Rattle.offer_answer.specs.Profiles.{is_srtp}
use Rattle.offer_answer.specs.Keys.{no_lines}
use Rattle.offer_answer.specs.Mux.{mux_on}
use Rattle.offer_answer.specs.Texts.{host_of_ip, interface_host, written_host}
use Rattle.offer_answer.specs.Dialogs.{key_for, leg_at, no_state}
use Rattle.offer_answer.specs.LastOffers.{no_made}
use Rattle.offer_answer.specs.declared.leg.DrawnKey.{DrawnKey}
use Rattle.offer_answer.specs.declared.leg.Leg.{Leg}
use Rattle.offer_answer.specs.declared.last_offer.MadeSection.{MadeSection}
use Rattle.offer_answer.specs.declared.last_offer.LastOffer.{LastOffer}
use Rattle.offer_answer.specs.declared.last_offer.OfferedNext.{OfferedNext}

-- an edit with this address and what the options say, with room for `count` sections and none of them yet
pub record IsEditReserved (address : Host) (options : Options) (count : ℕ) (edit : Edit) : Type 0 where
  pub address_is : edit.address ≡ address
  pub origin_is : edit.replace_origin ≡ options.replace_origin
  pub session_is : edit.replace_session ≡ options.replace_session
  pub none_yet : edit.sections.list ≡ []
  pub room : count ≤ edit.sections.spare

-- The offer.

-- the line with this tag
abbrev pub under_tag : ℕ → CryptoLine → CryptoLine
under_tag tag line = record { tag = tag; suite = line.suite; key = line.key }

-- the two lines of a section, with the tags 1 and 2
abbrev pub tagged_lines : List (Option CryptoLine) → List (Option CryptoLine)
tagged_lines lines = option_map (under_tag 1) (slice_index_or lines 0 None) ∷ option_map (under_tag 2) (slice_index_or lines 1 None) ∷ []

-- crypto lines are written in an active section with SRTP alone
abbrev pub has_lines : MadeSection → Bool
has_lines made = is_active made.section && is_srtp made.written

abbrev pub made_at : LastOffer → ℕ → MadeSection
made_at last section = slice_index_or last.sections section no_made

-- the port of the other side's leg, where the section is active
abbrev pub port_written : OfferedNext → ℕ → ℕ
port_written next section =
    if is_active (made_at next.last section).section
    then (leg_at (slice_index_or next.sections section no_state) (other_side next.last.maker)).port
    else 0

-- the family of that leg
abbrev pub family_written : OfferedNext → ℕ → Option Family
family_written next section = (leg_at (slice_index_or next.sections section no_state) (other_side next.last.maker)).family

-- what is written of a section of the offer that is kept
abbrev pub section_written : Config → OfferedNext → ℕ → SectionEdit
section_written config next section =
    let made = made_at next.last section in
    record {
      port = port_written next section;
      proto = made.written;
      address = written_host config (port_written next section) (family_written next section);
      mux = mux_on next.last.options made.section;
      crypto = if has_lines made then tagged_lines made.lines else no_lines;
    }

abbrev pub sections_written : Config → OfferedNext → List SectionEdit
sections_written config next = map (section_written config next) (numbers 0 next.last.count)

-- How long the offer's text can be, whatever its ports and keys.

-- the address with the longer text
abbrev pub longer_host : Host → Host → Host
longer_host first second = if nat_le (length (text_of first)) (length (text_of second)) then second else first

-- the address of an interface with the longest text
abbrev pub longest_host : Config → Host
longest_host config = longer_host (interface_host config) (host_of_ip (interface_of config V6))

-- a line with this tag, as long as any
abbrev pub any_line : ℕ → CryptoLine
any_line tag = record { tag = tag; suite = Tag80; key = replicate 30 0 }

-- the section with a port of five digits and this address, and with both crypto lines where it has any; `a=rtcp-mux` is decided already
abbrev pub widest_section : Host → Options → MadeSection → SectionEdit
widest_section host options made = record {
  port = 65535;
  proto = made.written;
  address = host;
  mux = mux_on options made.section;
  crypto = if has_lines made then Some (any_line 1) ∷ Some (any_line 2) ∷ [] else no_lines;
}

abbrev pub widest_at : Host → LastOffer → ℕ → SectionEdit
widest_at host last section = widest_section host last.options (made_at last section)

abbrev pub widest_sections : Host → LastOffer → List SectionEdit
widest_sections host last = map (widest_at host last) (numbers 0 last.count)

abbrev pub widest_edit : Host → LastOffer → Edit
widest_edit host last = record {
  address = host;
  replace_origin = last.options.replace_origin;
  replace_session = last.options.replace_session;
  sections = record { list = widest_sections host last; spare = 0 };
}

-- the length of that text of a description with these lines, with the longest address
abbrev pub widest_len : Config → LastOffer → List (List ℕ) → ℕ
widest_len config last lines = length (edited lines (widest_edit (longest_host config) last))

-- The answer.

-- no usable line has a greater tag (RFC 4568 section 9.1)
abbrev pub greatest_tag : ℕ
greatest_tag = 999999999

-- the line that carries the leg's key in answer to a chosen one, with its tag
abbrev pub line_back : Leg → CryptoLine → Option CryptoLine
line_back leg line =
    option_map (λ (key : DrawnKey). record { tag = min line.tag greatest_tag; suite = key.suite; key = key.bytes }) (key_for leg line.suite)
