-- How keys, crypto lines and the last offer of a dialog are written: a key of the dictionary for each field, in the order of their bytes.
use Rattle.std.specs.Prelude.{codes, ℕ, ◌≡◌, ◌<◌, ◌^◌, List, length, All, Option, IfSome}
use Rattle.relay_outside.specs.declared.settings.Flags.{Flags}
use Rattle.relay_outside.specs.declared.address.Ip.{Ip}
use Rattle.endpoint_learn.specs.SavedLearners.{FitsIp}
use Rattle.sdes_lines.specs.declared.crypto_line.CryptoLine.{CryptoLine}
use Rattle.sdp_text.specs.declared.host.Host.{Host}
use Rattle.sdp_text.specs.declared.host.Host.TheVariants as host
use Rattle.sdp_text.specs.declared.section.Section.{Section}
use Rattle.ng_command.specs.declared.command.Options.{Options}
use Rattle.ng_bencode.specs.Tree.{Tree, Bytes, Dict, entry, no_entries}
use Rattle.offer_answer.specs.declared.last_offer.MadeSection.{MadeSection}
use Rattle.offer_answer.specs.declared.last_offer.LastOffer.{LastOffer}
use Rattle.state_values.specs.Numbers.{number_tree, list_tree}
use Rattle.state_values.specs.Forms.{option_tree, flag_tree, side_tree, family_tree, suite_tree, proto_tree}
use Rattle.state_values.specs.CacheTrees.{source_octets}

-- the 4 or 16 bytes of a host's address
abbrev pub host_octets : Host → List ℕ
host_octets (host.V4 a) = a
host_octets (host.V6 a) = a

abbrev pub host_tree : Host → Tree
host_tree host = Bytes (host_octets host)

abbrev pub ip_tree : Ip → Tree
ip_tree ip = Bytes (source_octets ip)

-- a crypto line, with its key in full
abbrev pub line_tree : CryptoLine → Tree
line_tree line = Dict
    (entry (codes "key") (Bytes line.key)
    (entry (codes "suite") (suite_tree line.suite)
    (entry (codes "tag") (number_tree line.tag) no_entries)))

-- what an offer signals of a section
abbrev pub section_tree : Section → Tree
section_tree section = Dict
    (entry (codes "address") (option_tree host_tree section.address)
    (entry (codes "hold") (flag_tree section.hold)
    (entry (codes "line") (number_tree section.line)
    (entry (codes "mux") (flag_tree section.mux)
    (entry (codes "port") (number_tree section.port)
    (entry (codes "proto") (proto_tree section.proto)
    (entry (codes "rtcp_address") (option_tree host_tree section.rtcp_address)
    (entry (codes "rtcp_port") (number_tree section.rtcp_port) no_entries))))))))

-- a section of the last offer
abbrev pub made_tree : MadeSection → Tree
made_tree made = Dict
    (entry (codes "line") (option_tree line_tree made.line)
    (entry (codes "lines") (list_tree (option_tree line_tree) made.lines)
    (entry (codes "section") (section_tree made.section)
    (entry (codes "written") (proto_tree made.written) no_entries))))

abbrev pub flags_tree : Flags → Tree
flags_tree flags = Dict
    (entry (codes "asymmetric") (flag_tree flags.asymmetric)
    (entry (codes "handover") (flag_tree flags.handover)
    (entry (codes "strict") (flag_tree flags.strict) no_entries)))

abbrev pub options_tree : Options → Tree
options_tree options = Dict
    (entry (codes "family") (option_tree family_tree options.family)
    (entry (codes "flags") (flags_tree options.flags)
    (entry (codes "mux_accept") (flag_tree options.mux_accept)
    (entry (codes "mux_demux") (flag_tree options.mux_demux)
    (entry (codes "mux_offer") (flag_tree options.mux_offer)
    (entry (codes "replace_origin") (flag_tree options.replace_origin)
    (entry (codes "replace_session") (flag_tree options.replace_session)
    (entry (codes "source") (option_tree ip_tree options.source)
    (entry (codes "transport") (option_tree proto_tree options.transport) no_entries)))))))))

abbrev pub offer_tree : LastOffer → Tree
offer_tree offer = Dict
    (entry (codes "count") (number_tree offer.count)
    (entry (codes "from_tag") (Bytes offer.from_tag.list)
    (entry (codes "maker") (side_tree offer.maker)
    (entry (codes "options") (options_tree offer.options)
    (entry (codes "sections") (list_tree made_tree offer.sections) no_entries)))))

-- the ranges of the fields
abbrev pub FitsHost : Host → Type 0
FitsHost (host.V4 a) = length a ≡ 4
FitsHost (host.V6 a) = length a ≡ 16

pub record FitsOfferedLine (line : CryptoLine) : Type 0 where
  pub tag : line.tag < 2 ^ 32
  pub key : length line.key ≡ 30

abbrev pub FitsLineOption : Option CryptoLine → Type 0
FitsLineOption line = IfSome line FitsOfferedLine

pub record FitsSection (section : Section) : Type 0 where
  pub line : section.line < 2 ^ 32
  pub port : section.port < 2 ^ 16
  pub address : IfSome section.address FitsHost
  pub rtcp_port : section.rtcp_port < 2 ^ 16
  pub rtcp_address : IfSome section.rtcp_address FitsHost

-- an offer hands two crypto lines on at most
pub record FitsMade (made : MadeSection) : Type 0 where
  pub section : FitsSection made.section
  pub line : FitsLineOption made.line
  pub lines : All FitsLineOption made.lines
  pub lines_long : length made.lines ≡ 2

pub record FitsOptions (options : Options) : Type 0 where
  pub source : IfSome options.source FitsIp

pub record FitsOffer (offer : LastOffer) : Type 0 where
  pub options : FitsOptions offer.options
  pub count : offer.count < 2 ^ 64
  pub sections : All FitsMade offer.sections
  pub sections_long : length offer.sections ≡ 8
