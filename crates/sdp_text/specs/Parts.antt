-- The sections of a description: each is an `m=` line with the lines up to the next one.
use Rattle.std.specs.Prelude.{ℕ, ◌+◌, List, [], ◌∷◌, Bool, true, false, ◌&&◌, ◌||◌, not, Option, Some, None, nat_lt, ◌==◌, if◌then◌else◌, is_none, map}
use Rattle.std.specs.List.{list_any}
use Rattle.sdp_text.specs.Hosts.{is_unspecified, is_v6}
use Rattle.sdp_text.specs.Roles.{role}
use Rattle.sdp_text.specs.declared.host.Host.{Host}
use Rattle.sdp_text.specs.declared.proto.Proto.{Proto}
use Rattle.sdp_text.specs.declared.proto.Proto.TheVariants.{Avp, Avpf, Savp, Savpf, Other}
use Rattle.sdp_text.specs.declared.role.Address.{Address}
use Rattle.sdp_text.specs.declared.role.Address.TheVariants.{Known, Unreadable}
use Rattle.sdp_text.specs.declared.role.MediaLine.{MediaLine}
use Rattle.sdp_text.specs.declared.role.RtcpLine.{RtcpLine}
use Rattle.sdp_text.specs.declared.role.Role.{Role}
use Rattle.sdp_text.specs.declared.role.Role.TheVariants.{Media, Connection, Rtcp, Mux, Plain}
use Rattle.sdp_text.specs.declared.part.Part.{Part}
use Rattle.sdp_text.specs.declared.section.Section.{Section}
use Rattle.sdp_text.specs.declared.fault.SdpFault.{SdpFault}
use Rattle.sdp_text.specs.declared.fault.SdpFault.TheVariants as faults

-- the first `c=` line before the next `m=` line, with its number; the first role is that of line `number`
abbrev pub first_connection : ℕ → List Role → Option (ℕ × Address)
first_connection number [] = None
first_connection number (Media line ∷ more) = None
first_connection number (Connection address ∷ more) = Some (number, address)
first_connection number (Rtcp line ∷ more) = first_connection (number + 1) more
first_connection number (Mux ∷ more) = first_connection (number + 1) more
first_connection number (Plain ∷ more) = first_connection (number + 1) more

-- the first `a=rtcp` line before the next `m=` line
abbrev pub first_rtcp : ℕ → List Role → Option (ℕ × RtcpLine)
first_rtcp number [] = None
first_rtcp number (Media line ∷ more) = None
first_rtcp number (Connection address ∷ more) = first_rtcp (number + 1) more
first_rtcp number (Rtcp line ∷ more) = Some (number, line)
first_rtcp number (Mux ∷ more) = first_rtcp (number + 1) more
first_rtcp number (Plain ∷ more) = first_rtcp (number + 1) more

abbrev pub is_media_role : Role → Bool
is_media_role (Media line) = true
is_media_role (Connection address) = false
is_media_role (Rtcp line) = false
is_media_role Mux = false
is_media_role Plain = false

abbrev pub is_mux_role : Role → Bool
is_mux_role (Media line) = false
is_mux_role (Connection address) = false
is_mux_role (Rtcp line) = false
is_mux_role Mux = true
is_mux_role Plain = false

-- the roles of the lines up to the next `m=` line
abbrev pub section_roles : List Role → List Role
section_roles [] = []
section_roles (role ∷ more) = if is_media_role role then [] else role ∷ section_roles more

-- whether one of the lines before the next `m=` line is `a=rtcp-mux`
abbrev pub holds_mux : List Role → Bool
holds_mux roles = list_any is_mux_role (section_roles roles)

-- the first of two that is there
abbrev pub first_of_two : {X : Type 0} → Option X → Option X → Option X
first_of_two None second = second
first_of_two (Some x) second = Some x

-- each section, with the `c=` line in effect: its own first one, else the session's
abbrev pub parts_from : Option (ℕ × Address) → ℕ → List Role → List Part
parts_from session number [] = []
parts_from session number (Media line ∷ more) = record { line = number; media = line; connection = first_of_two (first_connection (number + 1) more) session; rtcp = first_rtcp (number + 1) more; mux = holds_mux more } ∷ parts_from session (number + 1) more
parts_from session number (Connection address ∷ more) = parts_from session (number + 1) more
parts_from session number (Rtcp line ∷ more) = parts_from session (number + 1) more
parts_from session number (Mux ∷ more) = parts_from session (number + 1) more
parts_from session number (Plain ∷ more) = parts_from session (number + 1) more

abbrev pub parts_of_roles : List Role → List Part
parts_of_roles roles = parts_from (first_connection 1 roles) 1 roles

abbrev pub media_parts : List (List ℕ) → List Part
media_parts lines = parts_of_roles (map role lines)

-- one of the four protocols of RTP
abbrev pub is_rtp_proto : Proto → Bool
is_rtp_proto Avp = true
is_rtp_proto Avpf = true
is_rtp_proto Savp = true
is_rtp_proto Savpf = true
is_rtp_proto Other = false

abbrev pub is_active_line : MediaLine → Bool
is_active_line line = not (line.port == 0) && is_rtp_proto line.proto

-- an active section without an address, or without a port for RTCP
abbrev pub is_unplaced : Part → Bool
is_unplaced part = is_active_line part.media && (is_none part.connection || (part.media.port == 65535 && is_none part.rtcp))

abbrev pub is_dtls_part : Part → Bool
is_dtls_part part = not (part.media.port == 0) && part.media.is_dtls

-- the line that a fault names
abbrev pub fault_line : SdpFault → ℕ
fault_line (faults.Line n) = n
fault_line (faults.Address n) = n
fault_line (faults.PortCount n) = n
fault_line (faults.TooManyMedia n) = 0
fault_line faults.Dtls = 0
fault_line faults.OutOfMemory = 0

-- the fault of the earlier line
abbrev pub earlier : Option SdpFault → Option SdpFault → Option SdpFault
earlier None second = second
earlier (Some first) None = Some first
earlier (Some first) (Some second) = if nat_lt (fault_line second) (fault_line first) then Some second else Some first

abbrev pub count_fault : Part → Option SdpFault
count_fault part = if part.media.is_single then None else Some (faults.PortCount part.line)

abbrev pub address_fault : ℕ → Address → Option SdpFault
address_fault number (Known host) = None
address_fault number Unreadable = Some (faults.Address number)

abbrev pub connection_fault : Option (ℕ × Address) → Option SdpFault
connection_fault None = None
connection_fault (Some c) = address_fault c.0 c.1

abbrev pub given_fault : ℕ → Option Address → Option SdpFault
given_fault number None = None
given_fault number (Some address) = address_fault number address

abbrev pub rtcp_fault : Option (ℕ × RtcpLine) → Option SdpFault
rtcp_fault None = None
rtcp_fault (Some r) = given_fault r.0 r.1.address

-- the first line of an active section that can't be served
abbrev pub part_fault : Part → Option SdpFault
part_fault part = if is_active_line part.media then earlier (count_fault part) (earlier (connection_fault part.connection) (rtcp_fault part.rtcp)) else None

-- the first such line of all sections
abbrev pub served_fault : List Part → Option SdpFault
served_fault [] = None
served_fault (part ∷ more) = earlier (part_fault part) (served_fault more)

-- the lower of two line numbers
abbrev pub lower : Option ℕ → Option ℕ → Option ℕ
lower None second = second
lower (Some first) None = Some first
lower (Some first) (Some second) = if nat_lt second first then Some second else Some first

abbrev pub v6_address : ℕ → Address → Option ℕ
v6_address number (Known host) = if is_v6 host then Some number else None
v6_address number Unreadable = None

abbrev pub v6_connection : Option (ℕ × Address) → Option ℕ
v6_connection None = None
v6_connection (Some c) = v6_address c.0 c.1

abbrev pub v6_given : ℕ → Option Address → Option ℕ
v6_given number None = None
v6_given number (Some address) = v6_address number address

abbrev pub v6_rtcp : Option (ℕ × RtcpLine) → Option ℕ
v6_rtcp None = None
v6_rtcp (Some r) = v6_given r.0 r.1.address

-- the first line in effect for an active section that names an IPv6 address
abbrev pub v6_part : Part → Option ℕ
v6_part part = if is_active_line part.media then lower (v6_connection part.connection) (v6_rtcp part.rtcp) else None

abbrev pub v6_line : List Part → Option ℕ
v6_line [] = None
v6_line (part ∷ more) = lower (v6_part part) (v6_line more)

abbrev pub known : Address → Option Host
known (Known host) = Some host
known Unreadable = None

abbrev pub connection_host : Option (ℕ × Address) → Option Host
connection_host None = None
connection_host (Some c) = known c.1

-- the port after a port; none follows the last, and 0 stands for it
abbrev pub next_port : ℕ → ℕ
next_port port = if port == 65535 then 0 else port + 1

abbrev pub rtcp_port : ℕ → Option (ℕ × RtcpLine) → ℕ
rtcp_port port None = next_port port
rtcp_port port (Some r) = r.1.port

abbrev pub given_host : Option Host → Option Address → Option Host
given_host host None = host
given_host host (Some address) = known address

abbrev pub rtcp_host : Option Host → Option (ℕ × RtcpLine) → Option Host
rtcp_host host None = host
rtcp_host host (Some r) = given_host host r.1.address

abbrev pub is_held : Option Host → Bool
is_held None = false
is_held (Some host) = is_unspecified host

-- a section as callers see it
abbrev pub section_of : Part → Section
section_of part = record { line = part.line; port = part.media.port; proto = part.media.proto; address = connection_host part.connection; rtcp_port = rtcp_port part.media.port part.rtcp; rtcp_address = rtcp_host (connection_host part.connection) part.rtcp; hold = is_held (connection_host part.connection); mux = part.mux }
