-- What a line says, by its first bytes.
use Rattle.std.specs.Prelude.{ℕ, List, [], ◌∷◌, drop, Bool, Option, Some, None, ◌==◌, if◌then◌else◌, codes, nat_eq}
use Rattle.std.specs.List.{starts_with}
use Rattle.std.specs.Str.{bytes_eq}
use Rattle.sdp_text.specs.Pieces.{pieces, fields, are_filled, number, port_number}
use Rattle.sdp_text.specs.Hosts.{host_of}
use Rattle.sdp_text.specs.declared.host.Host.{Host}
use Rattle.sdp_text.specs.declared.proto.Proto.{Proto}
use Rattle.sdp_text.specs.declared.proto.Proto.TheVariants.{Avp, Avpf, Savp, Savpf, Other}
use Rattle.sdp_text.specs.declared.role.Address.{Address}
use Rattle.sdp_text.specs.declared.role.Address.TheVariants.{Known, Unreadable}
use Rattle.sdp_text.specs.declared.role.MediaLine.{MediaLine}
use Rattle.sdp_text.specs.declared.role.MediaPort.{MediaPort}
use Rattle.sdp_text.specs.declared.role.RtcpLine.{RtcpLine}
use Rattle.sdp_text.specs.declared.role.Role.{Role}
use Rattle.sdp_text.specs.declared.role.Role.TheVariants.{Media, Connection, Rtcp, Mux, Plain}

abbrev pub is_origin : List ℕ → Bool
is_origin line = starts_with nat_eq line (codes "o=")

abbrev pub is_connection : List ℕ → Bool
is_connection line = starts_with nat_eq line (codes "c=")

abbrev pub is_media : List ℕ → Bool
is_media line = starts_with nat_eq line (codes "m=")

-- RFC 3605 section 2.1
abbrev pub is_rtcp_attribute : List ℕ → Bool
is_rtcp_attribute line = starts_with nat_eq line (codes "a=rtcp:")

-- RTP and RTCP share the port for RTP: the line that says so, byte for byte (RFC 5761 section 5.1.1)
abbrev pub mux_line : List ℕ
mux_line = codes "a=rtcp-mux"

-- RFC 8866 section 5.14, RFC 4585 section 8, RFC 3711, RFC 5124
abbrev pub proto_of : List ℕ → Proto
proto_of text = if bytes_eq text (codes "RTP/AVP") then Avp else if bytes_eq text (codes "RTP/AVPF") then Avpf else if bytes_eq text (codes "RTP/SAVP") then Savp else if bytes_eq text (codes "RTP/SAVPF") then Savpf else Other

-- RFC 5764 section 8
abbrev pub is_dtls : List ℕ → Bool
is_dtls proto = starts_with nat_eq proto (codes "UDP/TLS/")

-- a port, and whether it stands for one port alone
abbrev pub with_count : Option ℕ → Option ℕ → Option MediaPort
with_count None count = None
with_count (Some port) None = None
with_count (Some port) (Some count) = Some (record { port = port; is_single = count == 1 })

abbrev pub media_port_pieces : List (List ℕ) → Option MediaPort
media_port_pieces [] = None
media_port_pieces (port ∷ []) = with_count (port_number port) (Some 1)
media_port_pieces (port ∷ count ∷ []) = with_count (port_number port) (number count)
media_port_pieces (port ∷ count ∷ other ∷ more) = None

-- a port of at most 65535, with an optional `/` and number of ports
abbrev pub media_port : List ℕ → Option MediaPort
media_port field = media_port_pieces (pieces 47 field)

abbrev pub with_proto : Option MediaPort → List ℕ → Option MediaLine
with_proto None proto = None
with_proto (Some at) proto = Some (record { port = at.port; is_single = at.is_single; proto = proto_of proto; is_dtls = is_dtls proto })

abbrev pub media_fields : List (List ℕ) → Option MediaLine
media_fields (media ∷ port ∷ proto ∷ format ∷ more) = if are_filled (media ∷ port ∷ proto ∷ format ∷ []) then with_proto (media_port port) proto else None
media_fields _ = None

-- after `m=`: media, port, protocol and at least one format
abbrev pub media : List ℕ → Option MediaLine
media text = media_fields (fields text)

abbrev pub named : Option Host → Address
named None = Unreadable
named (Some host) = Known host

abbrev pub address_of : List ℕ → List ℕ → List ℕ → Address
address_of network family text = if bytes_eq network (codes "IN") then named (host_of family text) else Unreadable

-- three fields, none of them empty
abbrev pub three : List (List ℕ) → Option (List ℕ × List ℕ × List ℕ)
three [] = None
three (a ∷ []) = None
three (a ∷ b ∷ []) = None
three (a ∷ b ∷ c ∷ []) = if are_filled (a ∷ b ∷ c ∷ []) then Some (a, b, c) else None
three (a ∷ b ∷ c ∷ d ∷ more) = None

abbrev pub connection_of : Option (List ℕ × List ℕ × List ℕ) → Option Address
connection_of None = None
connection_of (Some f) = Some (address_of f.0 f.1 f.2)

-- after `c=`: network, family and address (RFC 8866 section 5.7)
abbrev pub connection : List ℕ → Option Address
connection text = connection_of (three (fields text))

abbrev pub with_address : ℕ → Option (List ℕ × List ℕ × List ℕ) → Option RtcpLine
with_address port None = None
with_address port (Some f) = if bytes_eq f.0 (codes "IN") then Some (record { port = port; address = Some (named (host_of f.1 f.2)) }) else None

-- what follows the port
abbrev pub with_rest : ℕ → List (List ℕ) → Option RtcpLine
with_rest port [] = Some (record { port = port; address = None })
with_rest port (field ∷ more) = with_address port (three (field ∷ more))

abbrev pub with_port : Option ℕ → List (List ℕ) → Option RtcpLine
with_port None more = None
with_port (Some port) more = if port == 0 then None else with_rest port more

abbrev pub rtcp_fields : List (List ℕ) → Option RtcpLine
rtcp_fields [] = None
rtcp_fields (port ∷ more) = with_port (port_number port) more

-- after `a=rtcp:`: a port from 1 on, alone or with `IN`, a family and an address
abbrev pub rtcp : List ℕ → Option RtcpLine
rtcp text = rtcp_fields (fields text)

abbrev pub media_role : Option MediaLine → Role
media_role None = Plain
media_role (Some line) = Media line

abbrev pub connection_role : Option Address → Role
connection_role None = Plain
connection_role (Some address) = Connection address

abbrev pub rtcp_role : Option RtcpLine → Role
rtcp_role None = Plain
rtcp_role (Some line) = Rtcp line

-- what a line says; a line that can't be read says nothing
abbrev pub role : List ℕ → Role
role line = if is_media line then media_role (media (drop 2 line)) else if is_connection line then connection_role (connection (drop 2 line)) else if is_rtcp_attribute line then rtcp_role (rtcp (drop 7 line)) else if bytes_eq line mux_line then Mux else Plain
