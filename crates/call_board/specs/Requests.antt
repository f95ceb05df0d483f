-- What a control datagram asks: its command, or the first error that its bytes alone have.
use Rattle.std.specs.Prelude.{ℕ, Bool, true, false, List, Option, Some, None, Result, Ok, Err}
use Rattle.relay_outside.specs.declared.address.Family.{Family}
use Rattle.relay_outside.specs.declared.address.Family.TheVariants.{V4, V6}
use Rattle.relay_outside.specs.declared.address.Ip.{Ip}
use Rattle.relay_outside.specs.declared.settings.Config.{Config}
use Rattle.ng_bencode.specs.Tree.{Dict, Entries}
use Rattle.ng_command.specs.declared.fault.CommandFault.{CommandFault}
use Rattle.ng_command.specs.declared.fault.CommandFault.TheVariants as fault
use Rattle.ng_command.specs.declared.fault.KeyName.TheVariants.{AddressFamily, Tls}
use Rattle.ng_command.specs.Meanings.{Said, Ping, Offer, Answer, Delete, Query, Listing}
use Rattle.ng_command.specs.Bodies.{said_or_fault}
use Rattle.ng_reply.specs.declared.code.ErrorCode.{ErrorCode}
use Rattle.ng_reply.specs.declared.code.ErrorCode.TheVariants.{E1, E2, E3, E4, E5, E6, E7, E17, E18}
use Rattle.ng_reply.specs.declared.code.SdpPart.TheVariants as part
use Rattle.sdp_text.specs.Lines.{lines_of}
use Rattle.sdp_text.specs.Descriptions.{fault_in, v6_line_in}
use Rattle.sdp_text.specs.declared.fault.SdpFault.{SdpFault}
use Rattle.sdp_text.specs.declared.fault.SdpFault.TheVariants as sdp
use Rattle.histories.specs.Words.{or_else}
use Rattle.call_board.specs.Dialects.{is_json, SaysIn}

-- the text says this dictionary, or it says none
abbrev pub ReadsIn : (in_json : Bool) → List ℕ → Option Entries → Type 0
ReadsIn in_json text (Some pairs) = SaysIn in_json text (Dict pairs)
ReadsIn in_json text None = (pairs : Entries) → SaysIn in_json text (Dict pairs) → ⊥

-- the same of a body, in its dialect
abbrev pub ReadsBody : List ℕ → Option Entries → Type 0
ReadsBody body pairs = ReadsIn (is_json body) body pairs

abbrev pub command_code : CommandFault → ErrorCode
command_code fault.Malformed = E1
command_code fault.NoCommand = E2
command_code fault.Unrecognized = E3
command_code (fault.Key name) = E4 name
command_code (fault.Unsupported name) = E5 name
command_code fault.OutOfMemory = E17

abbrev pub or_code : Result Said CommandFault → Result Said ErrorCode
or_code (Ok says) = Ok says
or_code (Err cause) = Err (command_code cause)

-- the command of a datagram, or the error of its length, its dictionary or its keys
abbrev pub command_in : Bool → Option Entries → Result Said ErrorCode
command_in true pairs = Err E18
command_in false None = Err E1
command_in false (Some pairs) = or_code (said_or_fault pairs)

abbrev pub sdp_code : SdpFault → ErrorCode
sdp_code (sdp.Line n) = E6 n
sdp_code (sdp.Address n) = E7 (part.Line n)
sdp_code (sdp.PortCount n) = E7 (part.Line n)
sdp_code (sdp.TooManyMedia n) = E7 (part.Media n)
sdp_code sdp.Dtls = E5 Tls
sdp_code sdp.OutOfMemory = E17

abbrev pub code_if : Option SdpFault → Option ErrorCode
code_if None = None
code_if (Some cause) = Some (sdp_code cause)

-- the error of a description whose first line with an IPv6 address in effect is that one: it has none where there is an
-- address of version 6 to relay at
abbrev pub v6_error : Option Ip → Option ℕ → Option ErrorCode
v6_error (Some address) line = None
v6_error None None = None
v6_error None (Some n) = Some (E7 (part.Line n))

-- the error of a description
unfoldable pub sdp_error : Config → List ℕ → Option ErrorCode
sdp_error config text = or_else (code_if (fault_in (lines_of text))) (v6_error config.interface6 (v6_line_in (lines_of text)))

-- the error of the `address family` of an offer: version 6 can't be had where there is no address of it to relay at
abbrev pub family_error : Option Family → Option Ip → Option ErrorCode
family_error None address = None
family_error (Some V4) address = None
family_error (Some V6) (Some address) = None
family_error (Some V6) None = Some (E5 AddressFamily)

-- the error of a description that comes with this `address family`: that of the family is the first
abbrev pub sdp_error_for : Config → Option Family → List ℕ → Option ErrorCode
sdp_error_for config family text = or_else (family_error family config.interface6) (sdp_error config text)

-- the error of a command's description, where it has one; an answer asks for no family
abbrev pub description_error : Config → Said → Option ErrorCode
description_error config Ping = None
description_error config (Offer call_id from_tag sdp options) = sdp_error_for config options.family sdp
description_error config (Answer call_id from_tag to_tag sdp options) = sdp_error config sdp
description_error config (Delete call_id from_tag fatal seconds) = None
description_error config (Query call_id) = None
description_error config (Listing limit) = None

abbrev pub unless : Option ErrorCode → Said → Result Said ErrorCode
unless None says = Ok says
unless (Some code) says = Err code

abbrev pub asked_by : Config → Result Said ErrorCode → Result Said ErrorCode
asked_by config (Err code) = Err code
asked_by config (Ok says) = unless (description_error config says) says

-- the command of a datagram, or the first error of its bytes
unfoldable pub asked : Config → Bool → Option Entries → Result Said ErrorCode
asked config too_long pairs = asked_by config (command_in too_long pairs)
