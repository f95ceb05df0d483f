-- The text of each error and warning.
use Rattle.std.specs.Prelude.{ℕ, List, [], ◌++◌, codes, decimal}
use Rattle.ng_command.specs.declared.fault.KeyName.{KeyName}
use Rattle.ng_command.specs.declared.fault.KeyName.TheVariants as key
use Rattle.ng_reply.specs.declared.code.SdpPart.{SdpPart}
use Rattle.ng_reply.specs.declared.code.SdpPart.TheVariants.{Line, Media}
use Rattle.ng_reply.specs.declared.code.ErrorCode.{ErrorCode}
use Rattle.ng_reply.specs.declared.code.ErrorCode.TheVariants.{E1, E2, E3, E4, E5, E6, E7, E8, E9, E10, E11, E12, E13, E14, E15, E16, E17, E18, E19, E20}

-- a key as it is written
abbrev pub key_text : KeyName → List ℕ
key_text key.CallId = codes "call-id"
key_text key.FromTag = codes "from-tag"
key_text key.ToTag = codes "to-tag"
key_text key.Sdp = codes "sdp"
key_text key.Flags = codes "flags"
key_text key.Replace = codes "replace"
key_text key.TransportProtocol = codes "transport protocol"
key_text key.ReceivedFrom = codes "received from"
key_text key.Limit = codes "limit"
key_text key.DeleteDelay = codes "delete delay"
key_text key.AddressFamily = codes "address family"
key_text key.RtcpMux = codes "rtcp-mux"
key_text key.Ice = codes "ICE"
key_text key.Dtls = codes "DTLS"
key_text key.RecordCall = codes "record call"
key_text key.Codec = codes "codec"
key_text key.Tls = codes "UDP/TLS"

-- a place of a description
abbrev pub part_text : SdpPart → List ℕ
part_text (Line n) = codes "line " ++ decimal n
part_text (Media n) = codes "media " ++ decimal n

-- what the text begins with, before a key or a place
abbrev pub head_text : ErrorCode → List ℕ
head_text E1 = codes "malformed dictionary"
head_text E2 = codes "no command"
head_text E3 = codes "unrecognized command"
head_text (E4 name) = codes "missing or wrong key: "
head_text (E5 name) = codes "unsupported option: "
head_text (E6 n) = codes "malformed SDP: "
head_text (E7 part) = codes "unsupported SDP: "
head_text E8 = codes "no usable crypto"
head_text E9 = codes "unknown call-id"
head_text E10 = codes "unknown tag"
head_text E11 = codes "offer open on the other side"
head_text E12 = codes "media count differs"
head_text E13 = codes "no free port pair"
head_text E14 = codes "session limit reached"
head_text E15 = codes "port fault"
head_text E16 = codes "key source fault"
head_text E17 = codes "out of memory"
head_text E18 = codes "datagram too long"
head_text E19 = codes "call is ending"
head_text E20 = codes "address family differs"

-- the key or the place that the text names
abbrev pub tail_text : ErrorCode → List ℕ
tail_text (E4 name) = key_text name
tail_text (E5 name) = key_text name
tail_text (E6 n) = part_text (Line n)
tail_text (E7 part) = part_text part
tail_text other = []

abbrev pub code_text : ErrorCode → List ℕ
code_text code = head_text code ++ tail_text code
