-- Which key of a command is at fault: the first of a list, where several are.
use Rattle.std.specs.Prelude.{List, [], ◌∷◌, Bool, true, false, not, ◌&&◌, ◌||◌, Option, Some, None, codes, find, is_none, is_some}
use Rattle.ng_bencode.specs.Tree.{Entries}
use Rattle.ng_bencode.specs.Lookup.{value_at}
use Rattle.ng_command.specs.Values.{text_at, is_name, is_wordless, is_other_than, has_key}
use Rattle.ng_command.specs.Effects.{signals_source, ip_of_tree, protocol_in, asks_dtls, limit_of, delay_of, family_spelled}
use Rattle.ng_command.specs.declared.kind.Kind.{Kind}
use Rattle.ng_command.specs.declared.kind.Kind.TheVariants as kinds
use Rattle.ng_command.specs.declared.fault.KeyName.{KeyName}
use Rattle.ng_command.specs.declared.fault.KeyName.TheVariants.{CallId, FromTag, ToTag, Sdp, Flags, Replace, TransportProtocol, ReceivedFrom, Limit, DeleteDelay, AddressFamily, RtcpMux, Ice, Dtls, RecordCall, Codec, Tls}
use Rattle.ng_command.specs.declared.fault.CommandFault.{CommandFault}
use Rattle.ng_command.specs.declared.fault.CommandFault.TheVariants as faults

-- which command it is
abbrev pub is_offer : Kind → Bool
is_offer kinds.Ping = false
is_offer kinds.Offer = true
is_offer kinds.Answer = false
is_offer kinds.Delete = false
is_offer kinds.Query = false
is_offer kinds.List = false

abbrev pub is_answer : Kind → Bool
is_answer kinds.Ping = false
is_answer kinds.Offer = false
is_answer kinds.Answer = true
is_answer kinds.Delete = false
is_answer kinds.Query = false
is_answer kinds.List = false

abbrev pub is_delete : Kind → Bool
is_delete kinds.Ping = false
is_delete kinds.Offer = false
is_delete kinds.Answer = false
is_delete kinds.Delete = true
is_delete kinds.Query = false
is_delete kinds.List = false

abbrev pub is_query : Kind → Bool
is_query kinds.Ping = false
is_query kinds.Offer = false
is_query kinds.Answer = false
is_query kinds.Delete = false
is_query kinds.Query = true
is_query kinds.List = false

abbrev pub is_list : Kind → Bool
is_list kinds.Ping = false
is_list kinds.Offer = false
is_list kinds.Answer = false
is_list kinds.Delete = false
is_list kinds.Query = false
is_list kinds.List = true

-- the commands that carry a description
abbrev pub has_description : Kind → Bool
has_description kind = is_offer kind || is_answer kind

-- the command uses the key, and what stands there is missing or of the wrong form
abbrev pub is_wrong : Kind → Entries → KeyName → Bool
is_wrong kind pairs CallId = (has_description kind || is_delete kind || is_query kind) && not (is_name (text_at pairs (codes "call-id")))
is_wrong kind pairs FromTag = (has_description kind || (is_delete kind && is_some (value_at pairs (codes "from-tag")))) && not (is_name (text_at pairs (codes "from-tag")))
is_wrong kind pairs ToTag = is_answer kind && not (is_name (text_at pairs (codes "to-tag")))
is_wrong kind pairs Sdp = has_description kind && is_none (text_at pairs (codes "sdp"))
is_wrong kind pairs Flags = (has_description kind || is_delete kind) && is_wordless (value_at pairs (codes "flags"))
is_wrong kind pairs Replace = has_description kind && is_wordless (value_at pairs (codes "replace"))
is_wrong kind pairs TransportProtocol =
    is_offer kind && is_some (value_at pairs (codes "transport protocol"))
    && not (is_some (protocol_in (text_at pairs (codes "transport protocol"))) || asks_dtls (text_at pairs (codes "transport protocol")))
is_wrong kind pairs ReceivedFrom = has_description kind && signals_source pairs && is_none (ip_of_tree (value_at pairs (codes "received from")))
is_wrong kind pairs Limit = is_list kind && is_none (limit_of (value_at pairs (codes "limit")))
is_wrong kind pairs DeleteDelay = is_delete kind && is_none (delay_of (value_at pairs (codes "delete delay")))
is_wrong kind pairs AddressFamily =
    is_offer kind && is_some (value_at pairs (codes "address family")) && is_none (family_spelled (text_at pairs (codes "address family")))
is_wrong kind pairs RtcpMux = is_offer kind && is_wordless (value_at pairs (codes "rtcp-mux"))
is_wrong kind pairs Ice = false
is_wrong kind pairs Dtls = false
is_wrong kind pairs RecordCall = false
is_wrong kind pairs Codec = false
is_wrong kind pairs Tls = false

-- The command uses the key, and what stands there asks for what this proxy does not do. Whether it does the `address family` of an offer is
-- for its configuration to say.
abbrev pub is_unsupported : Kind → Entries → KeyName → Bool
is_unsupported kind pairs Ice = has_description kind && is_other_than (codes "remove" ∷ []) (value_at pairs (codes "ICE"))
is_unsupported kind pairs Dtls = has_description kind && is_other_than (codes "off" ∷ codes "no" ∷ codes "disable" ∷ []) (value_at pairs (codes "DTLS"))
is_unsupported kind pairs TransportProtocol = is_offer kind && asks_dtls (text_at pairs (codes "transport protocol"))
is_unsupported kind pairs RecordCall = has_description kind && is_other_than (codes "no" ∷ codes "off" ∷ []) (value_at pairs (codes "record call"))
is_unsupported kind pairs Codec = has_description kind && has_key (codes "transcode") (value_at pairs (codes "codec"))
is_unsupported kind pairs CallId = false
is_unsupported kind pairs FromTag = false
is_unsupported kind pairs ToTag = false
is_unsupported kind pairs Sdp = false
is_unsupported kind pairs Flags = false
is_unsupported kind pairs Replace = false
is_unsupported kind pairs ReceivedFrom = false
is_unsupported kind pairs Limit = false
is_unsupported kind pairs DeleteDelay = false
is_unsupported kind pairs AddressFamily = false
is_unsupported kind pairs RtcpMux = false
is_unsupported kind pairs Tls = false

-- the order in which a wrong key is named
abbrev pub wrong_keys : List KeyName
wrong_keys = CallId ∷ FromTag ∷ ToTag ∷ Sdp ∷ Flags ∷ Replace ∷ TransportProtocol ∷ ReceivedFrom ∷ Limit ∷ DeleteDelay ∷ AddressFamily ∷ RtcpMux ∷ []

-- the order in which an unsupported option is named
abbrev pub unsupported_keys : List KeyName
unsupported_keys = Ice ∷ Dtls ∷ TransportProtocol ∷ RecordCall ∷ Codec ∷ []

abbrev pub first_wrong : Kind → Entries → Option KeyName
first_wrong kind pairs = find (λ key. is_wrong kind pairs key) wrong_keys

abbrev pub first_unsupported : Kind → Entries → Option KeyName
first_unsupported kind pairs = find (λ key. is_unsupported kind pairs key) unsupported_keys

-- a wrong key comes before an unsupported option
abbrev pub fault_by : Option KeyName → Option KeyName → Option CommandFault
fault_by (Some wrong) unsupported = Some (faults.Key wrong)
fault_by None (Some unsupported) = Some (faults.Unsupported unsupported)
fault_by None None = None

abbrev pub fault_of : Kind → Entries → Option CommandFault
fault_of kind pairs = fault_by (first_wrong kind pairs) (first_unsupported kind pairs)
