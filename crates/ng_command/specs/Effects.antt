-- What the keys of a command say, where they say it in the right form.
use Rattle.std.specs.Prelude.{ℕ, pos, negsuc, List, [], ◌∷◌, Bool, false, not, ◌&&◌, Option, Some, None, codes, min, find, nat_le, if◌then◌else◌}
use Rattle.std.specs.List.{starts_with}
use Rattle.std.specs.Option.{option_map}
use Rattle.std.specs.Prelude.{nat_eq}
use Rattle.std.specs.Str.{bytes_eq}
use Rattle.ng_bencode.specs.Tree.{Tree, Int, Bytes, Items, Dict, no_items, item, Entries}
use Rattle.ng_bencode.specs.Lookup.{value_at}
use Rattle.relay_outside.specs.declared.address.Family.{Family}
use Rattle.relay_outside.specs.declared.address.Family.TheVariants as family
use Rattle.relay_outside.specs.declared.address.Ip.{Ip}
use Rattle.relay_outside.specs.declared.address.Ip.TheVariants as ips
use Rattle.relay_outside.specs.declared.settings.Flags.{Flags}
use Rattle.sdp_text.specs.declared.proto.Proto.{Proto}
use Rattle.sdp_text.specs.declared.proto.Proto.TheVariants.{Avp, Avpf, Savp, Savpf}
use Rattle.sdp_text.specs.Hosts.{ipv4_bytes, eight_groups, bytes_of_groups}
use Rattle.ng_command.specs.Values.{words_of, has_word}
use Rattle.ng_command.specs.declared.kind.Kind.{Kind}
use Rattle.ng_command.specs.declared.kind.Kind.TheVariants as kinds

-- the commands by their names
abbrev pub commands : List (List ℕ × Kind)
commands =
    (codes "ping", kinds.Ping) ∷ (codes "offer", kinds.Offer) ∷ (codes "answer", kinds.Answer)
    ∷ (codes "delete", kinds.Delete) ∷ (codes "query", kinds.Query) ∷ (codes "list", kinds.List) ∷ []

abbrev pub command_kind : List ℕ → Option Kind
command_kind name = option_map (λ command. command.1) (find (λ command. bytes_eq name command.0) commands)

-- the flags of a command
abbrev pub has_flag : Entries → List ℕ → Bool
has_flag pairs flag = has_word flag (words_of (value_at pairs (codes "flags")))

abbrev pub flags_of : Entries → Flags
flags_of pairs = record {
  strict = has_flag pairs (codes "strict source");
  handover = has_flag pairs (codes "media handover");
  asymmetric = has_flag pairs (codes "asymmetric");
}

-- the word of what is to be replaced
abbrev pub replaces : Entries → List ℕ → Bool
replaces pairs word = has_word word (words_of (value_at pairs (codes "replace")))

-- the word of what an offer asks of RTP and RTCP on one port (RFC 5761)
abbrev pub asks_mux : Entries → List ℕ → Bool
asks_mux pairs word = has_word word (words_of (value_at pairs (codes "rtcp-mux")))

-- the addresses signalled are those of `received from`, and not those of the description
abbrev pub signals_source : Entries → Bool
signals_source pairs = has_flag pairs (codes "SIP source address") && not (has_flag pairs (codes "trust address"))

-- the families of addresses by their names (RFC 8866 section 5.7)
abbrev pub families : List (List ℕ × Family)
families = (codes "IP4", family.V4) ∷ (codes "IP6", family.V6) ∷ []

abbrev pub family_named : List ℕ → Option Family
family_named name = option_map (λ family. family.1) (find (λ family. bytes_eq name family.0) families)

abbrev pub family_spelled : Option (List ℕ) → Option Family
family_spelled None = None
family_spelled (Some name) = family_named name

-- the address of a family that a text spells
abbrev pub address_in : Option Family → List ℕ → Option Ip
address_in None text = None
address_in (Some family.V4) text = option_map ips.V4 (ipv4_bytes text)
address_in (Some family.V6) text = option_map (λ groups. ips.V6 (bytes_of_groups groups)) (eight_groups text)

-- the address of `received from`: a list of two byte strings, `IP4` and an IPv4 address, or `IP6` and an IPv6 address
abbrev pub ip_of_tree : Option Tree → Option Ip
ip_of_tree (Some (Items (item (Bytes name) (item (Bytes address) no_items)))) = address_in (family_named name) address
ip_of_tree other = None

abbrev pub source_of : Entries → Option Ip
source_of pairs = if signals_source pairs then ip_of_tree (value_at pairs (codes "received from")) else None

-- the four protocols of a section that is relayed
abbrev pub protocols : List (List ℕ × Proto)
protocols = (codes "RTP/AVP", Avp) ∷ (codes "RTP/AVPF", Avpf) ∷ (codes "RTP/SAVP", Savp) ∷ (codes "RTP/SAVPF", Savpf) ∷ []

abbrev pub protocol_of : List ℕ → Option Proto
protocol_of name = option_map (λ protocol. protocol.1) (find (λ protocol. bytes_eq name protocol.0) protocols)

abbrev pub protocol_in : Option (List ℕ) → Option Proto
protocol_in None = None
protocol_in (Some name) = protocol_of name

-- SRTP keyed by DTLS (RFC 5764 section 8)
abbrev pub asks_dtls : Option (List ℕ) → Bool
asks_dtls None = false
asks_dtls (Some name) = starts_with nat_eq name (codes "UDP/TLS/")

-- how many calls `list` names: 32 where nothing says so, and 200 at most
abbrev pub limit_of : Option Tree → Option ℕ
limit_of None = Some 32
limit_of (Some (Int (pos n))) = Some (min 200 n)
limit_of (Some (Int (negsuc n))) = None
limit_of (Some (Bytes text)) = None
limit_of (Some (Items items)) = None
limit_of (Some (Dict pairs)) = None

-- how many seconds after its `delete` a call is to end: a number from 0 to 86,400, and 0 where nothing says so
abbrev pub delay_of : Option Tree → Option ℕ
delay_of None = Some 0
delay_of (Some (Int (pos n))) = if nat_le n 86400 then Some n else None
delay_of (Some (Int (negsuc n))) = None
delay_of (Some (Bytes text)) = None
delay_of (Some (Items items)) = None
delay_of (Some (Dict pairs)) = None
