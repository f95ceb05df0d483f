-- The lines that editing writes.
use Rattle.std.specs.Prelude.{◌≡◌, ℕ, List, [], ◌∷◌, ◌++◌, drop, codes, decimal}
use Rattle.std.specs.List.{join_with_byte}
use Rattle.sdp_text.specs.Hosts.{text_of}
use Rattle.sdp_text.specs.Pieces.{fields}
use Rattle.sdp_text.specs.declared.host.Host.{Host}
use Rattle.sdp_text.specs.declared.host.Host.TheVariants.{V4, V6}
use Rattle.sdp_text.specs.declared.proto.Proto.{Proto}
use Rattle.sdp_text.specs.declared.proto.Proto.TheVariants.{Avp, Avpf, Savp, Savpf, Other}
use Rattle.sdp_edit.specs.declared.edits.SectionEdit.{SectionEdit}

-- a line with its end (RFC 8866 section 5)
unfoldable pub with_end : List ℕ → List ℕ
with_end line = line ++ codes "\r\n"

abbrev pub family_of : Host → List ℕ
family_of (V4 bytes) = codes "IP4"
family_of (V6 bytes) = codes "IP6"

-- RFC 8866 section 5.7
unfoldable pub connection_text : Host → List ℕ
connection_text host = codes "c=IN " ++ family_of host ++ codes " " ++ text_of host

-- the protocol's text, or the line's own one under `Other`
abbrev pub proto_text : Proto → List ℕ → List ℕ
proto_text Avp own = codes "RTP/AVP"
proto_text Avpf own = codes "RTP/AVPF"
proto_text Savp own = codes "RTP/SAVP"
proto_text Savpf own = codes "RTP/SAVPF"
proto_text Other own = own

-- the fields of an `m=` line (RFC 8866 section 5.14) with this port, without a number of ports, and this protocol
abbrev pub edited_media_fields : SectionEdit → List (List ℕ) → List (List ℕ)
edited_media_fields edit (media ∷ port ∷ proto ∷ format ∷ more) = media ∷ decimal edit.port ∷ proto_text edit.proto proto ∷ format ∷ more
edited_media_fields edit texts = texts

unfoldable pub media_text : SectionEdit → List ℕ → List ℕ
media_text edit line = codes "m=" ++ join_with_byte 32 (edited_media_fields edit (fields (drop 2 line)))

-- the fields of an `o=` line (RFC 8866 section 5.2) with this address
abbrev pub origin_fields : Host → List (List ℕ) → List (List ℕ)
origin_fields host (name ∷ id ∷ version ∷ network ∷ family ∷ address ∷ []) = name ∷ id ∷ version ∷ network ∷ family_of host ∷ text_of host ∷ []
origin_fields host texts = texts

unfoldable pub origin_text : Host → List ℕ → List ℕ
origin_text host line = codes "o=" ++ join_with_byte 32 (origin_fields host (fields (drop 2 line)))

-- what follows the first four of exactly six fields
pub record IsOriginTail (text tail : List ℕ) : Type 0 where
  pub name : List ℕ
  pub id : List ℕ
  pub version : List ℕ
  pub network : List ℕ
  pub family : List ℕ
  pub address : List ℕ
  pub fields_are : fields text ≡ name ∷ id ∷ version ∷ network ∷ family ∷ address ∷ []
  pub text_is : text ≡ name ++ 32 ∷ (id ++ 32 ∷ (version ++ 32 ∷ (network ++ 32 ∷ tail)))
