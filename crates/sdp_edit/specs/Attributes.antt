-- The attributes that editing removes.
use Rattle.std.specs.Prelude.{ℕ, List, [], ◌∷◌, drop, Bool, ◌&&◌, ◌||◌, ◌==◌, codes, nat_eq}
use Rattle.std.specs.List.{starts_with, before_first, list_any}
use Rattle.std.specs.Str.{bytes_eq}

abbrev pub is_attribute : List ℕ → Bool
is_attribute line = starts_with nat_eq line (codes "a=")

-- what stands before the colon, or all where there is none (RFC 8866 section 5.13)
abbrev pub attribute_name : List ℕ → List ℕ
attribute_name line = before_first (λ byte. byte == 58) (drop 2 line)

-- ICE (RFC 8839): the proxy is no ICE agent
abbrev pub ice_names : List (List ℕ)
ice_names = codes "candidate" ∷ codes "remote-candidates" ∷ codes "ice-ufrag" ∷ codes "ice-pwd" ∷ codes "ice-options" ∷ codes "ice-lite" ∷ []

-- keys of the other side: of DTLS (RFC 8122, RFC 4145) and SDES (RFC 4568)
abbrev pub key_names : List (List ℕ)
key_names = codes "fingerprint" ∷ codes "setup" ∷ codes "crypto" ∷ []

-- the port of RTCP (RFC 3605), and ports that sections share (RFC 5888)
abbrev pub port_names : List (List ℕ)
port_names = codes "rtcp" ∷ codes "group" ∷ []

abbrev pub is_removed_name : List ℕ → Bool
is_removed_name name = list_any (bytes_eq name) ice_names || list_any (bytes_eq name) key_names || list_any (bytes_eq name) port_names

-- an attribute that is removed wherever it stands
unfoldable pub is_removed : List ℕ → Bool
is_removed line = is_attribute line && is_removed_name (attribute_name line)

-- RTP and RTCP on one port (RFC 5761 section 5.1.1). A section says so without a value; with one the line goes too.
unfoldable pub is_mux_attribute : List ℕ → Bool
is_mux_attribute line = is_attribute line && bytes_eq (attribute_name line) (codes "rtcp-mux")

-- feedback messages (RFC 4585 section 4.2), which only the profiles with early feedback have
unfoldable pub is_feedback : List ℕ → Bool
is_feedback line = is_attribute line && bytes_eq (attribute_name line) (codes "rtcp-fb")
