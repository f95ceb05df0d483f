-- The fields of a line: numbers, addresses, and the bytes of datagrams.
use Rattle.std.specs.Prelude.{◌≡◌, ◌≢◌, ◌<◌, ◌^◌, ◌⊎◌, ℕ, List, [], ◌∷◌, ◌++◌, Some, codes, decimal, map}
use Rattle.std.specs.List.{flat_map}
use Rattle.hex.specs.Hex.{encode_lower, IsBytes}
use Rattle.ng_bencode.specs.Fits.{IsFreeOf}
use Rattle.relay_outside.specs.declared.address.Addr.{Addr}
use Rattle.relay_outside.specs.declared.address.Ip.{Ip}
use Rattle.relay_outside.specs.declared.address.Ip.TheVariants.{V4, V6}
use Rattle.sdp_text.specs.Hosts.{ipv4, ipv6}
use Rattle.sdp_text.specs.declared.host.Host.TheVariants as host

-- Numbers.

-- a number in decimal without a leading zero, below this limit
pub record IsNumber (limit : ℕ) (text : List ℕ) (n : ℕ) : Type 0 where
  pub digits : text ≡ decimal n
  pub small : n < limit

-- a count: a number from 1 that fits 32 bits
pub record IsCount (text : List ℕ) (n : ℕ) : Type 0 where
  pub number : IsNumber (2 ^ 32) text n
  pub some : 0 < n

-- Addresses.

-- an IPv6 address in brackets
pub record InBrackets (text bytes : List ℕ) : Type 0 where
  pub inside : List ℕ
  pub brackets : text ≡ 91 ∷ inside ++ 93 ∷ []
  pub address : ipv6 inside ≡ Some (host.V6 bytes)

-- a host's address, as it stands before a port
abbrev pub IsHostText : List ℕ → Ip → Type 0
IsHostText text (V4 bytes) = ipv4 text ≡ Some (host.V4 bytes)
IsHostText text (V6 bytes) = InBrackets text bytes

-- a host, a colon and a port, in one word
pub record IsAddr (text : List ℕ) (addr : Addr) : Type 0 where
  pub host_text : List ℕ
  pub port_text : List ℕ
  pub parts : text ≡ host_text ++ 58 ∷ port_text
  pub host : IsHostText host_text addr.ip
  pub port : IsNumber (2 ^ 16) port_text addr.port
  pub one_word : IsFreeOf 32 text

-- Bytes.

-- A piece of a text, which stands for one byte: the byte itself, where it is no backslash; `\r`; `\n`; `\\`; `\x` and two
-- hexadecimal digits in lower case
pub data Piece : Type 0 where
  Plain : (byte : ℕ) → Piece
  Return : Piece
  Feed : Piece
  Backslash : Piece
  Coded : (byte : ℕ) → Piece

abbrev pub IsPiece : Piece → Type 0
IsPiece (Plain byte) = byte ≢ 92
IsPiece Return = Unit {0}
IsPiece Feed = Unit {0}
IsPiece Backslash = Unit {0}
IsPiece (Coded byte) = byte < 256

abbrev pub piece_text : Piece → List ℕ
piece_text (Plain byte) = byte ∷ []
piece_text Return = 92 ∷ 114 ∷ []
piece_text Feed = 92 ∷ 110 ∷ []
piece_text Backslash = 92 ∷ 92 ∷ []
piece_text (Coded byte) = 92 ∷ 120 ∷ encode_lower (byte ∷ [])

abbrev pub piece_byte : Piece → ℕ
piece_byte (Plain byte) = byte
piece_byte Return = 13
piece_byte Feed = 10
piece_byte Backslash = 92
piece_byte (Coded byte) = byte

abbrev pub ArePieces : List Piece → Type 0
ArePieces [] = Unit {0}
ArePieces (piece ∷ pieces) = IsPiece piece × ArePieces pieces

-- a text is any pieces, and stands for their bytes
pub record IsText (text bytes : List ℕ) : Type 0 where
  pub pieces : List Piece
  pub allowed : ArePieces pieces
  pub spelled : text ≡ flat_map piece_text pieces
  pub stands_for : bytes ≡ map piece_byte pieces

-- hexadecimal digits in lower case, two for each byte
pub record IsHex (digits bytes : List ℕ) : Type 0 where
  pub spelled : digits ≡ encode_lower bytes
  pub fit : IsBytes bytes

-- `x:` and digits
pub record InHex (text bytes : List ℕ) : Type 0 where
  pub digits : List ℕ
  pub parts : text ≡ codes "x:" ++ digits
  pub hex : IsHex digits bytes

-- `t:` and a text
pub record InText (text bytes : List ℕ) : Type 0 where
  pub shown : List ℕ
  pub parts : text ≡ codes "t:" ++ shown
  pub is_text : IsText shown bytes

-- the bytes of a datagram
abbrev pub IsPayload : List ℕ → List ℕ → Type 0
IsPayload text bytes = InHex text bytes ⊎ InText text bytes
