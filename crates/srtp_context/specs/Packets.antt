-- SRTP packets as lists of bytes (RFC 3711, sections 3.1, 4.1 and 4.2): what protecting makes of a packet under a master
-- key, a suite and an index, when a packet is authentic, and what it holds.
use Rattle.std.specs.Prelude.{ℕ, ◌≡◌, ◌-◌, ◌/◌, List, [], ◌++◌, Bool, true, length, take, drop}
use Rattle.std.specs.Int.{w32, to_be_bytes}
use Rattle.std.specs.Option.{option_map_or}
use Rattle.std.specs.Str.{bytes_eq}
use Rattle.rtp_packet.specs.declared.head.Half.TheVariants.{Rtp}
use Rattle.rtp_packet.specs.declared.head.RtpHead.{RtpHead}
use Rattle.rtp_packet.specs.Head.{rtp_head}
use Rattle.sdes_lines.specs.declared.crypto_line.Suite.{Suite}
use Rattle.sdes_lines.specs.declared.crypto_line.Suite.TheVariants.{Tag80, Tag32}
use Rattle.aes_ctr.specs.Keystream.{keystream, xored}
use Rattle.srtp_keys.specs.Derivation.{cipher_key, authentication_key, session_salt}
use Rattle.srtp_keys.specs.Hmac.{hmac}
use Rattle.srtp_sources.specs.Counter.{packet_counter}

-- how many bytes a suite's authentication tag has
abbrev pub tag_size : Suite → ℕ
tag_size Tag80 = 10
tag_size Tag32 = 4

-- the first bytes of the keystream of a packet
unfoldable pub packet_keystream : List ℕ → ℕ → ℕ → ℕ → List ℕ
packet_keystream master ssrc index size =
    keystream (cipher_key master Rtp) (packet_counter (session_salt master Rtp) ssrc index) size

-- a packet with what follows its head enciphered or deciphered, which is the same
unfoldable pub ciphered : List ℕ → RtpHead → ℕ → List ℕ → List ℕ
ciphered master found index packet =
    take found.head packet
    ++ xored (drop found.head packet) (packet_keystream master found.ssrc index (length packet - found.head))

-- the code of a packet: HMAC-SHA1 over it and the roll-over counter, which is the index's quotient by 65,536
unfoldable pub rtp_code : List ℕ → List ℕ → ℕ → List ℕ
rtp_code master packet index = hmac (authentication_key master Rtp) (packet ++ to_be_bytes w32 (index / 65536))

-- the authentication tag: the code's first bytes
abbrev pub tag_of : List ℕ → Suite → List ℕ → ℕ → List ℕ
tag_of master suite packet index = take (tag_size suite) (rtp_code master packet index)

-- a packet followed by its authentication tag
abbrev pub tagged : List ℕ → Suite → List ℕ → ℕ → List ℕ
tagged master suite packet index = packet ++ tag_of master suite packet index

-- the protected packet: enciphered after its head, with its tag (what is no RTP packet has none)
unfoldable pub protect : List ℕ → Suite → List ℕ → ℕ → List ℕ
protect master suite packet index =
    option_map_or (λ found. tagged master suite (ciphered master found index packet) index) (rtp_head packet) []

-- what stands before the tag
abbrev pub body : Suite → List ℕ → List ℕ
body suite bytes = take (length bytes - tag_size suite) bytes

-- the bytes end with the tag of what stands before it
unfoldable pub is_authentic : List ℕ → Suite → List ℕ → ℕ → Bool
is_authentic master suite bytes index =
    bytes_eq (drop (length bytes - tag_size suite) bytes) (tag_of master suite (body suite bytes) index)

-- the packet that the bytes hold: deciphered after its head, without the tag
unfoldable pub opened : List ℕ → Suite → List ℕ → ℕ → List ℕ
opened master suite bytes index =
    option_map_or (λ found. ciphered master found index (body suite bytes)) (rtp_head bytes) []

-- the bytes are authentic and hold this packet
pub record OpensAs (master : List ℕ) (suite : Suite) (bytes : List ℕ) (index : ℕ) (packet : List ℕ) : Type 0 where
  pub authentic : is_authentic master suite bytes index ≡ true
  pub holds : opened master suite bytes index ≡ packet
