-- SRTCP packets as lists of bytes (RFC 3711, section 3.4): what protecting makes of a packet under a master key and an
-- index, when a packet is authentic, which index it carries, and what it holds.
use Rattle.std.specs.Prelude.{ℕ, ◌≡◌, ◌+◌, ◌-◌, ◌/◌, ◌%◌, ◌^◌, ◌==◌, List, [], ◌++◌, Bool, true, length, take, drop, if◌then◌else◌}
use Rattle.std.specs.Int.{w32, to_be_bytes, from_be_bytes}
use Rattle.std.specs.Option.{option_map_or}
use Rattle.std.specs.Str.{bytes_eq}
use Rattle.rtp_packet.specs.declared.head.Half.TheVariants.{Rtcp}
use Rattle.rtp_packet.specs.Head.{rtcp_ssrc}
use Rattle.aes_ctr.specs.Keystream.{keystream, xored}
use Rattle.srtp_keys.specs.Derivation.{cipher_key, authentication_key, session_salt}
use Rattle.srtp_keys.specs.Hmac.{hmac}
use Rattle.srtp_sources.specs.Counter.{packet_counter}

-- the first bytes of the keystream of a packet
unfoldable pub rtcp_keystream : List ℕ → ℕ → ℕ → ℕ → List ℕ
rtcp_keystream master ssrc index size =
    keystream (cipher_key master Rtcp) (packet_counter (session_salt master Rtcp) ssrc index) size

-- a packet with what follows its first 8 bytes enciphered or deciphered, which is the same
unfoldable pub rtcp_ciphered : List ℕ → ℕ → ℕ → List ℕ → List ℕ
rtcp_ciphered master ssrc index packet =
    take 8 packet ++ xored (drop 8 packet) (rtcp_keystream master ssrc index (length packet - 8))

-- the E bit, set, and the index in 31 bits
abbrev pub trailer : ℕ → List ℕ
trailer index = to_be_bytes w32 (2 ^ 31 + index)

-- the code of what is authenticated: HMAC-SHA1 over it
unfoldable pub rtcp_code : List ℕ → List ℕ → List ℕ
rtcp_code master bytes = hmac (authentication_key master Rtcp) bytes

-- the authentication tag: the code's first 10 bytes, whatever the suite
abbrev pub rtcp_tag : List ℕ → List ℕ → List ℕ
rtcp_tag master bytes = take 10 (rtcp_code master bytes)

-- what is authenticated, followed by its tag
abbrev pub tagged_rtcp : List ℕ → List ℕ → List ℕ
tagged_rtcp master bytes = bytes ++ rtcp_tag master bytes

-- the protected packet: enciphered, with the E bit and the index, and its tag (what is no RTCP packet has none)
unfoldable pub protect_rtcp : List ℕ → List ℕ → ℕ → List ℕ
protect_rtcp master packet index =
    option_map_or (λ ssrc. tagged_rtcp master (rtcp_ciphered master ssrc index packet ++ trailer index)) (rtcp_ssrc packet) []

-- the bytes end with the tag of what stands before it
unfoldable pub is_rtcp_authentic : List ℕ → List ℕ → Bool
is_rtcp_authentic master bytes = bytes_eq (drop (length bytes - 10) bytes) (rtcp_tag master (take (length bytes - 10) bytes))

-- the word before the tag, with the E bit and the index
unfoldable pub word_of : List ℕ → ℕ
word_of bytes = from_be_bytes w32 (take 4 (drop (length bytes - 14) bytes))

-- the E bit: the packet is enciphered
abbrev pub is_enciphered : List ℕ → Bool
is_enciphered bytes = word_of bytes / 2 ^ 31 == 1

-- the index that the packet carries
abbrev pub carried_index : List ℕ → ℕ
carried_index bytes = word_of bytes % 2 ^ 31

-- what stands before the E bit
abbrev pub rtcp_body : List ℕ → List ℕ
rtcp_body bytes = take (length bytes - 14) bytes

-- the packet that the bytes hold: deciphered where the E bit is set, without the index and the tag
unfoldable pub opened_srtcp : List ℕ → List ℕ → List ℕ
opened_srtcp master bytes =
    option_map_or (λ ssrc. if is_enciphered bytes then rtcp_ciphered master ssrc (carried_index bytes) (rtcp_body bytes) else rtcp_body bytes)
    (rtcp_ssrc bytes) []

-- the bytes are authentic, carry this index and hold this packet
pub record OpensRtcpAs (master : List ℕ) (bytes : List ℕ) (index : ℕ) (packet : List ℕ) : Type 0 where
  pub authentic : is_rtcp_authentic master bytes ≡ true
  pub carries : carried_index bytes ≡ index
  pub holds : opened_srtcp master bytes ≡ packet
