-- The session keys of SRTP and SRTCP (RFC 3711, section 4.3) at a key derivation rate of 0, from a
-- master key of 16 bytes followed by a master salt of 14 bytes.
use Rattle.std.specs.Prelude.{ℕ, List, [], ◌∷◌, ◌++◌, take, drop, slice_index, slice_set, bit_xor}
use Rattle.std.specs.Int.{w128, from_be_bytes}
use Rattle.aes_ctr.specs.Keystream.{keystream}
use Rattle.rtp_packet.specs.declared.head.Half.{Half}
use Rattle.rtp_packet.specs.declared.head.Half.TheVariants.{Rtp, Rtcp}

-- the counter of a label: the label changes byte 7 of the master salt, and two zeros follow
abbrev pub label_counter : List ℕ → ℕ → ℕ
label_counter salt label = from_be_bytes w128 (slice_set salt 7 (bit_xor (slice_index salt 7) label) ++ 0 ∷ 0 ∷ [])

-- the first n bytes that a label makes of a master key and salt
unfoldable pub derived : List ℕ → ℕ → ℕ → List ℕ
derived master label n = keystream (take 16 master) (label_counter (drop 16 master) label) n

-- the labels (section 4.3.2)
abbrev pub cipher_label : Half → ℕ
cipher_label Rtp = 0
cipher_label Rtcp = 3

abbrev pub authentication_label : Half → ℕ
authentication_label Rtp = 1
authentication_label Rtcp = 4

abbrev pub salt_label : Half → ℕ
salt_label Rtp = 2
salt_label Rtcp = 5

-- the session's encryption key, authentication key and salt
unfoldable pub cipher_key : List ℕ → Half → List ℕ
cipher_key master half = derived master (cipher_label half) 16

unfoldable pub authentication_key : List ℕ → Half → List ℕ
authentication_key master half = derived master (authentication_label half) 20

unfoldable pub session_salt : List ℕ → Half → List ℕ
session_salt master half = derived master (salt_label half) 14
