-- HMAC (RFC 2104) over SHA-1, whose block has 64 bytes and whose digest has 20, on lists of bytes.
use Rattle.std.specs.Prelude.{ℕ, ◌-◌, List, ◌++◌, length, map, replicate, nat_lt, bit_xor, if◌then◌else◌}
use Rattle.sha1.specs.Sha1.{sha1}

-- the key, or its digest where it is longer than a block
abbrev pub short_key : List ℕ → List ℕ
short_key key = if nat_lt 64 (length key) then sha1 key else key

-- that, padded with zeros to a block
abbrev pub key_block : List ℕ → List ℕ
key_block key = short_key key ++ replicate (64 - length (short_key key)) 0

-- each byte of a block changed by exclusive or with a pad's byte
abbrev pub padded_by : ℕ → List ℕ → List ℕ
padded_by pad block = map (λ byte. bit_xor byte pad) block

-- the digest of the key by the outer pad, and the digest of the key by the inner pad and the text
unfoldable pub hmac : List ℕ → List ℕ → List ℕ
hmac key text = sha1 (padded_by 0x5c (key_block key) ++ sha1 (padded_by 0x36 (key_block key) ++ text))
