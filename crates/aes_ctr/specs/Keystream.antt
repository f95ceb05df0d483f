-- AES in counter mode (RFC 3711, section 4.1.1): the keystream is E(key, iv), E(key, iv + 1) and so
-- on, with sums modulo 2^128 and each counter as 16 bytes, high byte first.
use Rattle.std.specs.Prelude.{ℕ, ◌+◌, ◌/◌, ◌%◌, ◌^◌, List, [], ◌∷◌, map, slice_index, bit_xor}
use Rattle.std.specs.Int.{w128, to_be_bytes}
use Rattle.std.specs.List.{range_with_len}
use Rattle.aes_ctr.specs.Aes.{aes}

-- the block with which the counter k beyond iv is enciphered
abbrev pub counter_block : ℕ → ℕ → List ℕ
counter_block iv k = to_be_bytes w128 ((iv + k) % 2 ^ 128)

-- byte i of the keystream: byte i % 16 of block i / 16
unfoldable pub keystream_byte : List ℕ → ℕ → ℕ → ℕ
keystream_byte key iv i = slice_index (aes key (counter_block iv (i / 16))) (i % 16)

-- the first n bytes of the keystream
unfoldable pub keystream : List ℕ → ℕ → ℕ → List ℕ
keystream key iv n = map (keystream_byte key iv) (range_with_len 0 n)

-- the exclusive or of two lists, byte by byte, as far as the shorter one goes
abbrev pub xored : List ℕ → List ℕ → List ℕ
xored [] ys = []
xored (x ∷ xs) [] = []
xored (x ∷ xs) (y ∷ ys) = bit_xor x y ∷ xored xs ys
