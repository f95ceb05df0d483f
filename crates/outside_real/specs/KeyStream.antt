-- The master keys that the ChaCha20 stream of a seed gives (RFC 8439 section 2.3, with a block counter of 64 bits
-- and the nonce 0, as Bernstein's).
use Rattle.std.specs.Prelude.{ℕ, ◌*◌, ◌-◌, ◌^◌, ◌++◌, nat_lt, Option, List, map, replicate, take}
use Rattle.std.specs.Int.{to_le_bytes, w32, w64}
use Rattle.std.specs.List.{flat_map, range_with_len}
use Rattle.rand_chacha.specs.ChaCha.{key_of, word_at}
use Rattle.relay_outside.specs.DeviceLogs.{where_logged}
use Rattle.relay_outside.specs.declared.keys.KeyCall.{KeyCall}
use Rattle.relay_outside.specs.declared.keys.KeyCall.TheVariants.{Drawn}

-- a key source over a seed's stream: the eight words of the seed, and how many draws were made, at most 2 ^ 64 - 1
pub record KeyStream : Type 0 where
  pub seed_words : List ℕ
  pub drawn : ℕ

-- the bytes that a number stands for as a seed: its eight bytes, lowest first, and 24 zero bytes
abbrev pub seed_bytes : ℕ → List ℕ
seed_bytes seed = to_le_bytes w64 seed ++ replicate 24 0

-- the stream of the seed that a number stands for, of which nothing was drawn
abbrev pub stream_of : (seed : ℕ) → KeyStream
stream_of seed = record { seed_words = key_of (seed_bytes seed); drawn = 0 }

-- word i, from 0, of the stream
abbrev pub stream_word : List ℕ → ℕ → ℕ
stream_word seed_words i = word_at 10 seed_words 0 i

-- the bytes of `count` words from word i on, each word with its lowest byte first
abbrev pub stream_bytes : List ℕ → ℕ → ℕ → List ℕ
stream_bytes seed_words i count =
    flat_map (λ j. to_le_bytes w32 (stream_word seed_words j)) (range_with_len i count)

-- the master key and salt of draw n, from 0: the first thirty bytes of the words 8n to 8n + 7
unfoldable pub key_of_draw : List ℕ → ℕ → List ℕ
key_of_draw seed_words n = take 30 (stream_bytes seed_words (8 * n) 8)

-- the first `count` draws
abbrev pub draws : List ℕ → ℕ → List KeyCall
draws seed_words count = map (λ n. Drawn (key_of_draw seed_words n)) (range_with_len 0 count)

-- the draws, which are told as long as they are fewer than 2 ^ 64 - 1
abbrev pub logged_draws : KeyStream → Option (List KeyCall)
logged_draws keys = where_logged (nat_lt keys.drawn (2 ^ 64 - 1)) (draws keys.seed_words keys.drawn)
