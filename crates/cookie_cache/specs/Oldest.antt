-- The oldest entry of a cache, and when it goes.
use Rattle.std.specs.Prelude.{ℕ, ◌+◌, ◌-◌, ◌%◌, ◌^◌, nat_lt, if◌then◌else◌, List, [], ◌∷◌}
use Rattle.cookie_cache.specs.Entries.{CacheEntry}

-- how many replies were kept from an entry's on, where this many were kept, modulo 2^64
abbrev pub age : ℕ → CacheEntry → ℕ
age count entry = (count + (2 ^ 64 - entry.number)) % 2 ^ 64

-- the entries without the first, where its reply is not of the last 4,096
abbrev pub without_gone : ℕ → List CacheEntry → List CacheEntry
without_gone count [] = []
without_gone count (entry ∷ entries) = if nat_lt 4096 (age count entry) then entries else entry ∷ entries
