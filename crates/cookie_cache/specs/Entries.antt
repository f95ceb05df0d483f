-- The entries of a cache: the keys of the last 4,096 keepings, each once, in the order of its latest keeping and with what that one kept.
use Rattle.std.specs.Cmp.Lexicographic.{pointwise}
use Rattle.std.specs.Int.{w16, to_be_bytes}
use Rattle.std.specs.Prelude.{nat_eq, ℕ, ◌%◌, ◌^◌, Bool, not, List, [], ◌∷◌, ◌++◌, Vec, filter, length, map, reverse, take}
use Rattle.relay_outside.specs.declared.address.Addr.{Addr}
use Rattle.relay_outside.specs.declared.address.Ip.{Ip}
use Rattle.relay_outside.specs.declared.address.Ip.TheVariants as ip
use Rattle.cookie_cache.specs.declared.kept_reply.KeptReply.{KeptReply}
use Rattle.cookie_cache.specs.Keepings.{Keeping}

-- a byte for the family of an address, 4 or 6, and the bytes of the address
abbrev pub host_bytes : Ip → List ℕ
host_bytes (ip.V4 bytes) = 4 ∷ bytes
host_bytes (ip.V6 bytes) = 6 ∷ bytes

-- the key of a reply: the family and the address that its command came from, the port in network order, and the cookie
abbrev pub cache_key : Addr → List ℕ → List ℕ
cache_key source cookie = host_bytes source.ip ++ (to_be_bytes w16 source.port ++ cookie)

-- an entry: a key, the number of its latest keeping, and what that one kept
pub record CacheEntry : Type 0 where
  pub key : List ℕ
  pub number : ℕ
  pub reply : List ℕ
  pub moment : ℕ

-- a keeping as an entry. Its number is the count of the keepings before it, modulo 2^64
abbrev pub keeping_entry : Keeping → ℕ → CacheEntry
keeping_entry keeping before =
    record { key = cache_key keeping.source keeping.cookie; number = before % 2 ^ 64; reply = keeping.reply; moment = keeping.moment }

-- the keepings as entries
abbrev pub numbered_keepings : List Keeping → List CacheEntry
numbered_keepings [] = []
numbered_keepings (keeping ∷ keepings) = keeping_entry keeping (length keepings) ∷ numbered_keepings keepings

-- the entry has another key
abbrev pub has_other_key : CacheEntry → CacheEntry → Bool
has_other_key than entry = not (pointwise nat_eq than.key entry.key)

-- the first entry of each key
abbrev pub first_of_each : List CacheEntry → List CacheEntry
first_of_each [] = []
first_of_each (entry ∷ cache_entries) = entry ∷ filter (has_other_key entry) (first_of_each cache_entries)

-- the entries after these keepings, which are listed latest first
unfoldable pub cache_entries : List Keeping → List CacheEntry
cache_entries keepings = reverse (first_of_each (take 4096 (numbered_keepings keepings)))

-- an entry as a map has it
abbrev pub shown : {A : Type 0} → Vec ℕ A × KeptReply → CacheEntry
shown pair = record { key = pair.0.items; number = pair.1.number; reply = pair.1.reply.list; moment = pair.1.moment }

-- the entries as a map has them
abbrev pub all_shown : {A : Type 0} → List (Vec ℕ A × KeptReply) → List CacheEntry
all_shown pairs = map shown pairs
