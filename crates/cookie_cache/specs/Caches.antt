-- What a cache keeps of the replies that were given to it.
use Rattle.std.specs.Prelude.{◌≡◌, ◌+◌, ◌<◌, ◌≤◌, ◌%◌, ◌^◌, List, [], ◌∷◌, All, length, vec_capacity}
use Rattle.indexmap.specs.IndexMap.{spare}
use Rattle.relay_outside.specs.declared.address.Addr.{Addr}
use Rattle.relay_outside.specs.declared.address.Ip.{Ip}
use Rattle.relay_outside.specs.declared.address.Ip.TheVariants as ip
use Rattle.cookie_cache.specs.declared.cache.CookieCache.{CookieCache}
use Rattle.cookie_cache.specs.Keepings.{Keeping, last_keeping_moment}
use Rattle.cookie_cache.specs.Entries.{all_shown, cache_entries}

-- an address has as many bytes as its version says
abbrev pub IsHost : Ip → Type 0
IsHost (ip.V4 bytes) = length bytes ≡ 4
IsHost (ip.V6 bytes) = length bytes ≡ 16

-- the parts of a source have their ranges
pub record IsSource (source : Addr) : Type 0 where
  pub host : IsHost source.ip
  pub port : source.port < 65536

-- no moment is before that of an earlier keeping
abbrev pub NeverGoesBack : List Keeping → Type 0
NeverGoesBack [] = Unit {0}
NeverGoesBack (keeping ∷ keepings) = (last_keeping_moment keepings ≤ keeping.moment) × NeverGoesBack keepings

-- the cache stands for this list of keepings: it has the entries of the last 4,096 of them
pub record CacheStandsFor (cache : CookieCache) (keepings : List Keeping) : Type 0 where
  pub entries_are : all_shown cache.entries.entries ≡ cache_entries keepings
  pub count_is : cache.count ≡ length keepings % 2 ^ 64
  pub moment_is : cache.last_moment ≡ last_keeping_moment keepings
  pub next_key_is : cache.next_key.items ≡ []
  pub in_time : NeverGoesBack keepings
  pub from_sources : All (λ keeping. IsSource keeping.source) keepings

-- the cache can keep one more reply without taking memory: there is room for an entry, and for the bytes of its key
pub record HasSparePlace (cache : CookieCache) : Type 0 where
  pub place : 0 < spare cache.entries
  pub key : length cache.next_key.items + 274 ≤ vec_capacity cache.next_key
