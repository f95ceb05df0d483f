-- What the saved form of a cache holds of it, and which caches there are.
use Rattle.std.specs.Prelude.{◌≡◌, [], map}
use Rattle.cookie_cache.specs.declared.cache.CookieCache.{CookieCache}
use Rattle.cookie_cache.specs.declared.saved.CacheSaved.{CacheSaved}
use Rattle.cookie_cache.specs.Entries.{all_shown}
use Rattle.cookie_cache.specs.SavedReplies.{saved_entry, AreCacheEntries}

-- what holds of every cache: its entries have keys of sources and cookies, no two the same, and no bytes stand in the room for the next key
pub record FitsCache (cache : CookieCache) : Type 0 where
  pub entries : AreCacheEntries (all_shown cache.entries.entries)
  pub next_key : cache.next_key.items ≡ []

-- the record holds all of the cache but its spare room: its entries in order, the count of replies kept, and the last moment
pub record SavesCache (cache : CookieCache) (saved : CacheSaved) : Type 0 where
  pub kept : all_shown cache.entries.entries ≡ map saved_entry saved.kept.items
  pub count : cache.count ≡ saved.count
  pub last_moment : cache.last_moment ≡ saved.last_moment

-- no cache is saved as this record
abbrev pub NoCacheSaves : CacheSaved → Type 0
NoCacheSaves saved = (cache : CookieCache) → FitsCache cache → SavesCache cache saved → ⊥
