-- A reply in the saved form of a cache, as the entry that it stands for; and which entries a cache can have.
use Rattle.std.specs.Cmp.Lexicographic.{pointwise}
use Rattle.std.specs.List.{IsDistinct}
use Rattle.std.specs.Prelude.{nat_eq, nat_le, ℕ, Bool, false, ◌&&◌, ◌||◌, List, [], ◌∷◌, All, IsTrue, length, map}
use Rattle.cookie_cache.specs.declared.saved.SavedReply.{SavedReply}
use Rattle.cookie_cache.specs.Entries.{CacheEntry, cache_key}

-- a saved reply as an entry: its key is that of its source and its cookie
abbrev pub saved_entry : SavedReply → CacheEntry
saved_entry saved =
    record { key = cache_key saved.source saved.cookie.list; number = saved.number; reply = saved.reply.list; moment = saved.moment }

-- the bytes are the key of some source and some cookie of 1 to 255 bytes: 4 and an address of 4 bytes, or 6 and one of 16,
-- then 2 bytes for the port, and the cookie
abbrev pub is_cache_key : List ℕ → Bool
is_cache_key [] = false
is_cache_key (family ∷ rest) =
    (nat_eq family 4 && nat_le 7 (length rest) && nat_le (length rest) 261)
    || (nat_eq family 6 && nat_le 19 (length rest) && nat_le (length rest) 273)

-- each entry has the key of a source and a cookie
abbrev pub HaveCacheKeys : List CacheEntry → Type 0
HaveCacheKeys entries = All (λ entry. IsTrue (is_cache_key entry.key)) entries

-- these are entries of a cache: each has the key of a source and a cookie, and no two have the same
pub record AreCacheEntries (entries : List CacheEntry) : Type 0 where
  pub keys : HaveCacheKeys entries
  pub distinct : IsDistinct (pointwise nat_eq) (map (λ entry. entry.key) entries)
