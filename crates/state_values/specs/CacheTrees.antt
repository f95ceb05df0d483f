-- How a cache is written: its replies, oldest first, each with its source; how many were kept, and the last moment.
use Rattle.std.specs.Prelude.{codes, ℕ, ◌≡◌, ◌<◌, ◌^◌, ◌++◌, List, All, map}
use Rattle.std.specs.Int.{w16, to_be_bytes}
use Rattle.relay_outside.specs.declared.address.Addr.{Addr}
use Rattle.relay_outside.specs.declared.address.Ip.{Ip}
use Rattle.relay_outside.specs.declared.address.Ip.TheVariants as ip
use Rattle.endpoint_learn.specs.SavedLearners.{FitsAddr}
use Rattle.ng_bencode.specs.Tree.{Tree, Bytes, Dict, entry, no_entries}
use Rattle.cookie_cache.specs.declared.saved.SavedReply.{SavedReply}
use Rattle.cookie_cache.specs.declared.saved.CacheSaved.{CacheSaved}
use Rattle.cookie_cache.specs.SavedReplies.{saved_entry}
use Rattle.state_values.specs.Numbers.{number_tree, list_tree}

-- the 4 or 16 bytes of an address
abbrev pub source_octets : Ip → List ℕ
source_octets (ip.V4 a) = a
source_octets (ip.V6 a) = a

-- a transport address: the address, and the port in 2 bytes, the higher first; 6 or 18 bytes
abbrev pub source_bytes : Addr → List ℕ
source_bytes source = source_octets source.ip ++ to_be_bytes w16 source.port

abbrev pub reply_tree : SavedReply → Tree
reply_tree saved = Dict
    (entry (codes "cookie") (Bytes saved.cookie.list)
    (entry (codes "moment") (number_tree saved.moment)
    (entry (codes "number") (number_tree saved.number)
    (entry (codes "reply") (Bytes saved.reply.list)
    (entry (codes "source") (Bytes (source_bytes saved.source)) no_entries)))))

abbrev pub cache_tree : CacheSaved → Tree
cache_tree saved = Dict
    (entry (codes "count") (number_tree saved.count)
    (entry (codes "kept") (list_tree reply_tree saved.kept.items)
    (entry (codes "moment") (number_tree saved.last_moment) no_entries)))

-- the ranges of the fields
pub record FitsSavedReply (saved : SavedReply) : Type 0 where
  pub source : FitsAddr saved.source
  pub number : saved.number < 2 ^ 64
  pub moment : saved.moment < 2 ^ 64

pub record FitsCacheSaved (saved : CacheSaved) : Type 0 where
  pub kept : All FitsSavedReply saved.kept.items
  pub count : saved.count < 2 ^ 64
  pub last_moment : saved.last_moment < 2 ^ 64

-- the same to all that reads them: as entries, and as counts
pub record IsSameCache (a b : CacheSaved) : Type 0 where
  pub kept : map saved_entry a.kept.items ≡ map saved_entry b.kept.items
  pub count : a.count ≡ b.count
  pub last_moment : a.last_moment ≡ b.last_moment
