-- Caches that are written alike, and that each is spelled.
use Rattle.std.proofs.Common.{◌≡◌, ℕ, List, map, refl, arith}
use Rattle.ng_bencode.specs.Tree.{Bytes}
use Rattle.ng_bencode.specs.Spells.{spelling, Spells}
use Rattle.cookie_cache.specs.declared.saved.SavedReply.{SavedReply}
use Rattle.cookie_cache.specs.declared.saved.CacheSaved.{CacheSaved}
use Rattle.cookie_cache.specs.Entries.{cache_key}
use Rattle.cookie_cache.specs.SavedReplies.{saved_entry}
use Rattle.state_values.specs.Numbers.{list_tree}
use Rattle.state_values.specs.CacheTrees.{source_bytes, reply_tree, cache_tree, FitsSavedReply, FitsCacheSaved, IsSameCache}
use Rattle.state_values.proofs.NumberTrees.{same_number}
use Rattle.state_values.proofs.ListTrees.{same_list, same_seen}
use Rattle.state_values.proofs.KeyedTrees.{same_entries, same_value, same_rest}
use Rattle.state_values.proofs.SourceForms.{same_source}
use Rattle.state_values.proofs.Spelled.{Spelled, number_spelled, list_spelled}

same_bytes : (a b : List ℕ) → Bytes a ≡ Bytes b → a ≡ b
same_bytes a b e = cc

same_reply : (a b : SavedReply) → FitsSavedReply a → FitsSavedReply b → reply_tree a ≡ reply_tree b → saved_entry a ≡ saved_entry b
same_reply a b fits_a fits_b same =
    let first = same_entries same in
    let second = same_rest first in
    let third = same_rest second in
    let fourth = same_rest third in
    let fifth = same_rest fourth in
    let cookie = same_bytes a.cookie.list b.cookie.list (same_value first) in
    let moment = same_number a.moment b.moment fits_a.moment fits_b.moment (same_value second) in
    let number = same_number a.number b.number fits_a.number fits_b.number (same_value third) in
    let reply = same_bytes a.reply.list b.reply.list (same_value fourth) in
    let source = same_source a.source b.source fits_a.source fits_b.source (same_bytes (source_bytes a.source) (source_bytes b.source) (same_value fifth)) in
    λ i. record { key = cache_key (source i) (cookie i); number = number i; reply = reply i; moment = moment i }

pub same_caches : (a b : CacheSaved) → FitsCacheSaved a → FitsCacheSaved b → cache_tree a ≡ cache_tree b → IsSameCache a b
same_caches a b fits_a fits_b same =
    let first = same_entries same in
    let second = same_rest first in
    let third = same_rest second in
    let trees = same_list reply_tree (list_tree reply_tree a.kept.items) (map reply_tree a.kept.items) b.kept.items refl (same_value second) in
    record {
      kept = same_seen reply_tree saved_entry FitsSavedReply same_reply a.kept.items b.kept.items fits_a.kept fits_b.kept trees;
      count = same_number a.count b.count fits_a.count fits_b.count (same_value first);
      last_moment = same_number a.last_moment b.last_moment fits_a.last_moment fits_b.last_moment (same_value third);
    }

reply_spelled : (saved : SavedReply) → Spelled 1 (reply_tree saved)
reply_spelled saved =
    let moment = number_spelled saved.moment in
    let number = number_spelled saved.number in
    record { ints = (tt, (moment.ints, (number.ints, (tt, (tt, tt))))); deep = omega (arith, moment.deep, number.deep) }

pub cache_spelled : (saved : CacheSaved) → Spells (spelling (cache_tree saved)) (cache_tree saved)
cache_spelled saved =
    let count = number_spelled saved.count in
    let kept = list_spelled reply_tree 1 reply_spelled saved.kept.items in
    let moment = number_spelled saved.last_moment in
    record { ints = (count.ints, (kept.ints, (moment.ints, tt))); deep = omega (arith, count.deep, kept.deep, moment.deep); spelled = refl }
