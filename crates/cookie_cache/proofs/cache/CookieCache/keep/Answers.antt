use Rattle.std.proofs.Common.{All, IsTrue, ◌≡◌, ◌∙◌, sym, ap, ◌<◌, ◌≤◌, ◌+◌, ◌++◌, [], ◌∷◌, filter, max, None, IsOk, if◌then◌else◌, arith, nat_eq, length, vec_len, vec_capacity}
use Rattle.std.specs.Cmp.Lexicographic.{pointwise}
use Rattle.std.specs.Map.{lookup, remove_entry}
use Rattle.indexmap.specs.IndexMap.{spare}
use Rattle.indexmap.proofs.CallerLemmas.{insert_entry-new}
use Rattle.cookie_cache.specs.declared.kept_reply.KeptReply.{KeptReply}
use Rattle.cookie_cache.specs.Keepings.{Keeping, moment_used, last_keeping_moment}
use Rattle.cookie_cache.specs.Entries.{CacheEntry, all_shown, shown, cache_key}
use Rattle.cookie_cache.specs.SavedReplies.{is_cache_key}
use Rattle.cookie_cache.proofs.Shown.{has_bytes, is_other, push-shown, remove-shown}
use Rattle.cookie_cache.proofs.Keeping.{keeps, on_ok}
use Rattle.cookie_cache.proofs.KeyForms.{none_at_0, key_fits}
use Rattle.std.proofs.lemmas.List.Elements.{All-push, All-filter}
use Rattle.cookie_cache.proofs.cache.CookieCache.keep.Goals as goal

pub returns : goal.returns
returns c = λ keepings stands.
    let old = c.args.self.now in
    let es = old.entries.entries in
    let keeping : Keeping = record { source = c.args.source; cookie = c.args.cookie.list; reply = c.args.reply.list; moment = moment_used keepings c.args.now } in
    let moment : c.max-moment.result ≡ keeping.moment = c.max-moment.ensures ∙ ap (max c.args.now) stands.moment_is in
    let key : c.new-bytes.result ≡ cache_key c.args.source c.args.cookie.list = c.new-bytes.ensures.bytes ∙ ap (cache_key c.args.source) c.as_slice.ensures in
    let bytes : c.as_slice-3.result.now ≡ cache_key c.args.source c.args.cookie.list = c.as_slice-3.ensures.bytes ∙ key in
    let none : lookup (has_bytes c.as_slice-3.result.now) c.shift_remove.new.self.entries ≡ None = c.shift_remove.ensures.updates.1 in
    let removed : c.shift_remove.new.self.entries ≡ remove_entry (has_bytes c.as_slice-3.result.now) es = c.shift_remove.ensures.entries in
    let taken : all_shown c.shift_remove.new.self.entries ≡ filter (is_other c.as_slice-3.result.now) (all_shown es) =
    ap all_shown removed ∙ remove-shown c.as_slice-3.result.now es (ap (lookup (has_bytes c.as_slice-3.result.now)) (sym removed) ∙ none) in
    let key_was = c.replace-key.ensures.value in
    let fits : vec_len c.replace-key.result + length c.as_slice-2.result.now ≤ vec_capacity c.replace-key.result =
    rw key_was (omega (arith, old.next_key.ok.0, c.requires.place.key, c.as_slice-2.ensures.short)) in
    let room : IsOk c.extend_from_slice.result = c.extend_from_slice.ensures.succeeds fits in
    let key_items : c.extend_from_slice.new.self.items ≡ c.as_slice-2.result.now =
    c.extend_from_slice.ensures.items
    ∙ ap (λ b. if b then c.replace-key.result.items ++ c.as_slice-2.result.now else c.replace-key.result.items) room
    ∙ ap (λ v. v.items ++ c.as_slice-2.result.now) key_was
    ∙ ap (λ xs. xs ++ c.as_slice-2.result.now) stands.next_key_is in
    let same : c.extend_from_slice.new.self.items ≡ c.as_slice-3.result.now = key_items ∙ c.as_slice-2.ensures.bytes ∙ sym c.as_slice-3.ensures.bytes in
    let kept : KeptReply = record { number = old.count; reply = c.args.reply; moment = c.max-moment.result } in
    let spared : 0 < spare c.shift_remove.new.self = omega (arith, c.shift_remove.ensures.room.0, c.requires.place.place) in
    let put = on_ok c.insert.result _ (c.insert.ensures.succeeds spared) c.insert.ensures.entries in
    let absent : lookup (has_bytes c.extend_from_slice.new.self.items) c.shift_remove.new.self.entries ≡ None =
    ap (λ b. lookup (has_bytes b) c.shift_remove.new.self.entries) same ∙ none in
    let came : all_shown c.insert.new.self.entries ≡ all_shown c.shift_remove.new.self.entries ++ shown (c.extend_from_slice.new.self, kept) ∷ [] =
    ap all_shown (put ∙ insert_entry-new (λ x y. pointwise nat_eq x.items y.items) c.shift_remove.new.self c.extend_from_slice.new.self kept absent)
    ∙ push-shown c.shift_remove.new.self.entries (c.extend_from_slice.new.self, kept) in
    let low : last_keeping_moment keepings ≤ moment_used keepings c.args.now = omega arith in
    keeps old c.drop_oldest.new.self keepings keeping c.shift_remove.new.self.entries (all_shown c.insert.new.self.entries) stands c.new-bytes.ensures.source low (record {
      taken = taken ∙ ap (λ b. filter (is_other b) (all_shown es)) bytes;
      came_is = came ∙ (λ i. all_shown c.shift_remove.new.self.entries ++ record { key = (same ∙ bytes) i; number = old.count; reply = c.args.reply.list; moment = moment i } ∷ []);
      gone = c.drop_oldest.ensures.entries;
      count = c.drop_oldest.ensures.count;
      moment = c.drop_oldest.ensures.last_moment ∙ moment;
      next_key = ap (λ v. v.items) c.drop_oldest.ensures.next_key ∙ ap (λ v. v.items) c.replace-key.ensures.after ∙ c.new.ensures.items;
    })

pub invariant_of-self : goal.invariant_of-self
invariant_of-self c =
    let old = c.args.self.now in
    let es = old.entries.entries in
    let key : c.new-bytes.result ≡ cache_key c.args.source c.args.cookie.list = c.new-bytes.ensures.bytes ∙ ap (cache_key c.args.source) c.as_slice.ensures in
    let bytes : c.as_slice-3.result.now ≡ cache_key c.args.source c.args.cookie.list = c.as_slice-3.ensures.bytes ∙ key in
    let none : lookup (has_bytes c.as_slice-3.result.now) c.shift_remove.new.self.entries ≡ None = c.shift_remove.ensures.updates.1 in
    let removed : c.shift_remove.new.self.entries ≡ remove_entry (has_bytes c.as_slice-3.result.now) es = c.shift_remove.ensures.entries in
    let taken : all_shown c.shift_remove.new.self.entries ≡ filter (is_other c.as_slice-3.result.now) (all_shown es) =
    ap all_shown removed ∙ remove-shown c.as_slice-3.result.now es (ap (lookup (has_bytes c.as_slice-3.result.now)) (sym removed) ∙ none) in
    let key_was = c.replace-key.ensures.value in
    let fits : vec_len c.replace-key.result + length c.as_slice-2.result.now ≤ vec_capacity c.replace-key.result =
    rw key_was (omega (arith, old.next_key.ok.0, c.requires.place.key, c.as_slice-2.ensures.short)) in
    let room : IsOk c.extend_from_slice.result = c.extend_from_slice.ensures.succeeds fits in
    let key_items : c.extend_from_slice.new.self.items ≡ c.as_slice-2.result.now =
    c.extend_from_slice.ensures.items
    ∙ ap (λ b. if b then c.replace-key.result.items ++ c.as_slice-2.result.now else c.replace-key.result.items) room
    ∙ ap (λ v. v.items ++ c.as_slice-2.result.now) key_was
    ∙ ap (λ xs. xs ++ c.as_slice-2.result.now) (none_at_0 old.next_key.items old.empty_key) in
    let same : c.extend_from_slice.new.self.items ≡ c.as_slice-3.result.now = key_items ∙ c.as_slice-2.ensures.bytes ∙ sym c.as_slice-3.ensures.bytes in
    let kept : KeptReply = record { number = old.count; reply = c.args.reply; moment = c.max-moment.result } in
    let spared : 0 < spare c.shift_remove.new.self = omega (arith, c.shift_remove.ensures.room.0, c.requires.place.place) in
    let put = on_ok c.insert.result _ (c.insert.ensures.succeeds spared) c.insert.ensures.entries in
    let absent : lookup (has_bytes c.extend_from_slice.new.self.items) c.shift_remove.new.self.entries ≡ None =
    ap (λ b. lookup (has_bytes b) c.shift_remove.new.self.entries) same ∙ none in
    let came : all_shown c.insert.new.self.entries ≡ all_shown c.shift_remove.new.self.entries ++ shown (c.extend_from_slice.new.self, kept) ∷ [] =
    ap all_shown (put ∙ insert_entry-new (λ x y. pointwise nat_eq x.items y.items) c.shift_remove.new.self c.extend_from_slice.new.self kept absent)
    ∙ push-shown c.shift_remove.new.self.entries (c.extend_from_slice.new.self, kept) in
    let Fits : CacheEntry → Type 0 = λ entry. IsTrue (is_cache_key entry.key) in
    let left : All Fits (all_shown c.shift_remove.new.self.entries) =
    rw taken (All-filter (is_other c.as_slice-3.result.now) Fits (all_shown es) old.cache_keys) in
    let new : IsTrue (is_cache_key c.extend_from_slice.new.self.items) =
    rw (same ∙ bytes) (key_fits c.args.source c.args.cookie.list c.new-bytes.ensures.source c.requires.cookie) in
    record {
      cache_keys = rw came (All-push Fits (all_shown c.shift_remove.new.self.entries) (shown (c.extend_from_slice.new.self, kept)) left new);
      empty_key = ap (λ v. length v.items) c.replace-key.ensures.after ∙ ap length c.new.ensures.items;
    }
