use Rattle.std.proofs.Common.{◌≡◌, ◌∙◌, sym, ap, map, ◌++◌, [], ◌∷◌, All, IsTrue, true, false, None, is_some, nat_eq, true≢false}
use Rattle.std.specs.Cmp.Lexicographic.{pointwise}
use Rattle.std.specs.List.{IsDistinct}
use Rattle.std.specs.Map.{lookup}
use Rattle.std.specs.Vec.Iter.{into_iter_items}
use Rattle.std.proofs.lemmas.List.{append-nil}
use Rattle.std.proofs.lemmas.List.Elements.{All-push}
use Rattle.indexmap.proofs.CallerLemmas.{insert_entry-new}
use Rattle.cookie_cache.specs.declared.kept_reply.KeptReply.{KeptReply}
use Rattle.cookie_cache.specs.Entries.{CacheEntry, cache_key, shown, all_shown}
use Rattle.cookie_cache.specs.SavedReplies.{saved_entry, is_cache_key}
use Rattle.cookie_cache.proofs.Shown.{has_bytes, push-shown}
use Rattle.cookie_cache.proofs.KeyForms.{none_at_0}
use Rattle.cookie_cache.proofs.Saving.{among, absent, joined, distinct_shown, none_of}
use Rattle.cookie_cache.proofs.saved.entries_of.Goals as goal

pub returns-then-not-is_cookie_of-clause-none : goal.returns-then-not-is_cookie_of-clause-none
returns-then-not-is_cookie_of-clause-none c = λ are.
    let Fits : CacheEntry → Type 0 = λ entry. IsTrue (is_cache_key entry.key) in
    let saved = c.in-Some.saved in
    let rest = map saved_entry (into_iter_items c.next.new.self) in
    let es = all_shown c.loop-saved.entries.entries in
    let whole : map saved_entry c.args.kept.items ≡ es ++ saved_entry saved ∷ rest =
    sym c.loop-saved.invariant.2 ∙ ap (λ l. es ++ map saved_entry l) c.in-Some.ensures.steps.0 in
    let all : All Fits (es ++ saved_entry saved ∷ rest) = rw (← whole) are.keys in
    let yes : c.is_cookie_of.result ≡ true =
    c.is_cookie_of.ensures.key ∙ ap (λ b. is_cache_key (cache_key saved.source b)) c.as_slice.ensures ∙ among Fits es (saved_entry saved) rest all in
    absurd (true≢false (sym yes ∙ c.if-not-is_cookie_of.true))

pub returns-then-again-clause-none : goal.returns-then-again-clause-none
returns-then-again-clause-none c = λ are.
    let saved = c.in-Some.saved in
    let rest = map saved_entry (into_iter_items c.next.new.self) in
    let es = c.loop-saved.entries.entries in
    let whole : map saved_entry c.args.kept.items ≡ all_shown es ++ saved_entry saved ∷ rest =
    sym c.loop-saved.invariant.2 ∙ ap (λ l. all_shown es ++ map saved_entry l) c.in-Some.ensures.steps.0 in
    let key : c.in_ok-key.key.items ≡ cache_key saved.source saved.cookie.list =
    c.in_ok-key.ensures.items ∙ c.as_slice-in-loop-saved-2.ensures.bytes ∙ c.new-bytes.ensures.bytes ∙ ap (cache_key saved.source) c.as_slice-in-loop-saved.ensures in
    let different : IsDistinct (pointwise nat_eq) (map (λ entry. entry.key) (all_shown es ++ saved_entry saved ∷ rest)) = rw (← whole) are.distinct in
    let none : lookup (has_bytes c.in_ok-key.key.items) es ≡ None = absent c.in_ok-key.key.items es (saved_entry saved) rest (sym key) different in
    let no : is_some c.in_ok-insert.field-0 ≡ false = ap is_some (c.in_ok-insert.ensures.old ∙ none) in
    absurd (true≢false (sym c.if-again.true ∙ c.is_some-again.ensures ∙ no))

pub loop-saved-preserved : goal.loop-saved-preserved
loop-saved-preserved c =
    let Fits : CacheEntry → Type 0 = λ entry. IsTrue (is_cache_key entry.key) in
    let saved = c.in-Some.saved in
    let rest = map saved_entry (into_iter_items c.next.new.self) in
    let es = c.loop-saved.entries.entries in
    let value : KeptReply = record { number = saved.number; reply = saved.reply; moment = saved.moment } in
    let key : c.in_ok-key.key.items ≡ cache_key saved.source saved.cookie.list =
    c.in_ok-key.ensures.items ∙ c.as_slice-in-loop-saved-2.ensures.bytes ∙ c.new-bytes.ensures.bytes ∙ ap (cache_key saved.source) c.as_slice-in-loop-saved.ensures in
    let none : lookup (has_bytes c.in_ok-key.key.items) es ≡ None =
    sym c.in_ok-insert.ensures.old ∙ none_of c.in_ok-insert.field-0 (sym c.is_some-again.ensures ∙ c.if-again.false) in
    let came : all_shown c.insert.new.self.entries ≡ all_shown es ++ shown (c.in_ok-key.key, value) ∷ [] =
    ap all_shown (c.in_ok-insert.ensures.entries ∙ insert_entry-new (λ x y. pointwise nat_eq x.items y.items) c.loop-saved.entries c.in_ok-key.key value none)
    ∙ push-shown es (c.in_ok-key.key, value) in
    let one : shown (c.in_ok-key.key, value) ≡ saved_entry saved =
    (λ i. record { key = key i; number = saved.number; reply = saved.reply.list; moment = saved.moment }) in
    let yes : c.is_cookie_of.result ≡ true = c.if-not-is_cookie_of.false in
    let fits : IsTrue (is_cache_key c.in_ok-key.key.items) =
    ap is_cache_key (key ∙ ap (cache_key saved.source) (sym c.as_slice.ensures)) ∙ sym c.is_cookie_of.ensures.key ∙ yes in (
      tt,
      tt,
      ap (λ l. l ++ rest) came
          ∙ joined (all_shown es) (shown (c.in_ok-key.key, value)) rest
          ∙ ap (λ e. all_shown es ++ e ∷ rest) one
          ∙ ap (λ l. all_shown es ++ map saved_entry l) (sym c.in-Some.ensures.steps.0)
          ∙ c.loop-saved.invariant.2,
      rw came (All-push Fits (all_shown es) (shown (c.in_ok-key.key, value)) c.loop-saved.invariant.3 fits),
      c.in_ok-insert.ensures.unique,
    )

pub returns-clause-some : goal.returns-clause-some
returns-clause-some c =
    let es = all_shown c.loop-saved.entries.entries in
    let it = c.loop-saved.saved-iterator in
    let none : into_iter_items it ≡ [] = none_at_0 (into_iter_items it) (sym it.rest.ok.0 ∙ c.in-None.ensures.steps.0) in (
      sym (append-nil es) ∙ ap (λ l. es ++ map saved_entry l) (sym none) ∙ c.loop-saved.invariant.2,
      record {
        keys = c.loop-saved.invariant.3;
        distinct = distinct_shown c.loop-saved.entries.entries c.loop-saved.invariant.4;
      },
    )
