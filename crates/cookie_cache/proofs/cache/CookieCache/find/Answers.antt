use Rattle.std.proofs.Common.{◌≡◌, ◌∙◌, sym, ap, None, Some, cond, max, ◌-◌, nat_lt, true, false, option_copied}
use Rattle.std.specs.Map.{lookup}
use Rattle.cookie_cache.specs.Entries.{cache_key}
use Rattle.cookie_cache.proofs.Shown.{answer_at, has_bytes}
use Rattle.cookie_cache.proofs.Keeping.{finds}
use Rattle.cookie_cache.proofs.cache.CookieCache.find.Goals as goal

pub returns-in_err-kept : goal.returns-in_err-kept
returns-in_err-kept c = λ keepings stands.
    let es = c.args.self.now.entries.entries in
    let key : c.as_slice.result.now ≡ cache_key c.args.source c.args.cookie.now = c.as_slice.ensures.bytes ∙ c.new-key.ensures.bytes in
    let found : lookup (has_bytes (cache_key c.args.source c.args.cookie.now)) es ≡ None =
    ap (λ b. lookup (has_bytes b) es) (sym key) ∙ sym c.get.ensures.value ∙ ap option_copied c.in_err-kept.was in
    rw c.from_residual.ensures
    (finds c.args.self.now keepings c.args.source c.args.cookie.now c.args.now stands c.new-key.ensures.source ∙ ap (answer_at (max c.args.now c.args.self.now.last_moment)) found)

pub returns-then-answers_at : goal.returns-then-answers_at
returns-then-answers_at c = λ keepings stands.
    let es = c.args.self.now.entries.entries in
    let kept = c.in_ok-kept.kept.now in
    let at = max c.args.now c.args.self.now.last_moment in
    let key : c.as_slice.result.now ≡ cache_key c.args.source c.args.cookie.now = c.as_slice.ensures.bytes ∙ c.new-key.ensures.bytes in
    let found : lookup (has_bytes (cache_key c.args.source c.args.cookie.now)) es ≡ Some kept =
    ap (λ b. lookup (has_bytes b) es) (sym key) ∙ sym c.get.ensures.value ∙ ap option_copied c.in_ok-kept.was in
    let young : nat_lt (at - kept.moment) 60000 ≡ true =
    ap (λ m. nat_lt (m - kept.moment) 60000) (sym c.max.ensures) ∙ sym c.answers_at.ensures ∙ c.if-answers_at.true in
    finds c.args.self.now keepings c.args.source c.args.cookie.now c.args.now stands c.new-key.ensures.source
    ∙ ap (answer_at at) found ∙ ap (λ b. cond b (Some kept.reply.list) None) young ∙ ap Some (sym c.as_slice-then-answers_at.ensures)

pub returns-else-answers_at : goal.returns-else-answers_at
returns-else-answers_at c = λ keepings stands.
    let es = c.args.self.now.entries.entries in
    let kept = c.in_ok-kept.kept.now in
    let at = max c.args.now c.args.self.now.last_moment in
    let key : c.as_slice.result.now ≡ cache_key c.args.source c.args.cookie.now = c.as_slice.ensures.bytes ∙ c.new-key.ensures.bytes in
    let found : lookup (has_bytes (cache_key c.args.source c.args.cookie.now)) es ≡ Some kept =
    ap (λ b. lookup (has_bytes b) es) (sym key) ∙ sym c.get.ensures.value ∙ ap option_copied c.in_ok-kept.was in
    let old : nat_lt (at - kept.moment) 60000 ≡ false =
    ap (λ m. nat_lt (m - kept.moment) 60000) (sym c.max.ensures) ∙ sym c.answers_at.ensures ∙ c.if-answers_at.false in
    finds c.args.self.now keepings c.args.source c.args.cookie.now c.args.now stands c.new-key.ensures.source
    ∙ ap (answer_at at) found ∙ ap (λ b. cond b (Some kept.reply.list) None) old
