use Rattle.std.proofs.Common.{◌∙◌, sym, ap, option_map}
use Rattle.std.specs.Map.Iter.{deref_pair}
use Rattle.cookie_cache.proofs.Shown.{first_gone}
use Rattle.cookie_cache.proofs.cache.CookieCache.oldest_is_gone.Goals as goal

pub returns-in-Some : goal.returns-in-Some
returns-in-Some c =
    first_gone c.args.self.now.count c.args.self.now.entries.entries (c.in-Some.field-0-0.now, c.in-Some.kept.now)
    (sym (ap (option_map deref_pair) c.in-Some.is) ∙ c.first.ensures.entry)
