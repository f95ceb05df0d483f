use Rattle.std.proofs.Common.{refl}
use Rattle.cookie_cache.proofs.Keeping.{stands_for_none}
use Rattle.cookie_cache.proofs.cache.CookieCache.new.Goals as goal

pub returns : goal.returns
returns c = stands_for_none _ c.in_ok-with_capacity.ensures.empty c.new.ensures.items refl refl
