-- Records of which a cache is loaded.
use Rattle.std.proofs.Common.{◌≡◌, ◌∙◌, ◌↔◌, Option, Some, None, IfSome, IfNone, IsTrue, Result, Ok, Err, IfOk, Bool, is_some, map, refl, sym}
use Rattle.std.proofs.lemmas.Bool.{false≢true}
use Rattle.cookie_cache.specs.declared.cache.CookieCache.{CookieCache}
use Rattle.cookie_cache.specs.declared.saved.CacheSaved.{CacheSaved}
use Rattle.cookie_cache.specs.Saved.{FitsCache, SavesCache, NoCacheSaves}
use Rattle.cookie_cache.specs.SavedReplies.{saved_entry}
use Rattle.state_reads.specs.Texts.{HasCache}

pub loaded_is : (saved : CacheSaved) (loaded : Option CookieCache) → IfSome loaded (λ cache. FitsCache cache × SavesCache cache saved)
    → IfNone loaded (NoCacheSaves saved) → IsTrue (is_some loaded) ↔ HasCache saved
loaded_is saved None some none = (λ t. absurd (false≢true t), λ has. absurd (none has.cache has.fits has.saves))
loaded_is saved (Some cache) some none = (λ t. record { cache = cache; fits = some.0; saves = some.1 }, λ has. refl)

-- what is written of the same replies is one of the same cache
pub same_cache : (a b : CacheSaved) → map saved_entry a.kept.items ≡ map saved_entry b.kept.items → a.count ≡ b.count → a.last_moment ≡ b.last_moment
    → HasCache a → HasCache b
same_cache a b kept count last_moment has = record {
  cache = has.cache;
  fits = has.fits;
  saves = record { kept = has.saves.kept ∙ kept; count = has.saves.count ∙ count; last_moment = has.saves.last_moment ∙ last_moment };
}

pub told_of_copy : {E : Type 0} (result : Result Bool E) (a b : CacheSaved) → map saved_entry a.kept.items ≡ map saved_entry b.kept.items → a.count ≡ b.count
    → a.last_moment ≡ b.last_moment → IfOk result (λ is. IsTrue is ↔ HasCache a) → IfOk result (λ is. IsTrue is ↔ HasCache b)
told_of_copy (Ok is) a b kept count last_moment told =
    (λ t. same_cache a b kept count last_moment (told.0 t), λ has. told.1 (same_cache b a (sym kept) (sym count) (sym last_moment) has))
told_of_copy (Err why) a b kept count last_moment told = tt
