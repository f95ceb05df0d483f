-- Which reply is kept for a command, as a relation: the law `kept_is_latest` says that it and `kept` are one.
use Rattle.std.specs.Prelude.{ℕ, ◌≡◌, ◌+◌, ◌<◌, List, ◌∷◌, ◌++◌, All}
use Rattle.relay_outside.specs.declared.address.Addr.{Addr}
use Rattle.cookie_cache.specs.Keepings.{Keeping, recent}

-- the keeping has this source and this cookie, and was made less than 60,000 milliseconds before this moment
pub record MatchesCookie (source : Addr) (cookie : List ℕ) (at : ℕ) (keeping : Keeping) : Type 0 where
  pub source_is : keeping.source ≡ source
  pub cookie_is : keeping.cookie ≡ cookie
  pub young : at < keeping.moment + 60000

-- of the last 4,096 keepings the latest that matches has this reply: it matches, and none of the later ones does
pub record IsLatest (keepings : List Keeping) (source : Addr) (cookie : List ℕ) (at : ℕ) (reply : List ℕ) : Type 0 where
  pub later : List Keeping
  pub keeping : Keeping
  pub earlier : List Keeping
  pub among : recent keepings ≡ later ++ keeping ∷ earlier
  pub matches : MatchesCookie source cookie at keeping
  pub none_later : All (λ other. MatchesCookie source cookie at other → ⊥) later
  pub reply_is : keeping.reply ≡ reply
