-- The last 4,096 keepings, as they stand in a cache.
use Rattle.std.proofs.Common.{◌≡◌, ℕ, List, [], ◌∷◌, ap, ◌∙◌, take, max, arith}
use Rattle.std.proofs.lemmas.List.{take-take}
use Rattle.cookie_cache.specs.Keepings.{Keeping, recent, last_keeping_moment, moment_used}

-- the moment that is used is known from them
pub moment_used-recent : (now : ℕ) (keepings kept : List Keeping) → kept ≡ recent keepings → max now (last_keeping_moment kept) ≡ moment_used keepings now
moment_used-recent now [] kept is = ap (λ k. max now (last_keeping_moment k)) is
moment_used-recent now (keeping ∷ keepings) kept is = ap (λ k. max now (last_keeping_moment k)) is

-- with one more the oldest of 4,096 goes
pub recent-cons : (keeping : Keeping) (keepings kept : List Keeping) → kept ≡ recent keepings → keeping ∷ take 4095 kept ≡ recent (keeping ∷ keepings)
recent-cons keeping keepings kept is =
    ap (λ k. keeping ∷ take 4095 k) is ∙ ap (λ k. keeping ∷ k) (take-take 4095 4096 keepings (omega arith))
