-- What the timer in memory gives.
use Rattle.std.specs.Prelude.{ℕ, Option, List, [], ◌∷◌}

-- a timer in memory: its log, and the moments that are left, of which the last one stays
pub record TimerTape : Type 0 where
  pub log : Option (List ℕ)
  pub moments : List ℕ

-- the moment of the next call
abbrev pub next_moment : List ℕ → ℕ
next_moment [] = 0
next_moment (moment ∷ moments) = moment

-- the moments after it
abbrev pub moments_left : List ℕ → List ℕ
moments_left [] = []
moments_left (moment ∷ []) = moment ∷ []
moments_left (moment ∷ next ∷ moments) = next ∷ moments
