-- Drawn keys, and what their draws add to a key source's list.
use Rattle.std.specs.Prelude.{◌≡◌, ℕ, List, [], ◌∷◌, ◌++◌, map}
use Rattle.relay_outside.specs.declared.keys.KeyCall.{KeyCall}
use Rattle.relay_outside.specs.declared.keys.KeyCall.TheVariants.{Drawn, Failed}

-- the keys in the order of draws, each of 30 bytes, and for how many there is room in all
pub record KeyBytes : Type 0 where
  pub list : List (List ℕ)
  pub room : ℕ

-- one more, at the end
abbrev pub with_drawn_key : KeyBytes → List ℕ → KeyBytes
with_drawn_key drawn key = record { list = drawn.list ++ key ∷ []; room = drawn.room }

-- each of these keys is drawn, in order
abbrev pub AreDrawn : List (List ℕ) → List KeyCall → Type 0
AreDrawn keys calls = calls ≡ map Drawn keys

-- these keys are drawn, and the next draw fails
abbrev pub DrawsUpTo : List (List ℕ) → List KeyCall → Type 0
DrawsUpTo keys calls = calls ≡ map Drawn keys ++ Failed ∷ []
