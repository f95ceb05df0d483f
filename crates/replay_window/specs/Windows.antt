-- What a window keeps of the indices that were noted.
use Rattle.std.specs.Prelude.{ℕ, ◌≡◌, ◌-◌, ◌^◌, ◌<◌, ◌≤◌, List, unwrap_or, if◌then◌else◌}
use Rattle.std.specs.Int.{bit_at}
use Rattle.replay_window.specs.declared.answers.Near.{Near}
use Rattle.replay_window.specs.declared.answers.Near.TheVariants.{At, Below, Beyond}
use Rattle.replay_window.specs.declared.window.Window.{Window}
use Rattle.replay_window.specs.Indices.{greatest_index, is_noted}

-- bit k is 1 exactly where the index that lies k below the greatest is in the list
abbrev pub BitsTell : ℕ → List ℕ → Type 0
BitsTell bits noted = (k : ℕ) → k < 128 → k ≤ unwrap_or (greatest_index noted) 0
    → bit_at bits k ≡ (if is_noted noted (unwrap_or (greatest_index noted) 0 - k) then 1 else 0)

-- The window stands for this list: it has its greatest index, and its bits tell which of the 128 indices up to there are
-- in it.
pub record WindowStandsFor (window : Window) (noted : List ℕ) : Type 0 where
  pub top : window.greatest ≡ greatest_index noted
  pub recent : BitsTell window.bits noted

-- an answer that is an index is one below 2 ^ 48
abbrev pub IsIndex : Near → Type 0
IsIndex (At index) = index < 2 ^ 48
IsIndex Below = Unit {0}
IsIndex Beyond = Unit {0}
