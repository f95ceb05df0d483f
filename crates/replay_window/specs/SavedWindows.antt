-- How a window is saved, and which windows there are.
use Rattle.std.specs.Prelude.{ℕ, ◌≡◌, ◌^◌, ◌<◌, List, ◌∷◌, ◌++◌, Option, Some, None}
use Rattle.std.specs.Option.{ForNone, ForSome}
use Rattle.std.specs.Int.{w64, w128, to_be_bytes}
use Rattle.replay_window.specs.declared.window.Window.{Window}

-- a greatest index: a 1 and the index in 8 bytes, the highest first; none: 9 zeros
abbrev pub saved_greatest : Option ℕ → List ℕ
saved_greatest None = 0 ∷ to_be_bytes w64 0
saved_greatest (Some index) = 1 ∷ to_be_bytes w64 index

-- the greatest index and the bits in 16 bytes, the highest first: 25 bytes
unfoldable pub saved_window : Window → List ℕ
saved_window window = saved_greatest window.greatest ++ to_be_bytes w128 window.bits

-- the windows that there are: indices are below 2 ^ 48, and where none is the greatest no bit is set
pub record FitsWindow (window : Window) : Type 0 where
  pub in_range : ForSome window.greatest (λ index. index < 2 ^ 48)
  pub unused : ForNone window.greatest (window.bits ≡ 0)
  pub width : window.bits < 2 ^ 128
