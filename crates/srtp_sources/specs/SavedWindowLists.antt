-- How the windows of a table's places are saved.
use Rattle.std.specs.Prelude.{ℕ, ◌≡◌, List, length, All}
use Rattle.std.specs.List.{flat_map}
use Rattle.replay_window.specs.declared.window.Window.{Window}
use Rattle.replay_window.specs.SavedWindows.{FitsWindow, saved_window}

-- windows one after another
unfoldable pub saved_windows : List Window → List ℕ
saved_windows windows = flat_map saved_window windows

-- 32 windows
pub record FitsWindows (windows : List Window) : Type 0 where
  pub places : length windows ≡ 32
  pub each : All FitsWindow windows
