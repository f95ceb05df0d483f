use Rattle.std.proofs.Common.{◌≡◌, ℕ, ◌+◌, ◌<◌, Some, length, take, reverse}
use Rattle.std.specs.Prelude.{◌==◌, slice_get}
use Rattle.std.specs.List.{list_any}
use Rattle.replay_devices.specs.Ports.{take_fails_behind, take_fails}
use Rattle.replay_devices.proofs.timetable.failing_takes.Given as goal

abbrev pub invariant-loop-step : goal.invariant-loop-step
invariant-loop-step l = record {
  lines : length l.failing.items ≡ l.step-index;
  done : (index : ℕ) → index < l.step-index → slice_get l.failing.items index ≡ Some (take_fails l.steps index);
  to_come : (later : ℕ) → list_any (λ n. n == later + 1) l.takes.list ≡ take_fails_behind (reverse (take l.step-index l.steps)) later;
}
