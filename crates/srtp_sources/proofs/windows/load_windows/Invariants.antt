use Rattle.std.proofs.Common.{◌≡◌, ◌*◌, length, take}
use Rattle.std.specs.List.{flat_map, AllWithin}
use Rattle.replay_window.specs.SavedWindows.{FitsWindow, saved_window}
use Rattle.srtp_sources.proofs.windows.load_windows.Given as goal

abbrev pub invariant-places : goal.invariant-places
invariant-places l = record {
  long : length l.windows ≡ 32;
  fit : AllWithin FitsWindow l.windows 0 l.place;
  read : flat_map saved_window (take l.place l.windows) ≡ take (25 * l.place) l.bytes;
}
