use Rattle.std.proofs.Common.{◌≡◌, ◌*◌, length, take}
use Rattle.std.specs.List.{flat_map, AllWithin}
use Rattle.replay_window.specs.SavedWindows.{FitsWindow, saved_window}
use Rattle.srtp_sources.proofs.windows.save_windows.Given as goal

abbrev pub invariant-places : goal.invariant-places
invariant-places l = record {
  long : length l.bytes ≡ 800;
  fit : AllWithin FitsWindow l.windows 0 l.place;
  written : take (25 * l.place) l.bytes ≡ flat_map saved_window (take l.place l.windows);
}
