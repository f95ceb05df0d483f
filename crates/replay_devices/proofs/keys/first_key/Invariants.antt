use Rattle.std.proofs.Common.{◌≡◌, drop}
use Rattle.std.specs.Prelude.{filter_map}
use Rattle.replay_devices.specs.Lines.{scripted_key}
use Rattle.replay_devices.proofs.keys.first_key.Given as goal

abbrev pub invariant-loop-place : goal.invariant-loop-place
invariant-loop-place l = filter_map scripted_key l.lines ≡ filter_map scripted_key (drop l.place l.lines)
