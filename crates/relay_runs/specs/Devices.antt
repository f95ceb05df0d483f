-- The devices that the control turns of a run ask: which they are, and which were left alone.
use Rattle.std.specs.Prelude.{◌≡◌}
use Rattle.relay_runs.specs.declared.devices.Devices.{Devices}

module _ {N P K T : Type 0} where
  -- each reference is to the same device
  abbrev pub AreSame : (old new : Devices N P K T) → Type 0
  AreSame old new =
      (new.link.ghost_name ≡ old.link.ghost_name) × (new.ports.ghost_name ≡ old.ports.ghost_name) × (new.keys.ghost_name ≡ old.keys.ghost_name)
      × (new.timer.ghost_name ≡ old.timer.ghost_name)

  -- each device is as it was
  abbrev pub AreUnasked : (old new : Devices N P K T) → Type 0
  AreUnasked old new = (new.link.now ≡ old.link.now) × (new.ports.now ≡ old.ports.now) × (new.keys.now ≡ old.keys.now) × (new.timer.now ≡ old.timer.now)
