-- Sends of out ends that are to fail: for each line `fail send` the number of its port, whether the end that it speaks of was made and
-- of which family that is, and which of that end's sends it is from now on.
use Rattle.std.specs.Prelude.{ℕ, ◌-◌, Bool, false, ◌&&◌, ◌==◌, List, if◌then◌else◌}
use Rattle.std.specs.List.{list_any}
use Rattle.relay_outside.specs.declared.address.Family.{Family}
use Rattle.port_pool.specs.Ports.{family_eq}
use Rattle.call_cell.specs.declared.outcome.LocalPort.{LocalPort}
use Rattle.replay_devices.specs.declared.failures.Stage.{Stage}
use Rattle.replay_devices.specs.declared.failures.Stage.TheVariants.{Waiting, Counting}
use Rattle.replay_devices.specs.declared.failures.SendFailure.{SendFailure}

-- of a line: no end was made since
abbrev pub waiting_for : (port number : ℕ) → SendFailure
waiting_for port number = record { port = port; number = number; stage = Waiting }

-- the same line, where so many of the end's sends are to come
abbrev pub with_number : ℕ → SendFailure → SendFailure
with_number number failure = record { port = failure.port; number = number; stage = failure.stage }

-- after an end was made at its port, of this family: it is the one that the line speaks of, or ends the one before it
abbrev pub after_open_in : Stage → Family → SendFailure → SendFailure
after_open_in Waiting made failure = record { port = failure.port; number = failure.number; stage = Counting made }
after_open_in (Counting family) made failure = if family_eq family made then with_number 0 failure else failure

-- after an end was made at this port
abbrev pub after_open_at : LocalPort → SendFailure → SendFailure
after_open_at at failure = if failure.port == at.port then after_open_in failure.stage at.family failure else failure

abbrev pub after_send_in : Stage → Family → SendFailure → SendFailure
after_send_in Waiting sent failure = failure
after_send_in (Counting family) sent failure = if family_eq family sent then with_number (failure.number - 1) failure else failure

-- after a send by this port
abbrev pub after_send_at : LocalPort → SendFailure → SendFailure
after_send_at at failure = if failure.port == at.port then after_send_in failure.stage at.family failure else failure

abbrev pub is_next_by : Stage → LocalPort → SendFailure → Bool
is_next_by Waiting at failure = false
is_next_by (Counting family) at failure = family_eq family at.family && ((failure.port == at.port) && (failure.number == 1))

-- it is the next send by this port
abbrev pub is_next_at : LocalPort → SendFailure → Bool
is_next_at at failure = is_next_by failure.stage at failure

abbrev pub any_next_at : LocalPort → List SendFailure → Bool
any_next_at at failures = list_any (is_next_at at) failures
