-- The exit status that stands for each way in which a run ends, and the status that tells how a load ended.
use Rattle.std.specs.Prelude.{ℕ}
use Rattle.relay_runs.specs.declared.load_end.LoadEnd.{LoadEnd}
use Rattle.relay_runs.specs.declared.load_end.LoadEnd.TheVariants as load
use Rattle.relay_runs.specs.declared.status.Status.{Status}
use Rattle.relay_runs.specs.declared.status.Status.TheVariants as status

abbrev pub status_number : Status → ℕ
status_number status.Ok = 0
status_number status.Usage = 2
status_number status.ControlFault = 3
status_number status.PrintFault = 4
status_number status.OutOfMemory = 5
status_number status.ScriptFault = 6
status_number status.TurnsSpent = 7
status_number status.ScriptRead = 8

abbrev pub load_status : LoadEnd → Status
load_status load.Finished = status.Ok
load_status load.PrintFault = status.PrintFault
load_status load.NotBegun = status.OutOfMemory
load_status (load.CutShort why) = status.OutOfMemory
