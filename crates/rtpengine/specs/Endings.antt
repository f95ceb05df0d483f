-- With which number the program ends.
use Rattle.std.specs.Prelude.{ℕ}
use Rattle.relay_runs.specs.Statuses.{status_number}
use Rattle.relay_runs.specs.declared.status.Status.{Status}
use Rattle.relay_runs.specs.declared.status.Status.TheVariants.{OutOfMemory}
use Rattle.rtpengine.specs.declared.endings.Ending.{Ending}
use Rattle.rtpengine.specs.declared.endings.Ending.TheVariants as ending

-- the status that the ending stands for: where nothing was run, that of a run that got no memory
abbrev pub ending_status : Ending → Status
ending_status ending.NoMemory = OutOfMemory
ending_status (ending.NoSeed error) = OutOfMemory
ending_status (ending.Ran status fault) = status
ending_status (ending.Replayed status) = status

-- the number that the process ends with
abbrev pub ending_number : Ending → ℕ
ending_number e = status_number (ending_status e)
