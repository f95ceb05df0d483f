-- The end of a replay, told by its status.
use Rattle.std.proofs.Common.{◌≡◌, refl}
use Rattle.replay_steps.specs.declared.ended.Ended.{Ended}
use Rattle.replay_steps.specs.declared.ended.Ended.TheVariants as ended
use Rattle.relay_runs.specs.declared.status.Status.TheVariants as status
use Rattle.relay_app.specs.Run.{status_of, IsReplayed}

pub told_status : (end : Ended) → IsReplayed (status_of end)
told_status ended.Finished = tt
told_status ended.ScriptFault = tt
told_status ended.ScriptRead = tt
told_status ended.PrintFault = tt
told_status ended.OutOfMemory = tt
told_status ended.DeviceFault = tt

-- a status of its own has one cause
pub told_read : (end : Ended) → status.ScriptRead ≡ status_of end → end ≡ ended.ScriptRead
told_read ended.Finished is = absurd (let k : status.ScriptRead ≡ status.Ok = is in cc)
told_read ended.ScriptFault is = absurd (let k : status.ScriptRead ≡ status.ScriptFault = is in cc)
told_read ended.ScriptRead is = refl
told_read ended.PrintFault is = absurd (let k : status.ScriptRead ≡ status.PrintFault = is in cc)
told_read ended.OutOfMemory is = absurd (let k : status.ScriptRead ≡ status.OutOfMemory = is in cc)
told_read ended.DeviceFault is = absurd (let k : status.ScriptRead ≡ status.OutOfMemory = is in cc)

pub told_print : (end : Ended) → status.PrintFault ≡ status_of end → end ≡ ended.PrintFault
told_print ended.Finished is = absurd (let k : status.PrintFault ≡ status.Ok = is in cc)
told_print ended.ScriptFault is = absurd (let k : status.PrintFault ≡ status.ScriptFault = is in cc)
told_print ended.ScriptRead is = absurd (let k : status.PrintFault ≡ status.ScriptRead = is in cc)
told_print ended.PrintFault is = refl
told_print ended.OutOfMemory is = absurd (let k : status.PrintFault ≡ status.OutOfMemory = is in cc)
told_print ended.DeviceFault is = absurd (let k : status.PrintFault ≡ status.OutOfMemory = is in cc)

pub told_control : (end : Ended) → status.ControlFault ≡ status_of end → ⊥
told_control ended.Finished is = let k : status.ControlFault ≡ status.Ok = is in cc
told_control ended.ScriptFault is = let k : status.ControlFault ≡ status.ScriptFault = is in cc
told_control ended.ScriptRead is = let k : status.ControlFault ≡ status.ScriptRead = is in cc
told_control ended.PrintFault is = let k : status.ControlFault ≡ status.PrintFault = is in cc
told_control ended.OutOfMemory is = let k : status.ControlFault ≡ status.OutOfMemory = is in cc
told_control ended.DeviceFault is = let k : status.ControlFault ≡ status.OutOfMemory = is in cc
