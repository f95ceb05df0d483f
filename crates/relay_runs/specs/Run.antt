-- What a run of `serve` does to its devices, and how it may end.
use Rattle.std.specs.Prelude.{◌≡◌, ◌⊎◌, ℕ, Bool, true, false, List, [], ◌∷◌, Option, Some, None}
use Rattle.relay_outside.specs.declared.link.LinkCall.{LinkCall}
use Rattle.relay_outside.specs.declared.link.LinkCall.TheVariants as call
use Rattle.relay_outside.specs.declared.lines.WriteCall.{WriteCall}
use Rattle.relay_outside.specs.declared.lines.WriteCall.TheVariants as put
use Rattle.relay_runs.specs.declared.status.Status.{Status}
use Rattle.relay_runs.specs.declared.status.Status.TheVariants as status
use Rattle.command_line.specs.declared.settings.Settings.{Settings}
use Rattle.relay_outside.specs.declared.ports.PortCall.{PortCall}
use Rattle.relay_outside.specs.DeviceLogs.{WhereLogged}
use Rattle.media_ports.specs.OpenPorts.{OpensHeld}
use Rattle.media_lane.specs.declared.answers.Totals.{Totals}
use Rattle.relay_runs.specs.declared.totals.Counts.{Counts}
use Rattle.relay_runs.specs.ServeRuns.{Outside, Gave, DidServe, totals_line}

-- a status tells whether the sink took the line
abbrev pub is_printed : Status → Bool
is_printed status.Ok = true
is_printed status.Usage = true
is_printed status.ControlFault = true
is_printed status.PrintFault = false
is_printed status.OutOfMemory = true
is_printed status.ScriptFault = true
is_printed status.TurnsSpent = true
is_printed status.ScriptRead = true

-- of the devices the link alone was called, so
pub record IsCalled (outside : Outside) (calls : List LinkCall) : Type 0 where
  pub link : Gave outside.link outside.link_now calls
  pub no_moment : Gave outside.timer outside.timer_now []
  pub no_port : Gave outside.opened outside.opened_now []
  pub no_draw : Gave outside.drew outside.drew_now []

-- The link was bound to its address, the control turns were made, while as many threads of media ran as the words say, and one line was
-- printed, of totals. This is the status at their end,
-- unless a fault of the sink took its place
pub record DidRun (settings : Settings) (range : Option (ℕ × ℕ)) (gate : ℕ → Type 0) (outside : Outside) (wrote wrote_now : Option (List WriteCall)) (answer : Status) : Type 0 where
  pub ended : Status
  pub counts : Counts
  pub totals : Totals
  pub did : DidServe (call.Bind settings.listen true ∷ []) settings.turns settings.config settings.threads range gate outside ended counts totals
  pub answer_is : (answer ≡ ended) ⊎ (answer ≡ status.PrintFault)
  pub line : Gave wrote wrote_now (put.Write (totals_line counts totals) (is_printed answer) ∷ [])

-- With words of `serve`: memory ran out before any call, or the bind failed, or the run is as `DidRun` says; before it nothing is printed
abbrev pub Serves : Option Settings → (range : Option (ℕ × ℕ)) → (gate : ℕ → Type 0) → Outside → (wrote wrote_now : Option (List WriteCall)) → Status → Type 0
Serves None range gate outside wrote wrote_now answer = Unit {0}
Serves (Some settings) range gate outside wrote wrote_now answer =
    (IsCalled outside [] × Gave wrote wrote_now [] × (answer ≡ status.OutOfMemory))
    ⊎ (IsCalled outside (call.Bind settings.listen false ∷ []) × Gave wrote wrote_now [] × (answer ≡ status.ControlFault))
    ⊎ DidRun settings range gate outside wrote wrote_now answer

-- how a run of `serve` may end
abbrev pub IsServed : Status → Type 0
IsServed status.Ok = Unit {0}
IsServed status.ControlFault = Unit {0}
IsServed status.PrintFault = Unit {0}
IsServed status.OutOfMemory = Unit {0}
IsServed status.TurnsSpent = Unit {0}
IsServed status.Usage = ⊥
IsServed status.ScriptFault = ⊥
IsServed status.ScriptRead = ⊥

-- where the words are those of `serve`, no port of a pair of their configuration is open
abbrev pub OpensNone : Option Settings → List PortCall → Type 0
OpensNone None calls = Unit {0}
OpensNone (Some settings) calls = OpensHeld settings.config calls []

-- the same, where the port maker tells
abbrev pub LogsNone : Option Settings → Option (List PortCall) → Type 0
LogsNone settings log = WhereLogged log (OpensNone settings)
