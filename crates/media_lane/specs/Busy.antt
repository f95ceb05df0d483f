-- What a call of a lane does that finds its place busy.
use Rattle.std.specs.Prelude.{◌≡◌, ◌^◌, ℕ}
use Rattle.relay_outside.specs.declared.ports.InCall.{InCall}
use Rattle.relay_outside.specs.declared.ports.OutCall.{OutCall}
use Rattle.relay_outside.specs.DeviceLogs.{EndLog}
use Rattle.turn_table.specs.declared.hands.Hand.{Hand}
use Rattle.turn_table.specs.Hands.{entries, parts, FoundBusy, IsBusy, IsGiven}
use Rattle.relay_core.specs.declared.part.Part.{Part}
use Rattle.relay_core.specs.Records.{Made}
use Rattle.relay_core.specs.Steps.{Relates, IsReserved}

module _ {I O : Type 0} (in_told : I → EndLog InCall) (in_faults : I → ℕ) (out_told : O → EndLog OutCall) (out_faults : O → ℕ) where
  -- which steps the machine of the relay may make
  abbrev pub BusySteps : Part I O → Made → Unit {0} → Part I O → Type 0
  BusySteps old made outcome new = Relates in_told in_faults out_told out_faults old made new

  module _ {M : Type 0} {g : _} where
    -- the place's state at its front is x: what the entries before it leave
    abbrev pub Gives : Hand M (Part I O) Made (Unit {0}) g → ℕ → ℕ → Part I O → Type 0
    Gives hand place front x = IsGiven BusySteps IsReserved hand place front x

    -- Nothing was made: the one compare-exchange of this place's mark found it taken, by another hand's turn, or its numbers are spent.
    -- A hand with all parts finds no mark taken.
    pub record FindsBusy (place front : ℕ) (old new : Hand M (Part I O) Made (Unit {0}) g) : Type 0 where
      pub nothing : entries new ≡ entries old
      pub found : FoundBusy BusySteps IsReserved place front old new
      pub seen : IsBusy BusySteps IsReserved place front old new
      pub alone : parts old ≡ 1024 → front ≡ 2 ^ 56
