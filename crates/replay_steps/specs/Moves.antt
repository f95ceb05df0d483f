-- What the step of a line leaves.
use Rattle.std.specs.Prelude.{◌≡◌, ◌+◌, ◌≤◌, ℕ, Bool, true, List, None, Result}
use Rattle.relay_outside.specs.declared.address.Addr.{Addr}
use Rattle.turn_table.specs.Hands.{IsSameHand}
use Rattle.relay_core.specs.Turns.{made_by}
use Rattle.media_lane.specs.declared.receipt.Receipt.{Receipt}
use Rattle.relay_script.specs.declared.event.Printed as coded
use Rattle.relay_script.specs.Steps.{Step}
use Rattle.replay_devices.specs.Steps as model
use Rattle.replay_devices.specs.Devices.{Happening, fails}
use Rattle.replay_devices.specs.Watch.{WatchStandsFor}
use Rattle.replay_steps.specs.declared.state.Replayer.{Replayer}
use Rattle.replay_steps.specs.declared.state.ReplayState.{ReplayState}
use Rattle.replay_steps.specs.declared.ended.Untold.{Untold}
use Rattle.replay_steps.specs.declared.ended.Untold.TheVariants as untold
use Rattle.replay_steps.specs.declared.line_packet.Arrived.{Arrived}
use Rattle.replay_steps.specs.declared.line_packet.Arrived.TheVariants as arrivals
use Rattle.replay_steps.specs.declared.step.Stepped.{Stepped}
use Rattle.replay_steps.specs.declared.step.Stepped.TheVariants as stepped
use Rattle.replay_steps.specs.Arrivals.{IsGoodArrival}
use Rattle.replay_steps.specs.Receipts.{taken_with_pair}
use Rattle.replay_steps.specs.Ready.{IsReplayReady, course_at}
use Rattle.replay_steps.specs.Steps.{calls_devices, Arrives, OfStep}
use Rattle.replay_steps.specs.WatchNotes.{StepsSo, RelaysSo}

module _ {R : Type 0} where
  -- The step of this line came to this: the hand goes on and is ready for the next step, at most one receipt more was given out, and what
  -- was done and is printed is what the line asks for, of whatever happened before. A device is said to have done otherwise only where the
  -- line calls devices
  pub record MakesStep (replayer : Replayer R) (line : Step) (did : Stepped) (before after : ReplayState) : Type 0 where
    pub same : IsSameHand before.hand after.hand
    pub ready : IsReplayReady replayer after
    pub received : after.receipts.received ≤ before.receipts.received + 1
    pub differs : did ≡ stepped.Untold untold.DeviceFault → calls_devices line ≡ true
    pub steps : (seed : ℕ)
        → StepsSo replayer.server.config seed did before.watch after.watch
        (λ past past_now. OfStep replayer.server.config seed (course_at before past) line did (course_at after past_now))

  -- The packet of a line arrived and came to this, by a take that failed just where it had to: the hand goes on and is ready for the next step,
  -- and what is held, the clock and what was noted stand. Memory was wanting only where the port maker tells nothing
  pub record HasArrived (replayer : Replayer R) (port : ℕ) (source : Addr) (bytes : List ℕ) (arrived : Arrived) (before after : ReplayState) : Type 0 where
    pub same : IsSameHand before.hand after.hand
    pub ready : IsReplayReady replayer after
    pub receipts_are : after.receipts ≡ before.receipts
    pub clock_is : after.clock ≡ before.clock
    pub watch_is : after.watch ≡ before.watch
    pub good : IsGoodArrival replayer.server.config (made_by before.hand) arrived (made_by after.hand)
    pub failing : Bool
    pub asked : (seed : ℕ) (past : List Happening) → WatchStandsFor replayer.server.config seed past before.watch → failing ≡ fails model.Taking past
    pub arrives : Arrives replayer.server.config (made_by before.hand) port source bytes failing arrived (made_by after.hand)
    pub memory : arrived ≡ arrivals.Untold untold.OutOfMemory → before.devices.ports.log ≡ None

  -- A receipt that isn't held was relayed, and this is printed of it: the hand goes on and is ready for the next step, and what is held and the clock
  -- stand
  pub record HasPassed (replayer : Replayer R) (receipt : Receipt) (event : Result coded.Printed Untold) (before after : ReplayState) : Type 0 where
    pub same : IsSameHand before.hand after.hand
    pub ready : IsReplayReady replayer after
    pub receipts_are : after.receipts ≡ before.receipts
    pub clock_is : after.clock ≡ before.clock
    pub relays : (seed : ℕ)
        → RelaysSo replayer.server.config seed before.clock (made_by before.hand) (taken_with_pair receipt) event before.watch after.watch (made_by after.hand)
