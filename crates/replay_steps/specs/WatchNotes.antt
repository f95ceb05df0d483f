-- What a watch notes of the calls of a control turn.
use Rattle.std.specs.Prelude.{◌≡◌, ℕ, Bool, true, false, List, Option, Some, None, Result, Ok, Err, drop}
use Rattle.relay_outside.specs.declared.keys.KeyCall.{KeyCall}
use Rattle.relay_outside.specs.declared.ports.PortCall.{PortCall}
use Rattle.relay_outside.specs.declared.settings.Config.{Config}
use Rattle.rtp_packet.specs.declared.head.Half.{Half}
use Rattle.port_pool.specs.Ports.{pair_family, half_port}
use Rattle.call_cell.specs.Cells as cells
use Rattle.media_lane.specs.Steps.{RelayedOnce}
use Rattle.replay_devices.specs.Devices.{Happening, send_fails}
use Rattle.replay_devices.specs.Watch.{WatchState, WatchStandsFor}
use Rattle.replay_steps.specs.declared.ended.Untold.{Untold}
use Rattle.replay_steps.specs.declared.ended.Untold.TheVariants as untold
use Rattle.replay_steps.specs.declared.step.Stepped.{Stepped}
use Rattle.replay_steps.specs.declared.step.Stepped.TheVariants as stepped
use Rattle.call_cell.specs.declared.outcome.LocalPort.{LocalPort}
use Rattle.call_cell.specs.declared.outcome.Lost.{Lost}
use Rattle.call_cell.specs.declared.outcome.Lost.TheVariants as lost
use Rattle.call_cell.specs.declared.outcome.Outcome.{Outcome}
use Rattle.call_cell.specs.declared.outcome.Outcome.TheVariants as outcomes
use Rattle.relay_core.specs.Entries.{Entry}
use Rattle.relay_script.specs.declared.event.Printed as coded
use Rattle.relay_script.specs.EventLines.{event_of}
use Rattle.replay_steps.specs.Steps.{Packet, OpensAsked, DrawsAsked, RelaysPacket}

-- of whatever happened before, this happened since
abbrev pub Watches : Config → (seed : ℕ) → WatchState → WatchState → (List Happening → List Happening → Type 0) → Type 0
Watches config seed old new P = (past : List Happening) → WatchStandsFor config seed past old → (now : List Happening) × P past now × WatchStandsFor config seed now new

-- the calls of both are told, and each after the first `opened` and the first `drawn` failed just where it had to, and gave the key that was due
pub record WatchesTurn (config : Config) (seed : ℕ) (ports : Option (List PortCall)) (opened : ℕ) (keys : Option (List KeyCall)) (drawn : ℕ) (old new : WatchState) : Type 0 where
  pub openings : List PortCall
  pub draws : List KeyCall
  pub ports_tell : ports ≡ Some openings
  pub keys_tell : keys ≡ Some draws
  pub watches :
      Watches config seed old new
      (λ past now. (between : List Happening) × OpensAsked config (drop opened openings) past between × DrawsAsked seed (drop drawn draws) between now)

-- the same of a step that did this; if it can't be told, nothing is said
abbrev pub StepsSo : Config → (seed : ℕ) → Stepped → WatchState → WatchState → (List Happening → List Happening → Type 0) → Type 0
StepsSo config seed stepped.Quiet old new P = Watches config seed old new P
StepsSo config seed (stepped.Prints e) old new P = Watches config seed old new P
StepsSo config seed stepped.Faulty old new P = Watches config seed old new P
StepsSo config seed (stepped.Untold why) old new P = Unit {0}

-- By which port a relay with this outcome sent, and whether its send returned Ok

abbrev pub failed_send_of : Lost → Option (LocalPort × Bool)
failed_send_of (lost.SendFault family port) = Some (record { family = family; port = port }, false)
failed_send_of lost.Hold = None
failed_send_of lost.OutTooOld = None
failed_send_of lost.IndexUsed = None
failed_send_of lost.OutSources = None
failed_send_of lost.KeySpent = None

abbrev pub send_in : Outcome → Option (LocalPort × Bool)
send_in (outcomes.Sent family port to len) = Some (record { family = family; port = port }, true)
send_in (outcomes.Lost cause) = failed_send_of cause
send_in (outcomes.Refused cause) = None

-- it sent by a port, and the send failed where it had not to, or did not where it had to, by whatever happened before
pub record SendsOther (outcome : Outcome) (old : WatchState) : Type 0 where
  pub from : LocalPort
  pub done : Bool
  pub send_is : send_in outcome ≡ Some (from, done)
  pub other : (config : Config) (seed : ℕ) (past : List Happening) (pair : ℕ) (half : Half) → pair_family config pair ≡ from.family
      → half_port config pair half ≡ from.port → WatchStandsFor config seed past old
      → done ≡ send_fails config past pair half

-- a packet was relayed, and its send was another than the lines ask for
pub record RelaysOther (l : List Entry) (p : cells.Receipt) (old : WatchState) (new : List Entry) : Type 0 where
  pub outcome : Outcome
  pub relayed : RelayedOnce l p outcome new
  pub sends : SendsOther outcome old

-- the same of what is printed of a relay; without memory for it nothing is said
abbrev pub RelaysSo : Config → (seed clock : ℕ) → List Entry → Packet → Result coded.Printed Untold → WatchState → WatchState → List Entry → Type 0
RelaysSo config seed clock l p (Err untold.OutOfMemory) old now new = Unit {0}
RelaysSo config seed clock l p (Err untold.DeviceFault) old now new = RelaysOther l p.1 old new
RelaysSo config seed clock l p (Ok e) old now new = Watches config seed old now (λ past past_now. RelaysPacket config clock l past p.1 (event_of e) new past_now)
