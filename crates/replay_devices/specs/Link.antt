-- What the control link of a replay tells and gives.
use Rattle.std.specs.Prelude.{◌≡◌, ℕ, min, Bool, true, false, Option, Some, None, Result, Ok, Err, List, length, take}
use Rattle.std.specs.List.{last_or}
use Rattle.ng_bencode.specs.Room.{Room}
use Rattle.relay_outside.specs.declared.address.Addr.{Addr}
use Rattle.relay_outside.specs.declared.answers.Failed.{Failed}
use Rattle.relay_outside.specs.declared.answers.Taken.{Taken}
use Rattle.relay_outside.specs.declared.answers.Taken.TheVariants as taken
use Rattle.relay_outside.specs.declared.link.LinkCall.{LinkCall}
use Rattle.relay_outside.specs.Link.{datagrams}
use Rattle.relay_script.specs.declared.step.FailKind.TheVariants as kind
use Rattle.relay_script.specs.declared.step.Step.{Step}
use Rattle.relay_script.specs.declared.step.Step.TheVariants as line
use Rattle.replay_devices.specs.Countdowns.{counted_room}
use Rattle.replay_devices.specs.Lines.{Asks, fail_asked_by, datagram_in}
use Rattle.replay_devices.specs.declared.link.Waiting.{Waiting}
use Rattle.replay_devices.specs.declared.link.Waiting.TheVariants as waiting

-- the control link of a replay: what it tells; the script, and the index of the present line; what a take meets; which later
-- lines `ng` meet a failing take, and which later sends fail; the count of faults
pub record ReplayLinkState : Type 0 where
  pub log : Option (List LinkCall)
  pub steps : List Step
  pub step : ℕ
  pub waiting : Waiting
  pub reads : Room ℕ
  pub replies : Room ℕ
  pub faults : ℕ

-- what the take for a line `ng` meets
abbrev pub take_waiting : (failing : Bool) → Waiting
take_waiting true = waiting.Failure
take_waiting false = waiting.Datagram

-- what the first take for a line meets, where the next line `ng` meets a failing take or doesn't
abbrev pub met_at : Option Step → (failing : Bool) → Waiting
met_at (Some (line.Ng source bytes)) failing = take_waiting failing
met_at _ failing = waiting.Nothing

-- a line `ng` is counted, a line `fail read` asks
abbrev pub CountsRead : Option Step → Room ℕ → Room ℕ → Type 0
CountsRead (Some (line.Ng source bytes)) before after = after ≡ counted_room before
CountsRead step before after = Asks (fail_asked_by kind.Read step) before after

abbrev pub datagram_at : Option Step → Option (Addr × List ℕ)
datagram_at None = None
datagram_at (Some step) = datagram_in step

-- a datagram, cut at the room of the buffer
abbrev pub GivesDatagram : Option (Addr × List ℕ) → Result Taken Failed → List ℕ → Type 0
GivesDatagram None answer buf = answer ≡ Ok taken.Nothing
GivesDatagram (Some datagram) answer buf =
    let len = min (length datagram.1) (length buf) in
    (answer ≡ Ok (taken.Datagram datagram.0 len)) × (take len buf ≡ take len datagram.1)

-- a take gives the datagram of the present line, fails, or gives nothing
abbrev pub GivesLineDatagram : Waiting → Option Step → Result Taken Failed → List ℕ → Type 0
GivesLineDatagram waiting.Nothing step answer buf = answer ≡ Ok taken.Nothing
GivesLineDatagram waiting.Datagram step answer buf = GivesDatagram (datagram_at step) answer buf
GivesLineDatagram waiting.Failure step answer buf = (failed : Failed) × (answer ≡ Err failed)

-- the last datagram that a link says a take gave
abbrev pub last_taken : Option (List LinkCall) → Option (Addr × List ℕ)
last_taken None = None
last_taken (Some calls) = last_or None (datagrams calls)
