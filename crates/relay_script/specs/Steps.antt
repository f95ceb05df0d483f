-- The steps of a script, their datagrams and packets as lists of bytes.
use Rattle.std.specs.Prelude.{ℕ, List}
use Rattle.relay_outside.specs.declared.address.Addr.{Addr}
use Rattle.relay_script.specs.declared.step.FailKind.{FailKind}
use Rattle.relay_script.specs.declared.step.Step as coded
use Rattle.relay_script.specs.declared.step.Step.TheVariants as code

-- One line: an empty one or a comment; a moment for the clock; the 30 bytes of a key for the next draw; a failure, counted
-- from now; a failure of a send of the end that the next open of a port makes; a datagram for the control link; a packet that
-- arrives at a port and is received; the relay of a receipt; both in one; a tick
pub data Step : Type 0 where
  Skip : Step
  At : (moment : ℕ) → Step
  Key : (bytes : List ℕ) → Step
  Fail : FailKind → (count : ℕ) → Step
  FailSend : (port : ℕ) → (count : ℕ) → Step
  Ng : (source : Addr) → (bytes : List ℕ) → Step
  Take : (port : ℕ) → (source : Addr) → (bytes : List ℕ) → Step
  Relay : (receipt : ℕ) → Step
  Packet : (port : ℕ) → (source : Addr) → (bytes : List ℕ) → Step
  Tick : Step

-- what a step of the code stands for
abbrev pub step_meaning : coded.Step → Step
step_meaning code.Skip = Skip
step_meaning (code.At moment) = At moment
step_meaning (code.Key bytes) = Key bytes
step_meaning (code.Fail kind count) = Fail kind count
step_meaning (code.FailSend port count) = FailSend port count
step_meaning (code.Ng source bytes) = Ng source bytes.list
step_meaning (code.Take port source bytes) = Take port source bytes.list
step_meaning (code.Relay receipt) = Relay receipt
step_meaning (code.Packet port source bytes) = Packet port source bytes.list
step_meaning code.Tick = Tick
