-- The lines of a script, as the steps that they ask for.
use Rattle.std.specs.Prelude.{ℕ, List}
use Rattle.relay_outside.specs.declared.address.Addr.{Addr}

-- what a line `fail` makes fail: an open of the port maker, a draw of the key source, a send of the control link, the take of
-- the control link for a line `ng`, the take of an in end for a line `take` or `packet`
pub data FailKind : Type 0 where
  Opening : FailKind
  Drawing : FailKind
  Replying : FailKind
  Reading : FailKind
  Taking : FailKind

-- One line: an empty one or a comment; a moment for the clock; the 30 bytes of a key for the next draw; a failure, counted
-- from now; a failure of a send of the end that the next open of a port makes; a datagram for the control link; a packet that
-- arrives at a port and is received; the relay of a receipt; both in one; a tick
pub data ReplayStep : Type 0 where
  Skip : ReplayStep
  At : (moment : ℕ) → ReplayStep
  Key : (bytes : List ℕ) → ReplayStep
  Fail : FailKind → (count : ℕ) → ReplayStep
  FailSend : (port : ℕ) → (count : ℕ) → ReplayStep
  Ng : (source : Addr) → (bytes : List ℕ) → ReplayStep
  Take : (port : ℕ) → (source : Addr) → (bytes : List ℕ) → ReplayStep
  Relay : (receipt : ℕ) → ReplayStep
  Packet : (port : ℕ) → (source : Addr) → (bytes : List ℕ) → ReplayStep
  Tick : ReplayStep
