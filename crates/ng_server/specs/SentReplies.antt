-- What the sending of a reply adds to the link's list.
use Rattle.std.specs.Prelude.{ℕ, List, Option, Result}
use Rattle.relay_outside.specs.declared.address.Addr.{Addr}
use Rattle.relay_outside.specs.declared.answers.Failed.{Failed}
use Rattle.relay_outside.specs.declared.link.LinkCall.{LinkCall}
use Rattle.relay_outside.specs.declared.link.LinkCall.TheVariants as call
use Rattle.relay_outside.specs.DeviceLogs.{Gains, is_done}

-- one send of these bytes, with this answer
abbrev pub SendsOnce : Addr → List ℕ → Result (Unit {0}) Failed → Option (List LinkCall) → Option (List LinkCall) → Type 0
SendsOnce to bytes result before after = Gains before after (call.Send to bytes (is_done result))
