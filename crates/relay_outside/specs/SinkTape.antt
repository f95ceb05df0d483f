-- What the log of the line sink in memory says.
use Rattle.std.specs.Prelude.{Option, List}
use Rattle.relay_outside.specs.declared.lines.WriteCall.{WriteCall}
use Rattle.relay_outside.specs.Failures.{Failures}

-- a line sink in memory whose writes may fail
pub record SinkState : Type 0 where
  pub log : Option (List WriteCall)
  pub failures : Failures
