use Rattle.std.proofs.Common.{◌≡◌, true}
use Rattle.command_line.specs.Refusals.{begins_usage}
use Rattle.command_line.proofs.refusal.usage_line.Given as goal

-- the line so far begins as it has to
abbrev pub invariant-loop-part : goal.invariant-loop-part
invariant-loop-part l = begins_usage l.line.bytes.items ≡ true
