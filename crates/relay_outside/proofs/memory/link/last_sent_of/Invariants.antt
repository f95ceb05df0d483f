use Rattle.std.proofs.Common.{◌≡◌, take, Some, None}
use Rattle.std.specs.Prelude.{MatchOption}
use Rattle.std.specs.List.{last_or}
use Rattle.relay_outside.specs.Link.{sent}
use Rattle.relay_outside.proofs.memory.link.last_sent_of.Given as goal

abbrev pub invariant-loop-call : goal.invariant-loop-call
invariant-loop-call l = MatchOption l.found (last_or None (sent (take l.call-index l.calls)) ≡ None) (λ found. last_or None (sent (take l.call-index l.calls)) ≡ Some (found.0, found.1.now))
