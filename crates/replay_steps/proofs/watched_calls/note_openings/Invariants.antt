use Rattle.std.proofs.Common.{ℕ, take}
use Rattle.replay_steps.specs.Steps.{OpensAsked}
use Rattle.replay_steps.specs.WatchNotes.{Watches}
use Rattle.replay_steps.proofs.watched_calls.note_openings.Given as goal

abbrev pub invariant-loop-call : goal.invariant-loop-call
invariant-loop-call l = (seed : ℕ) → Watches l.config seed l.fn.watch l.watch (OpensAsked l.config (take l.call-index l.calls))
