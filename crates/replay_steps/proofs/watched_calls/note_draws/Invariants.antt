use Rattle.std.proofs.Common.{ℕ, take}
use Rattle.relay_outside.specs.declared.settings.Config.{Config}
use Rattle.replay_steps.specs.Steps.{DrawsAsked}
use Rattle.replay_steps.specs.WatchNotes.{Watches}
use Rattle.replay_steps.proofs.watched_calls.note_draws.Given as goal

abbrev pub invariant-loop-call : goal.invariant-loop-call
invariant-loop-call l = (config : Config) (seed : ℕ) → Watches config seed l.fn.watch l.watch (DrawsAsked seed (take l.call-index l.calls))
