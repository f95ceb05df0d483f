use Rattle.std.proofs.Common.{◌≡◌, ◌-◌, ◌≤◌, ℕ, List, [], length}
use Rattle.turn_table.specs.Hands.{IsSameHand}
use Rattle.replay_devices.specs.Devices.{Happening}
use Rattle.replay_devices.specs.Watch.{WatchStandsFor}
use Rattle.replay_steps.specs.Ready.{IsReplayReady, course_at}
use Rattle.replay_steps.specs.Output.{Wrote}
use Rattle.replay_steps.proofs.Fronts.{upto}
use Rattle.replay_steps.proofs.Writings.{PlayedTo}
use Rattle.replay_steps.proofs.script_steps.play_steps.Given as goal

abbrev pub invariant-steps : goal.invariant-steps
invariant-steps g l = record {
  same : IsSameHand l.fn.state.hand l.state.hand;
  ready : IsReplayReady l.replayer l.state;
  received : l.state.receipts.received ≤ l.made;
  below : l.made ≤ length l.steps;
  numbered : l.line ≡ l.made;
  log : (seed : ℕ) → WatchStandsFor l.replayer.server.config seed [] l.fn.state.watch → (past : List Happening) × WatchStandsFor l.replayer.server.config seed past l.state.watch
      × Wrote (g.O.LineSink.log l.fn.out) (g.O.LineSink.log l.out) (PlayedTo l.replayer.server.config seed (upto l.made l.steps) (course_at l.state past));
  later : g.O.LineSink.faults l.fn.out ≤ g.O.LineSink.faults l.out;
}

abbrev pub decreases-steps : goal.decreases-steps
decreases-steps g l = length l.steps - l.made
