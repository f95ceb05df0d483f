use Rattle.std.proofs.Common.{◌∙◌, ap, sym, ℕ, ◌+◌, map}
use Rattle.std.proofs.lemmas.List.{length-map}
use Rattle.relay_core.specs.Turns.{made_by}
use Rattle.board_turns.proofs.Betweens.{between_sound}
use Rattle.relay_script.specs.Steps.{step_meaning}
use Rattle.replay_steps.specs.Output.{DidSteps, DidFinish, DidPlay}
use Rattle.replay_steps.proofs.Courses.{stops}
use Rattle.replay_steps.proofs.Writings.{wrote_both, after_stop}
use Rattle.replay_steps.proofs.whole_replay.play.Goals as goal

pub returns-clause-log : goal.returns-clause-log
returns-clause-log g c seed stands =
    let config = c.args.replayer.server.config in
    let steps = map step_meaning c.args.steps.now in
    let ran = c.play_steps-ended.result.0 in
    let line = c.play_steps-ended.result.1 + 1 in
    let hand = c.play_steps-ended.result.2.hand in
    let how = c.args.ending in
    let end = c.end_replay-ended.result in
    let between = c.stop.ensures.between in
    let closed = c.close.ensures.legal between.parts (between_sound config c.args.replayer.server.turns c.stop.new.state.hand between) in
    wrote_both (g.O.LineSink.log c.args.out.now) (g.O.LineSink.log c.play_steps-ended.new.out) (g.O.LineSink.log c.end_replay-ended.new.out) (DidSteps config seed steps (made_by hand) ran)
    (DidFinish ran how line end) (DidPlay config seed steps how end)
    (after_stop config seed steps (made_by hand) line ran how end (λ q. ap (λ (k : ℕ). k + 1) (c.play_steps-ended.ensures.all q ∙ sym (length-map c.args.steps.now step_meaning))) (stops config hand c.stop.new.state.hand c.stop.ensures.makes (closed.0, closed.1, closed.2, closed.3)))
    (c.play_steps-ended.ensures.log seed stands) c.end_replay-ended.ensures.log
