use Rattle.std.proofs.Common.{refl, subst, arith}
use Rattle.relay_outside.specs.declared.settings.Config.{Config}
use Rattle.relay_core.specs.Turns.{made_by}
use Rattle.replay_steps.specs.WatchNotes.{WatchesTurn}
use Rattle.replay_steps.proofs.Commands.{commanded}
use Rattle.replay_steps.proofs.Steps.{ready_after}
use Rattle.replay_steps.proofs.step.control.Goals as goal

pub returns-then-not-note_calls : goal.returns-then-not-note_calls
returns-then-not-note_calls g c =
    let turn = c.make_turn-event.ensures in
    record {
      same = turn.same;
      ready = ready_after c.args.replayer.now c.args.state.now _ c.requires.ready turn.same turn.between turn.open turn.receipts refl;
      received = omega arith;
      differs = λ q. refl;
      steps = λ seed. tt;
    }

pub returns : goal.returns
returns g c =
    let config = c.args.replayer.now.server.config in
    let turn = c.make_turn-event.ensures in
    let state = c.args.state.now in
    record {
      same = turn.same;
      ready = ready_after c.args.replayer.now state _ c.requires.ready turn.same turn.between turn.open turn.receipts refl;
      received = omega arith;
      differs = λ q. refl;
      steps = λ seed.
          commanded config seed (made_by state.hand) (made_by c.make_turn-event.new.hand) state.clock c.args.source c.args.bytes.now state.receipts c.fails-read_fails.result c.fails-reply_fails.result
          state.watch c.note_calls.new.watch c.note_reply.new.watch state.devices.ports.log c.make_turn-event.new.devices.ports.log state.devices.keys.log c.make_turn-event.new.devices.keys.log
          c.count_openings-opened.result c.count_draws-drawn.result (c.fails-read_fails.ensures config seed) (c.fails-reply_fails.ensures config seed) c.count_openings-opened.ensures c.count_draws-drawn.ensures
          (subst (λ (k : Config). WatchesTurn k seed c.make_turn-event.new.devices.ports.log c.count_openings-opened.result c.make_turn-event.new.devices.keys.log c.count_draws-drawn.result state.watch c.note_calls.new.watch)
          c.requires.ready.config_is (c.note_calls.ensures c.if-not-note_calls.false seed))
          c.make_turn-event.result c.tell_event.result c.tell_event.ensures turn.controls (λ e is. c.note_reply.ensures e is config seed);
    }
