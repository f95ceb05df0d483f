use Rattle.std.proofs.Common.{◌≡◌, refl, ap, arith}
use Rattle.relay_core.specs.Turns.{made_by}
use Rattle.board_turns.specs.Between.{board_of}
use Rattle.board_turns.specs.Ticks.{tick_entry}
use Rattle.relay_script.specs.declared.event.Printed.TheVariants as printed
use Rattle.relay_script.specs.EventLines as event
use Rattle.relay_script.specs.Steps as line
use Rattle.replay_steps.specs.declared.ended.Untold.TheVariants as untold
use Rattle.replay_steps.specs.declared.step.Stepped.TheVariants as stepped
use Rattle.replay_steps.specs.Steps.{course_of, OfStep}
use Rattle.replay_steps.proofs.Controls.{turns_board}
use Rattle.replay_steps.proofs.Steps.{ready_after}
use Rattle.replay_steps.proofs.Turned.{makes_keeps}
use Rattle.replay_steps.proofs.Watchings.{steps_unwatched}
use Rattle.replay_steps.proofs.step.tick.Goals as goal

pub returns : goal.returns
returns g c =
    let replayer = c.args.replayer.now in
    let config = replayer.server.config in
    let turns = replayer.server.turns in
    let state = c.args.state.now in
    let old = state.hand in
    let new = c.timer_turn-ended.new.hand in
    let turn = c.timer_turn-ended.ensures in
    let ticks = turn.ticks in
    let entry = tick_entry (board_of (made_by old)) state.clock ticks.calls in
    let did = stepped.Prints (printed.Ended c.timer_turn-ended.result) in
    record {
      same = turn.same;
      ready = ready_after replayer state _ c.requires.ready turn.same turn.between turn.open (makes_keeps config turns old new entry c.requires.ready.between ticks.makes) refl;
      received = omega arith;
      differs = λ q. absurd (let k : did ≡ stepped.Untold untold.DeviceFault = q in cc);
      steps = λ seed.
          steps_unwatched config seed did state.watch
          (λ past past_now. OfStep config seed (course_of (made_by old) state.receipts state.clock past) line.Tick did (course_of (made_by new) state.receipts state.clock past_now))
          (λ past s. record {
            event = event.Ended c.timer_turn-ended.result;
            prints_are = refl;
            holds = record {
              entries = made_by new;
              ticks = record {
                calls = ticks.calls;
                turns = turns_board config old new entry ticks.makes;
                due = ticks.due c.requires.ready.all;
                printed = ap event.Ended ticks.count_is;
              };
              new_is = refl;
            };
          });
    }
