use Rattle.std.proofs.Common.{subst, List}
use Rattle.relay_outside.specs.declared.keys.KeyCall.{KeyCall}
use Rattle.relay_outside.specs.declared.ports.PortCall.{PortCall}
use Rattle.replay_steps.specs.Steps.{OpensAsked, DrawsAsked}
use Rattle.replay_steps.specs.WatchNotes.{Watches}
use Rattle.replay_steps.proofs.watched_calls.note_calls.Goals as goal

pub returns : goal.returns
returns c sent seed =
    let first = subst (λ (calls : List PortCall). Watches c.args.config.now seed c.args.watch.now c.note_openings.new.watch (OpensAsked c.args.config.now calls)) c.behind.ensures
    (c.note_openings.ensures c.if-not-note_openings.false seed) in
    let second = subst (λ (calls : List KeyCall). Watches c.args.config.now seed c.note_openings.new.watch c.note_draws.new.watch (DrawsAsked seed calls)) c.behind-2.ensures (c.note_draws.ensures sent c.args.config.now seed) in
    record {
      openings = c.in-Some.openings.now;
      draws = c.in-Some-calls.draws.now;
      ports_tell = c.in-Some.ensures;
      keys_tell = c.in-Some-calls.ensures;
      watches = λ past s.
          let opened = first past s in
          let drawn = second opened.0 opened.2 in
          (drawn.0, (opened.0, opened.1, drawn.1), drawn.2);
    }
