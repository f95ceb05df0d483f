use Rattle.std.proofs.Common.{refl, sym, subst}
use Rattle.std.specs.Prelude.{IfOk}
use Rattle.relay_outside.specs.declared.settings.Config.{Config}
use Rattle.relay_core.specs.Turns.{made_by}
use Rattle.media_lane.specs.Lanes.{packet_of}
use Rattle.media_lane.specs.Steps.{IsIn, RelaysBy, KeepsOthers}
use Rattle.replay_steps.specs.Receipts.{taken_with_pair}
use Rattle.replay_steps.proofs.Holdings.{receipts_passed}
use Rattle.replay_steps.proofs.Steps.{moved_between, ready_again}
use Rattle.replay_steps.proofs.line_packet.pass.Goals as goal

pub relay_between-outcome-requires : goal.relay_between-outcome-requires
relay_between-outcome-requires g c =
    let replayer = c.args.replayer.now in
    let ready = c.requires.ready in
    record {
      between = moved_between replayer.server.config replayer.config replayer.server.turns c.turns.result.now c.args.state.hand (sym ready.config_is) (sym c.turns.ensures) ready.between;
      receipt = subst (λ (k : Config). IsIn k (made_by c.args.state.hand) (taken_with_pair c.args.receipt)) (sym ready.config_is) c.requires.receipt;
    }

pub returns-then-not-note_send : goal.returns-then-not-note_send
returns-then-not-note_send g c =
    let replayer = c.args.replayer.now in
    let config = replayer.server.config in
    let state = c.args.state in
    let hand = c.relay_between-outcome.result.2 in
    let relayed = c.relay_between-outcome.ensures in
    let ready = c.requires.ready in
    let keeps = subst (λ (k : Config). KeepsOthers k (made_by state.hand) (taken_with_pair c.args.receipt) (made_by hand)) ready.config_is relayed.others in
    record {
      same = relayed.same;
      ready = ready_again replayer state _ ready relayed.same (moved_between replayer.config config c.turns.result.now replayer.server.turns hand ready.config_is c.turns.ensures relayed.between) relayed.board refl refl
          (receipts_passed config (made_by state.hand) (made_by hand) c.args.receipt state.receipts.list keeps c.requires.apart ready.receipts);
      receipts_are = refl;
      clock_is = refl;
      relays = λ seed. record { outcome = c.relay_between-outcome.result.0; relayed = relayed.relayed; sends = c.note_send.ensures.other c.if-not-note_send.true };
    }

pub returns-in-Ok : goal.returns-in-Ok
returns-in-Ok g c =
    let replayer = c.args.replayer.now in
    let config = replayer.server.config in
    let state = c.args.state in
    let l = made_by state.hand in
    let hand = c.relay_between-outcome.result.2 in
    let relayed = c.relay_between-outcome.ensures in
    let ready = c.requires.ready in
    let keeps = subst (λ (k : Config). KeepsOthers k l (taken_with_pair c.args.receipt) (made_by hand)) ready.config_is relayed.others in
    let by = subst (λ (k : Config). RelaysBy k l (packet_of c.args.receipt) state.clock c.relay_between-outcome.result.0 c.in-Ok.bytes.list (made_by hand)) ready.config_is
    (subst (λ sent. IfOk sent (λ bytes. RelaysBy replayer.config l (packet_of c.args.receipt) state.clock c.relay_between-outcome.result.0 bytes.list (made_by hand))) c.in-Ok.is
    (relayed.demanded ready.all)) in
    record {
      same = relayed.same;
      ready = ready_again replayer state _ ready relayed.same (moved_between replayer.config config c.turns.result.now replayer.server.turns hand ready.config_is c.turns.ensures relayed.between) relayed.board refl refl
          (receipts_passed config l (made_by hand) c.args.receipt state.receipts.list keeps c.requires.apart ready.receipts);
      receipts_are = refl;
      clock_is = refl;
      relays = λ seed past s.
          let noted = c.note_send.ensures.asked c.if-not-note_send.false config seed by.history (packet_of c.args.receipt) by.outcome_is past s in (
            noted.0,
            record { outcome = c.relay_between-outcome.result.0; sent = c.in-Ok.bytes.list; printed = refl; relayed = by; asked = noted.1 },
            noted.2,
          );
    }

pub returns-in-Err : goal.returns-in-Err
returns-in-Err g c =
    let replayer = c.args.replayer.now in
    let config = replayer.server.config in
    let state = c.args.state in
    let hand = c.relay_between-outcome.result.2 in
    let relayed = c.relay_between-outcome.ensures in
    let ready = c.requires.ready in
    let keeps = subst (λ (k : Config). KeepsOthers k (made_by state.hand) (taken_with_pair c.args.receipt) (made_by hand)) ready.config_is relayed.others in
    record {
      same = relayed.same;
      ready = ready_again replayer state _ ready relayed.same (moved_between replayer.config config c.turns.result.now replayer.server.turns hand ready.config_is c.turns.ensures relayed.between) relayed.board refl refl
          (receipts_passed config (made_by state.hand) (made_by hand) c.args.receipt state.receipts.list keeps c.requires.apart ready.receipts);
      receipts_are = refl;
      clock_is = refl;
      relays = λ seed. tt;
    }
