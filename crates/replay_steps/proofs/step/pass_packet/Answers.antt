use Rattle.std.proofs.Common.{◌∙◌, refl, sym, subst, ℕ}
use Rattle.relay_core.specs.Turns.{made_by}
use Rattle.relay_script.specs.EventLines.{event_of}
use Rattle.relay_script.specs.Steps as line
use Rattle.replay_devices.specs.Watch.{WatchState, WatchStandsFor}
use Rattle.replay_steps.specs.declared.line_packet.Arrived.{Arrived}
use Rattle.replay_steps.specs.declared.step.Stepped.TheVariants as stepped
use Rattle.replay_steps.specs.Arrivals.{IsGoodArrival}
use Rattle.replay_steps.specs.Receipts.{ReceiptList, IsApart, taken_with_pair}
use Rattle.replay_steps.specs.Ready.{course_at}
use Rattle.replay_steps.specs.Steps.{Arrives}
use Rattle.replay_steps.specs.WatchNotes.{RelaysSo}
use Rattle.replay_steps.proofs.Courses.{passed, passes_none}
use Rattle.replay_steps.proofs.Holdings.{all_apart}
use Rattle.replay_steps.proofs.Steps.{steps_at, as_many}
use Rattle.replay_steps.proofs.step.pass_packet.Goals as goal

pub pass-event-requires : goal.pass-event-requires
pass-event-requires g c =
    let k = c.args.replayer.now.server.config in
    let state = c.args.state in
    let l = made_by state.hand in
    let arrived = c.arrive-arrived.ensures in
    let good = subst (λ (a : Arrived). IsGoodArrival k l a (made_by c.arrive-arrived.result.1.hand)) c.in-Packet.is arrived.good in
    record {
      ready = arrived.ready;
      receipt = good.0;
      apart = subst (λ (w : ReceiptList). IsApart c.in-Packet.receipt w.list) (sym arrived.receipts_are) (all_apart k l c.in-Packet.receipt state.receipts.list good.1 c.requires.ready.receipts);
    }

pub returns-in-Packet : goal.returns-in-Packet
returns-in-Packet g c =
    let k = c.args.replayer.now.server.config in
    let state = c.args.state in
    let l = made_by state.hand in
    let mid = c.arrive-arrived.result.1 in
    let last = c.pass-event.result.1 in
    let r = c.in-Packet.receipt in
    let event = c.pass-event.result.0 in
    let a = c.arrive-arrived.ensures in
    let p = c.pass-event.ensures in
    let held = p.receipts_are ∙ a.receipts_are in
    record {
      same = (p.same.0 ∙ a.same.0, p.same.1 ∙ a.same.1, p.same.2 ∙ a.same.2, p.same.3 ∙ a.same.3);
      ready = p.ready;
      received = as_many state last state.receipts held refl;
      differs = λ q. refl;
      steps = λ seed.
          steps_at k seed (line.Packet c.args.packet.port c.args.packet.source c.args.packet.bytes.now) c.tell_event.result (course_at state) state.watch state.receipts state.clock last held
          (p.clock_is ∙ a.clock_is)
          (passed k seed l state.receipts state.clock state.watch last.watch c.args.packet.port c.args.packet.source c.args.packet.bytes.now r (made_by mid.hand) (made_by last.hand) event c.tell_event.result a.failing
          c.tell_event.ensures (λ past s. a.asked seed past s)
          (subst (λ (x : Arrived). Arrives k l c.args.packet.port c.args.packet.source c.args.packet.bytes.now a.failing x (made_by mid.hand)) c.in-Packet.is a.arrives)
          (subst (λ (n : ℕ). RelaysSo k seed n (made_by mid.hand) (taken_with_pair r) event state.watch last.watch (made_by last.hand)) a.clock_is
          (subst (λ (w : WatchState). RelaysSo k seed mid.clock (made_by mid.hand) (taken_with_pair r) event w last.watch (made_by last.hand)) a.watch_is (p.relays seed))));
    }

pub returns-in-Printed : goal.returns-in-Printed
returns-in-Printed g c =
    let k = c.args.replayer.now.server.config in
    let state = c.args.state in
    let after = c.arrive-arrived.result.1 in
    let arrived = c.arrive-arrived.ensures in
    let did = stepped.Prints c.in-Printed.event in
    record {
      same = arrived.same;
      ready = arrived.ready;
      received = as_many state after state.receipts arrived.receipts_are refl;
      differs = λ q. refl;
      steps = λ seed.
          steps_at k seed (line.Packet c.args.packet.port c.args.packet.source c.args.packet.bytes.now) did (course_at state) state.watch state.receipts state.clock after arrived.receipts_are arrived.clock_is
          (λ past s. (
            past,
            passes_none k seed (made_by state.hand) state.receipts state.clock past arrived.failing (arrived.asked seed past s) c.args.packet.port c.args.packet.source c.args.packet.bytes.now
                (event_of c.in-Printed.event) (made_by after.hand)
                (subst (λ (a : Arrived). Arrives k (made_by state.hand) c.args.packet.port c.args.packet.source c.args.packet.bytes.now arrived.failing a (made_by after.hand)) c.in-Printed.is arrived.arrives),
            subst (λ (w : WatchState). WatchStandsFor k seed past w) (sym arrived.watch_is) s,
          ));
    }

pub returns-in-Untold : goal.returns-in-Untold
returns-in-Untold g c =
    let arrived = c.arrive-arrived.ensures in
    record {
      same = arrived.same;
      ready = arrived.ready;
      received = as_many c.args.state c.arrive-arrived.result.1 c.args.state.receipts arrived.receipts_are refl;
      differs = λ q. refl;
      steps = λ seed. tt;
    }
