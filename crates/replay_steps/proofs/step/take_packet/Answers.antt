use Rattle.std.proofs.Common.{◌≡◌, ◌+◌, ◌<◌, ◌≤◌, ◌^◌, refl, sym, subst, ap, ℕ, List, [], ◌∷◌, ◌++◌, length, false, arith}
use Rattle.std.specs.Prelude.{IsTrue}
use Rattle.relay_core.specs.Turns.{made_by}
use Rattle.relay_script.specs.EventLines as event
use Rattle.relay_script.specs.EventLines.{event_of}
use Rattle.relay_script.specs.Steps as line
use Rattle.replay_devices.specs.Watch.{WatchState, WatchStandsFor}
use Rattle.replay_steps.specs.declared.line_packet.Arrived.{Arrived}
use Rattle.replay_steps.specs.declared.step.Stepped.TheVariants as stepped
use Rattle.replay_steps.specs.Arrivals.{IsGoodArrival}
use Rattle.replay_steps.specs.Receipts.{NumberedReceipt, ReceiptList, AreReceipts}
use Rattle.replay_steps.specs.Ready.{course_at}
use Rattle.replay_steps.specs.Steps.{Arrives, Makes, course_of}
use Rattle.replay_steps.proofs.Courses.{many_held, holds_packet, holds_none}
use Rattle.replay_steps.proofs.Holdings.{all_apart, receipts_pushed}
use Rattle.replay_steps.proofs.Steps.{ready_holding, stays, steps_at, as_many}
use Rattle.replay_steps.proofs.step.take_packet.Goals as goal

pub returns-then-is_full : goal.returns-then-is_full
returns-then-is_full g c =
    stays c.args.replayer.now (line.Take c.args.packet.port c.args.packet.source c.args.packet.bytes.now) stepped.Faulty c.args.state c.requires.ready
    (λ q. refl) (λ seed past. (many_held c.args.state.receipts.list (c.if-is_full.ensures.0 refl), refl))

pub keep-number-requires : goal.keep-number-requires
keep-number-requires g c =
    let arrived = c.arrive-arrived.ensures in
    let few : 64 ≤ length c.args.state.receipts.list → ⊥ = λ more. absurd (let k : IsTrue false = c.if-is_full.ensures.1 more in cc) in
    let room = arrived.ready.room in
    let as_long = ap (λ (w : ReceiptList). length w.list) arrived.receipts_are in
    record {
      room = omega (arith, few, room, as_long);
      number = subst (λ (w : ReceiptList). w.received + 1 < 2 ^ 32) (sym arrived.receipts_are) c.requires.number;
    }

pub returns-in-Packet : goal.returns-in-Packet
returns-in-Packet g c =
    let replayer = c.args.replayer.now in
    let k = replayer.server.config in
    let state = c.args.state in
    let was = state.receipts in
    let after = c.arrive-arrived.result.1 in
    let arrived = c.arrive-arrived.ensures in
    let new = made_by after.hand in
    let r = c.in-Packet.receipt in
    let now = c.keep-number.new.self in
    let n = c.keep-number.result in
    let good = subst (λ (a : Arrived). IsGoodArrival k (made_by state.hand) a new) c.in-Packet.is arrived.good in
    let list = subst (λ (w : ReceiptList). now.list ≡ w.list ++ (w.received + 1, r) ∷ []) arrived.receipts_are c.keep-number.ensures.list in
    let number = subst (λ (w : ReceiptList). n ≡ w.received + 1) arrived.receipts_are c.keep-number.ensures.number in
    let received = subst (λ (w : ReceiptList). now.received ≡ w.received + 1) arrived.receipts_are c.keep-number.ensures.received in
    let held = subst (λ (w : ReceiptList). AreReceipts k new w.list) arrived.receipts_are arrived.ready.receipts in
    record {
      same = arrived.same;
      ready = ready_holding replayer after now arrived.ready
          (subst (λ (xs : List NumberedReceipt). AreReceipts k new xs) (sym list) (receipts_pushed k new was.list (_, r) held good.0 (all_apart k (made_by state.hand) r was.list good.1 c.requires.ready.receipts)))
          c.keep-number.ensures.room;
      received = omega (arith, received);
      differs = λ q. refl;
      steps = λ seed past s. (
        past,
        subst (λ (m : ℕ). Makes k seed (course_at state past) (line.Take c.args.packet.port c.args.packet.source c.args.packet.bytes.now) (event.Took n ∷ []) (course_of new now m past)) (sym arrived.clock_is)
            (holds_packet k seed (made_by state.hand) was state.clock past arrived.failing (arrived.asked seed past s) c.args.packet.port c.args.packet.source c.args.packet.bytes.now r n new now
            (λ more. absurd (let k : IsTrue false = c.if-is_full.ensures.1 more in cc))
            (subst (λ (a : Arrived). Arrives k (made_by state.hand) c.args.packet.port c.args.packet.source c.args.packet.bytes.now arrived.failing a new) c.in-Packet.is arrived.arrives)
            number list received),
        subst (λ (w : WatchState). WatchStandsFor k seed past w) (sym arrived.watch_is) s,
      );
    }

pub returns-in-Printed : goal.returns-in-Printed
returns-in-Printed g c =
    let k = c.args.replayer.now.server.config in
    let state = c.args.state in
    let after = c.arrive-arrived.result.1 in
    let arrived = c.arrive-arrived.ensures in
    let did = stepped.Prints c.in-Printed.event in
    record {
      same = arrived.same;
      ready = arrived.ready;
      received = as_many state after state.receipts arrived.receipts_are refl;
      differs = λ q. refl;
      steps = λ seed.
          steps_at k seed (line.Take c.args.packet.port c.args.packet.source c.args.packet.bytes.now) did (course_at state) state.watch state.receipts state.clock after arrived.receipts_are arrived.clock_is
          (λ past s. (
            past,
            holds_none k seed (made_by state.hand) state.receipts state.clock past arrived.failing (arrived.asked seed past s) c.args.packet.port c.args.packet.source c.args.packet.bytes.now
                (event_of c.in-Printed.event) (made_by after.hand) (λ more. absurd (let k : IsTrue false = c.if-is_full.ensures.1 more in cc))
                (subst (λ (a : Arrived). Arrives k (made_by state.hand) c.args.packet.port c.args.packet.source c.args.packet.bytes.now arrived.failing a (made_by after.hand)) c.in-Printed.is arrived.arrives),
            subst (λ (w : WatchState). WatchStandsFor k seed past w) (sym arrived.watch_is) s,
          ));
    }

pub returns-in-Untold : goal.returns-in-Untold
returns-in-Untold g c =
    let arrived = c.arrive-arrived.ensures in
    record {
      same = arrived.same;
      ready = arrived.ready;
      received = as_many c.args.state c.arrive-arrived.result.1 c.args.state.receipts arrived.receipts_are refl;
      differs = λ q. refl;
      steps = λ seed. tt;
    }
