use Rattle.std.proofs.Common.{refl, sym, subst, ap, List, arith}
use Rattle.relay_core.specs.Turns.{made_by}
use Rattle.relay_script.specs.Steps as line
use Rattle.replay_steps.specs.Receipts.{NumberedReceipt, ReceiptList, IsApart, AreReceipts}
use Rattle.replay_steps.specs.Ready.{course_at}
use Rattle.replay_steps.proofs.Courses.{relayed, lacks_under, same_receipts}
use Rattle.replay_steps.proofs.Holdings.{picked}
use Rattle.replay_steps.proofs.Steps.{ready_still, ready_holding, steps_at, as_many}
use Rattle.replay_steps.proofs.step.relay_receipt.Goals as goal

pub pass-event-requires : goal.pass-event-requires
pass-event-requires g c =
    let replayer = c.args.replayer.now in
    let k = replayer.server.config in
    let state = c.args.state in
    let l = made_by state.hand in
    let ready = c.requires.ready in
    let found = c.in-Some.ensures in
    let one = picked k l found.before (c.args.number, c.in-Some.receipt) found.after (subst (λ (list : List NumberedReceipt). AreReceipts k l list) found.old_is ready.receipts) in
    record {
      ready = ready_holding replayer state c.take.new.self ready (subst (λ (list : List NumberedReceipt). AreReceipts k l list) (sym found.new_is) one.others) found.room_is;
      receipt = one.is;
      apart = subst (λ (list : List NumberedReceipt). IsApart c.in-Some.receipt list) (sym found.new_is) one.apart;
    }

pub returns-in-Some : goal.returns-in-Some
returns-in-Some g c =
    let k = c.args.replayer.now.server.config in
    let state = c.args.state in
    let left = c.take.new.self in
    let last = c.pass-event.result.1 in
    let passed = c.pass-event.ensures in
    let found = c.in-Some.ensures in
    record {
      same = passed.same;
      ready = passed.ready;
      received = as_many state last left passed.receipts_are found.received_is;
      differs = λ q. refl;
      steps = λ seed.
          steps_at k seed (line.Relay c.args.number) c.tell_event.result (course_at state) state.watch left state.clock last passed.receipts_are passed.clock_is
          (relayed k seed (made_by state.hand) state.receipts state.clock state.watch last.watch c.args.number c.in-Some.receipt (made_by last.hand) left c.pass-event.result.0 c.tell_event.result
          c.tell_event.ensures found (passed.relays seed));
    }

pub returns-in-None : goal.returns-in-None
returns-in-None g c =
    let replayer = c.args.replayer.now in
    let state = c.args.state in
    let l = made_by state.hand in
    let nothing = c.in-None.ensures in
    let same_number = ap (λ (r : ReceiptList). r.received) nothing.0 in
    record {
      same = (refl, refl, refl, refl);
      ready = ready_still replayer state _ c.requires.ready refl refl nothing.0;
      received = omega (arith, same_number);
      differs = λ q. refl;
      steps = λ seed past s. (past, (lacks_under c.args.number state.receipts.list nothing.1, same_receipts l l state.receipts c.take.new.self state.clock past refl nothing.0), s);
    }
