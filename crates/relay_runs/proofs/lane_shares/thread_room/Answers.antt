use Rattle.std.proofs.Common.{rules, ◌≡◌, ◌∙◌, ◌*◌, ap, arith}
use Rattle.relay_runs.specs.Threads.{pairs_before}
use Rattle.relay_runs.proofs.Dues.{all_shared, due_next, room_push}
use Rattle.relay_runs.proofs.lane_shares.thread_room.Goals as goal

pub loop-number-preserved : goal.loop-number-preserved
loop-number-preserved g c =
    let capacity = c.in_ok-lanes.ensures.capacity in
    record {
      as_many = search rules;
      capacity = search rules;
      room = room_push c.args.share.lanes c.loop-number.threads.items c.push_reserved.new.self.items _ c.push_reserved.ensures.items c.loop-number.invariant.room c.in_ok-lanes.ensures.items
          (omega (arith, capacity));
      due = λ all is.
          due_next c.loop-number.threads.items c.push_reserved.new.self.items _ all.pairs all.packets c.args.share.threads c.loop-number.number c.push_reserved.ensures.items
          (c.of_thread.ensures all is) (c.loop-number.invariant.due all is);
    }

pub returns-clause-due : goal.returns-clause-due
returns-clause-due g c all is some =
    let end : c.loop-number.number ≡ c.args.share.threads = search rules in
    c.loop-number.invariant.due all is
    ∙ ap (λ n. pairs_before all.pairs c.args.share.threads n * all.packets) end
    ∙ ap (λ n. n * all.packets) (all_shared all.pairs c.args.share.threads some)
