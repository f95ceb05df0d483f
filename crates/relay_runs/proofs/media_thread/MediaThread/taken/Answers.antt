use Rattle.std.proofs.Common.{arith}
use Rattle.relay_runs.proofs.Dues.{taken_next}
use Rattle.relay_runs.proofs.media_thread.MediaThread.taken.Goals as goal

pub loop-own-preserved : goal.loop-own-preserved
loop-own-preserved g c =
    let more = c.loop-own-test.true in
    let long = c.deref-own-items.ensures.len in
    record {
      items = c.deref-own-items.ensures.value;
      sum = taken_next c.args.self.now.lanes.items c.deref-own-items.result.now c.loop-own.own-index c.own-item.result c.loop-own.taken c.saturating_add-taken.result c.deref-own-items.ensures.value
          (omega (arith, more, long)) c.own-item.is c.loop-own.invariant.sum c.saturating_add-taken.ensures;
    }
