use Rattle.std.proofs.Common.{arith, rules}
use Rattle.relay_runs.specs.Threads.{Swept}
use Rattle.relay_runs.proofs.Each.{each_both, below_next, each_below}
use Rattle.relay_runs.proofs.Swept.{swept_both, each_unswept}
use Rattle.relay_runs.proofs.media_thread.MediaThread.sweep_all.Goals as goal

pub loop-at-init : goal.loop-at-init
loop-at-init g c = record {
  to_end = search rules;
  each = each_unswept (g.C.Clock.range c.args.media.now.clock.now) (g.G.Gate.passed c.args.media.now.gate.now) c.args.self.now.lanes.items;
  below = λ i d lt. absurd (omega (arith, lt));
  table = c.requires;
}

pub loop-at-preserved : goal.loop-at-preserved
loop-at-preserved g c =
    let range = g.C.Clock.range c.args.media.now.clock.now in
    let gate = g.G.Gate.passed c.args.media.now.gate.now in
    let so_far = c.loop-at.invariant in
    let step = c.sweep_at.ensures in
    let lt = so_far.to_end in
    record {
      to_end = so_far.to_end;
      each = each_both (Swept 0 range gate) (Swept 0 range gate) (Swept 0 range gate) (swept_both range gate 0 0) _ _ _ so_far.each step.each;
      below = below_next (Swept 0 range gate) (Swept 1 range gate) (swept_both range gate 0 1) (swept_both range gate 1 0) c.loop-at.at _ _ _ (omega (arith, lt)) so_far.each step.each so_far.below
          step.this;
      table = step.table;
    }

pub returns-clause-each : goal.returns-clause-each
returns-clause-each g c =
    let range = g.C.Clock.range c.args.media.now.clock.now in
    let gate = g.G.Gate.passed c.args.media.now.gate.now in
    let so_far = c.loop-at.invariant in
    let to_end = so_far.to_end in
    each_below (Swept 0 range gate) (Swept 1 range gate) c.loop-at.at _ _ (omega (arith, to_end)) so_far.each so_far.below
