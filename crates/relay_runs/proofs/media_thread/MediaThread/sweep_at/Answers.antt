use Rattle.std.proofs.Common.{◌≡◌, ◌∙◌, subst, arith, ◌<◌, length, slice_index_or}
use Rattle.std.proofs.lemmas.List.{get_or_default}
use Rattle.relay_runs.specs.Threads.{Swept}
use Rattle.relay_runs.proofs.Swept.{each_at, this_at, of_table_at, each_unswept}
use Rattle.relay_runs.proofs.media_thread.MediaThread.sweep_at.Goals as goal

within : (g : _) (c : goal.After-self-1 g) → c.args.at < length c.args.self.now.lanes.items
within g c = (let true = c.if-at-len.true in let long = c.len.ensures in omega (arith, true, long))

-- the lane that was swept is the one at this place
swept : (g : _) (c : goal.After-self-1 g) (d : _) → Swept 1 (g.C.Clock.range c.args.media.now.clock.now) (g.G.Gate.passed c.args.media.now.gate.now) (slice_index_or c.args.self.now.lanes.items c.args.at d) c.sweep.new.self
swept g c d =
    let same : c.index_mut.result.now ≡ slice_index_or c.args.self.now.lanes.items c.args.at d =
    c.index_mut.ensures.value ∙ get_or_default c.args.self.now.lanes.items c.args.at c.index_mut.result.now d (within g c) in
    subst (λ own. Swept 1 (g.C.Clock.range c.args.media.now.clock.now) (g.G.Gate.passed c.args.media.now.gate.now) own c.sweep.new.self) same c.sweep.ensures

pub returns-then-at-len-clause-each : goal.returns-then-at-len-clause-each
returns-then-at-len-clause-each g c = each_at (g.C.Clock.range c.args.media.now.clock.now) (g.G.Gate.passed c.args.media.now.gate.now) c.args.self.now.lanes.items c.args.at c.sweep.new.self (within g c) (swept g c)

pub returns-then-at-len-clause-this : goal.returns-then-at-len-clause-this
returns-then-at-len-clause-this g c d lt = this_at (g.C.Clock.range c.args.media.now.clock.now) (g.G.Gate.passed c.args.media.now.gate.now) c.args.self.now.lanes.items c.args.at c.sweep.new.self (within g c) (swept g c) d

pub returns-then-at-len-clause-table : goal.returns-then-at-len-clause-table
returns-then-at-len-clause-table g c = of_table_at (g.C.Clock.range c.args.media.now.clock.now) (g.G.Gate.passed c.args.media.now.gate.now) c.args.self.now.lanes.items c.args.at c.sweep.new.self (within g c) (swept g c) c.args.turns.now c.requires

pub returns-else-at-len-clause-each : goal.returns-else-at-len-clause-each
returns-else-at-len-clause-each g c = each_unswept (g.C.Clock.range c.args.media.now.clock.now) (g.G.Gate.passed c.args.media.now.gate.now) c.args.self.now.lanes.items
