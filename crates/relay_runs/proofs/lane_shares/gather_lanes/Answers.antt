use Rattle.std.proofs.Common.{◌∙◌, ap, sym, length, length-append, reverse, arith}
use Rattle.relay_runs.specs.Threads.{all_lanes}
use Rattle.relay_runs.proofs.MediaThreads.{next_length}
use Rattle.relay_runs.proofs.lane_shares.gather_lanes.Goals as goal

-- the list has room for the lanes of each thread that is left
pub unreachable-requires : goal.unreachable-requires
unreachable-requires g c =
    let xs = c.loop-thread.threads.items in
    let ys = c.pop.new.self.items in
    let over = c.in_default-append.ensures.full in
    let room = c.loop-thread.invariant.room in
    let more = next_length xs ys c.in-Some.thread c.in-Some.ensures.items in
    let long = sym (length-append c.loop-thread.lanes.items (all_lanes (reverse xs))) ∙ ap (λ zs. length zs) c.loop-thread.invariant.items in
    let here = c.loop-thread.lanes.ok.0 in
    let there = c.in-Some.thread.lanes.ok.0 in
    omega (arith, over, room, more, long, here, there)
