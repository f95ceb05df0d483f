use Rattle.std.proofs.Common.{◌+◌, arith, rules}
use Rattle.std.proofs.lemmas.List.Sorted.{IsNonDecreasingBy-from_sort_by_key}
use Rattle.media_lane.specs.Lanes.{index_in}
use Rattle.relay_runs.proofs.LaneOrder.{in_order}
use Rattle.relay_runs.proofs.lane_shares.put_in_order.Goals as goal

pub returns-clause-in_order : goal.returns-clause-in_order
returns-clause-in_order g c =
    let sorted = c.sort_unstable_by_key.new.self.items in
    let up = IsNonDecreasingBy-from_sort_by_key (λ own. index_in own.lane) sorted c.sort_unstable_by_key.ensures.sorted (λ a r f' called. search rules) in
    in_order c.args.lanes.now.items sorted c.sort_unstable_by_key.ensures.permutation c.requires.once (λ k d lt. up k (k + 1) d (omega arith) lt)
