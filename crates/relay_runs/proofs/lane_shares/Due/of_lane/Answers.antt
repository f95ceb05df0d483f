use Rattle.std.proofs.Common.{◌∙◌, ◌*◌, ap, arith}
use Rattle.relay_runs.specs.Threads.{pairs_of_lane}
use Rattle.relay_runs.proofs.Dues.{lane_some}
use Rattle.relay_runs.proofs.lane_shares.Due.of_lane.Goals as goal

pub returns : goal.returns
returns c =
    let within = c.if-index-self.false in
    let some = lane_some c.args.self.pairs c.args.lanes c.args.index (omega (arith, within)) c.requires in
    ap (λ n. n * c.from-2.result) (c.from.ensures ∙ some) ∙ ap (λ n. pairs_of_lane c.args.self.pairs c.args.lanes c.args.index * n) c.from-2.ensures
