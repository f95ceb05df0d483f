use Rattle.std.proofs.Common.{arith, sym, ◌+◌, ◌*◌, ◌/◌, ◌-◌}
use Rattle.replay_window.specs.Indices.{nearest_lifted}
use Rattle.replay_window.proofs.Nearest.{nearest_own, nearest_before, nearest_after, as_at, as_below, as_beyond}
use Rattle.replay_window.proofs.window.near_to.Goals as goal

pub returns-then-cycle-eq0 : goal.returns-then-cycle-eq0
returns-then-cycle-eq0 c =
    let is = nearest_before c.args.greatest c.args.seq (omega arith) (omega arith) in
    sym (as_below (nearest_lifted c.args.greatest c.args.seq) (omega (arith, is)))

pub returns-else-cycle-eq0 : goal.returns-else-cycle-eq0
returns-else-cycle-eq0 c =
    let is = nearest_before c.args.greatest c.args.seq (omega arith) (omega arith) in
    sym (as_at (c.args.greatest / 65536 * 65536 + c.args.seq - 65536) (nearest_lifted c.args.greatest c.args.seq) (omega (arith, is)) (omega (arith, is)))

pub returns-then-cycle-eq-CYCLES : goal.returns-then-cycle-eq-CYCLES
returns-then-cycle-eq-CYCLES c =
    let is = nearest_after c.args.greatest c.args.seq (omega arith) (omega arith) in
    sym (as_beyond (nearest_lifted c.args.greatest c.args.seq) (omega (arith, is)))

pub returns-else-cycle-eq-CYCLES : goal.returns-else-cycle-eq-CYCLES
returns-else-cycle-eq-CYCLES c =
    let is = nearest_after c.args.greatest c.args.seq (omega arith) (omega arith) in
    sym (as_at (c.args.greatest / 65536 * 65536 + c.args.seq + 65536) (nearest_lifted c.args.greatest c.args.seq) (omega (arith, is)) (omega (arith, is)))

pub returns-else-seq-last : goal.returns-else-seq-last
returns-else-seq-last c =
    let is = nearest_own c.args.greatest c.args.seq (omega arith) (omega arith) (omega arith) in
    sym (as_at (c.args.greatest / 65536 * 65536 + c.args.seq) (nearest_lifted c.args.greatest c.args.seq) (omega (arith, is)) (omega (arith, is)))
