use Rattle.std.proofs.Common.{ℕ, List, length, ap, arith}
use Rattle.port_pool.proofs.Queue.{few_free, few_between}
use Rattle.port_pool.proofs.pairs.Pool.from_saved.Goals as goal

pub queue_of-requires : goal.queue_of-requires
queue_of-requires c =
    let fits = c.in_ok-is_pool.ensures.0 c.if-not-branch.false in
    let few = few_free c.args.saved.per_family c.args.saved.free4.items fits.free4 in
    omega (arith, few, ap (λ (s : List ℕ). length s) c.deref.ensures.value)

pub queue_of-requires-2 : goal.queue_of-requires-2
queue_of-requires-2 c =
    let fits = c.in_ok-is_pool.ensures.0 c.if-not-branch.false in
    let few = few_between c.args.saved.per_family (length c.args.saved.generations.items) c.args.saved.free6.items fits.first fits.free6 fits.later in
    omega (arith, few, ap (λ (s : List ℕ). length s) c.deref-2.ensures.value)
