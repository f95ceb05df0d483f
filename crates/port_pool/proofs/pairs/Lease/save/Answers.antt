use Rattle.std.proofs.Common.{◌∙◌, ◌∷◌, ◌++◌, arith}
use Rattle.std.specs.Int.{w16, w32, w64, to_be_bytes}
use Rattle.port_pool.specs.SavedLeases.{saved_lease}
use Rattle.port_pool.proofs.pairs.Lease.save.Goals as goal

pub returns : goal.returns
unfolding saved_lease
returns c =
    let lease = c.args.self in (
      record { pair = omega arith; rtp_port = omega arith; generation = omega arith },
      c.written.ensures ∙ (λ i. to_be_bytes w32 lease.pair ++ (c.version_of.ensures i ∷ (to_be_bytes w16 lease.rtp_port ++ to_be_bytes w64 lease.generation))),
    )
