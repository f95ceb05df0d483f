use Rattle.std.proofs.Common.{◌∙◌, ◌∷◌, ◌++◌, sym}
use Rattle.std.specs.Int.{w16, w32, w64, to_be_bytes}
use Rattle.port_pool.specs.SavedLeases.{saved_lease}
use Rattle.port_pool.proofs.SavedLeaseParts.{same_version}
use Rattle.port_pool.proofs.pairs.Lease.load.Goals as goal

pub returns-in_default-clause-none : goal.returns-in_default-clause-none
returns-in_default-clause-none c lease fits same =
    let r = c.read-number.result in
    c.in_default.ensures.none lease.family (same_version lease r.0 r.1 r.2 r.3 (same ∙ c.read-number.ensures.parts))

pub returns-clause-some : goal.returns-clause-some
unfolding saved_lease
returns-clause-some c =
    let r = c.read-number.result in (
      record { pair = c.read-number.ensures.pair; rtp_port = c.read-number.ensures.port; generation = c.read-number.ensures.generation },
      (λ i. to_be_bytes w32 r.0 ++ (c.in-Some.ensures.some i ∷ (to_be_bytes w16 r.2 ++ to_be_bytes w64 r.3))) ∙ sym c.read-number.ensures.parts,
    )
