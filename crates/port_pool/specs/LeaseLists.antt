-- Leases in the order in which they were made.
use Rattle.std.specs.Prelude.{ℕ, List, ◌∷◌, [], ◌++◌}
use Rattle.port_pool.specs.declared.pairs.Lease.{Lease}

-- the leases, and for how many there is room in all
pub record LeaseList : Type 0 where
  pub list : List Lease
  pub room : ℕ

-- one more, at the end
abbrev pub with_lease : LeaseList → Lease → LeaseList
with_lease leases lease = record { list = leases.list ++ lease ∷ []; room = leases.room }
