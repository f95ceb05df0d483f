-- Which leases may be given back, by what the board keeps.
use Rattle.std.specs.Prelude.{◌≡◌, ◌<◌, false, List, [], ◌∷◌}
use Rattle.relay_outside.specs.declared.settings.Config.{Config}
use Rattle.histories.specs.Words.{has}
use Rattle.port_pool.specs.Ports.{pair_count, pair_family, pair_port}
use Rattle.port_pool.specs.declared.holder.Holder.{Holder}
use Rattle.port_pool.specs.declared.pairs.Lease.{Lease}
use Rattle.call_board.specs.Views.{View}
use Rattle.call_board.specs.Boards.{pairs_in}

-- the lease by which a leg holds its pair
abbrev pub leg_lease : Config → Holder → Lease
leg_lease config leg = record { pair = leg.pair; family = pair_family config leg.pair; rtp_port = pair_port config leg.pair; generation = leg.generation }

-- the lease is the last one of a pair of the range, which isn't free
pub record MayReturn (config : Config) (v : View) (lease : Lease) : Type 0 where
  pub of_range : lease.pair < pair_count config
  pub not_free : has v.free lease.pair ≡ false
  pub last : v.leases lease.pair ≡ lease.generation

-- these leases are, and of different pairs
abbrev pub MayReturnAll : Config → View → List Lease → Type 0
MayReturnAll config v [] = Unit {0}
MayReturnAll config v (lease ∷ leases) = MayReturn config v lease × (has (pairs_in leases) lease.pair ≡ false) × MayReturnAll config v leases
