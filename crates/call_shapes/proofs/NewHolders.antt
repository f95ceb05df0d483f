-- The legs of an offer, by the leases that a board made for them.
use Rattle.std.proofs.Common.{◌≡◌, ◌∙◌, refl, sym, ap, subst, suc, List, [], ◌∷◌, map, length}
use Rattle.std.specs.List.{AllZip}
use Rattle.relay_outside.specs.declared.settings.Config.{Config}
use Rattle.port_pool.specs.declared.holder.Holder.{Holder}
use Rattle.port_pool.specs.declared.pairs.Lease.{Lease}
use Rattle.port_pool.specs.Pools.{Pairs, free_pairs}
use Rattle.offer_answer.specs.Rounds.{NewLeg}
use Rattle.call_board.specs.Acts.{Call}
use Rattle.call_board.specs.Whole.{holder_of_new_leg, holders_of_new_legs}
use Rattle.call_board.specs.Shapes.{LeasesLegs}
use Rattle.call_board.specs.Returns.{leg_lease}
use Rattle.call_shapes.specs.WholeRelay.{PoolHolds}
use Rattle.call_shapes.specs.Turns.{HoldsBy, LegsLeased}
use Rattle.call_shapes.proofs.Numbered.{front_leased, legs_leased, lease_follows}
use Rattle.call_shapes.proofs.Pools.{leases_front}

pub as_many_leases : (old new : Pairs) (legs : List NewLeg) (leases : List Lease) → LeasesLegs old legs leases new → length leases ≡ length legs
as_many_leases old new [] [] leased = refl
as_many_leases old new [] (lease ∷ leases) leased = absurd leased
as_many_leases old new (leg ∷ legs) [] leased = absurd leased
as_many_leases old new (leg ∷ legs) (lease ∷ leases) (next, first, more) = ap suc (as_many_leases next new legs leases more)

held_by : (of : Call) (old new : Pairs) (legs : List NewLeg) (leases : List Lease) → LeasesLegs old legs leases new → AllZip HoldsBy (holders_of_new_legs of leases legs) leases
held_by of old new [] [] leased = tt
held_by of old new [] (lease ∷ leases) leased = absurd leased
held_by of old new (leg ∷ legs) [] leased = absurd leased
held_by of old new (leg ∷ legs) (lease ∷ leases) (next, first, more) =
    (record { pair_is = refl; generation_is = refl }, held_by of next new legs leases more)

-- they are leased in order
pub new_holders_leased : (of : Call) (old new : Pairs) (legs : List NewLeg) (leases : List Lease) → LeasesLegs old legs leases new
    → LegsLeased old (holders_of_new_legs of leases legs) new
new_holders_leased of old new legs leases leased =
    legs_leased old new legs leases (holders_of_new_legs of leases legs) leased (held_by of old new legs leases leased)

-- and the leases are those that follow from them
pub leases_follow : (config : Config) (of : Call) (old new : Pairs) (held : List Holder) (legs : List NewLeg) (leases : List Lease) → PoolHolds config old held
    → LeasesLegs old legs leases new → leases ≡ map (leg_lease config) (holders_of_new_legs of leases legs)
leases_follow config of old new held [] [] h leased = refl
leases_follow config of old new held [] (lease ∷ leases) h leased = absurd leased
leases_follow config of old new held (leg ∷ legs) [] h leased = absurd leased
leases_follow config of old new held (leg ∷ legs) (lease ∷ leases) h (next, first, more) =
    let holder = holder_of_new_leg of lease leg in
    let front = front_leased old next leg.family (free_pairs old leg.family) holder lease refl first (record { pair_is = refl; generation_is = refl }) in
    let after = leases_front config old held leg.family holder front.rest h front.front front.generation_is in
    let rest = leases_follow config of next new (holder ∷ held) legs leases (subst (λ (p : Pairs). PoolHolds config p (holder ∷ held)) (sym front.next_is) after) more in
    ap (λ (l : Lease). l ∷ leases) (front.lease_is ∙ lease_follows config old held holder h front.generation_is)
    ∙ ap (λ (l : List Lease). leg_lease config holder ∷ l) rest
