use Rattle.std.proofs.Common.{◌≡◌, ◌∷◌, [], IfOk, replicate, Some, Result, subst, refl}
use Rattle.relay_outside.specs.declared.settings.Config.{Config}
use Rattle.relay_outside.specs.declared.address.Family.TheVariants.{V4, V6}
use Rattle.relay_outside.specs.declared.address.Ip.TheVariants as ip
use Rattle.relay_outside.specs.declared.answers.OutOfMemory.{OutOfMemory}
use Rattle.port_pool.specs.Ports.{pair_count, range_pairs}
use Rattle.port_pool.specs.Pools.{Pairs, IsFresh}
use Rattle.tests_state.proofs.configs.new_pool.Goals as goal

of_two : Config
of_two = record { interface = ip.V4 (192 ∷ 0 ∷ 2 ∷ 1 ∷ []); interface6 = Some (ip.V6 (replicate 16 0)); port_min = 30000; port_max = 30003; timeout_ms = 0; offer_timeout_ms = 0; max_sessions = 0 }

two : (pool : Pairs) → IsFresh of_two pool → pool ≡ record { first_port = 30000; per_family = 2; free4 = 0 ∷ 1 ∷ []; free6 = 2 ∷ 3 ∷ []; generations = 0 ∷ 0 ∷ 0 ∷ 0 ∷ [] }
unfolding of_two pair_count range_pairs
two pool fresh =
    λ i. record { first_port = fresh.first_is i; per_family = fresh.per_is i; free4 = fresh.all_free V4 i; free6 = fresh.all_free V6 i; generations = fresh.none_leased i }

pub returns : goal.returns
unfolding of_two
returns g c =
    let made : IfOk c.new.result (IsFresh of_two) = c.new.ensures of_two refl refl refl in
    two c.in-Ok.pool (subst (λ (r : Result Pairs OutOfMemory). IfOk r (IsFresh of_two)) c.in-Ok.is made)
