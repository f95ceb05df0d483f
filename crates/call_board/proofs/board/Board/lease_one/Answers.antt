use Rattle.std.proofs.Common.{◌≡◌, ◌∙◌, ◌<◌, ap, sym, subst, ℕ, List, [], ◌∷◌, length, Some, arith}
use Rattle.port_pool.specs.Pools as pools
use Rattle.port_pool.specs.Pools.{Pairs, free_pairs, after_lease}
use Rattle.port_pool.specs.Leases.{LeasesFront, lease_of}
use Rattle.port_pool.specs.LeaseLists.{with_lease}
use Rattle.port_pool.specs.declared.pairs.Lease.{Lease}
use Rattle.port_pool.specs.Ports.{pair_count}
use Rattle.call_board.specs.Views.{with_leases}
use Rattle.call_board.proofs.Leased.{lease_stands, lease_same, once_free}
use Rattle.call_board.proofs.board.Board.lease_one.Goals as goal

made_of : {lease other : Lease} → Some lease ≡ Some other → lease ≡ other
made_of is = let e = is in cc

pub returns-clause-leases : goal.returns-clause-leases
returns-clause-leases c = λ config v pair rest s free is.
    let pool = c.args.self.now.pool in
    let queue = s.pool_for.free_is c.args.family ∙ is in
    let front = subst (λ (pairs : List ℕ). LeasesFront pool c.args.family pairs (Some c.in-Some.lease) c.lease.new.self) queue c.in-Some.ensures.front in
    let made : c.in-Some.lease ≡ lease_of pool pair = made_of front.0 in
    let count = s.pool_for.count_is in
    let same : c.in-Some.lease.pair ≡ pair = ap (λ (lease : Lease). lease.pair) made in
    let low : c.in-Some.lease.pair < length pool.generations = c.in-Some.ensures.within in
    let within : pair < pair_count config = omega (arith, low, same, count) in (
      record {
        config_is = s.config_is;
        moment_is = s.moment_is;
        begun_is = s.begun_is;
        drawn_is = s.drawn_is;
        calls_for = s.calls_for;
        cells_for = s.cells_for;
        pool_for = subst (λ (p : Pairs). pools.PoolStandsFor config (with_leases v (pair ∷ [])).free (with_leases v (pair ∷ [])).leases p) (sym front.1)
            (lease_stands config v.free v.leases pool c.args.family pair rest s.pool_for (once_free (pair_count config) v.free free) is within);
        replies_for = s.replies_for;
      },
      c.push.ensures ∙ ap (with_lease c.args.leases.now) (made ∙ lease_same config v.free v.leases pool pair s.pool_for within),
    )

pub returns-clause-front : goal.returns-clause-front
returns-clause-front c = (c.in-Some.lease, c.in-Some.ensures.front, c.push.ensures)
