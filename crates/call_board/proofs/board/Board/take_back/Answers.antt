use Rattle.std.proofs.Common.{ap, sym, subst, ◌++◌, ◌∷◌, [], List}
use Rattle.port_pool.specs.Pools as pools
use Rattle.port_pool.specs.Pools.{Pairs}
use Rattle.port_pool.specs.declared.pairs.Lease.{Lease}
use Rattle.port_pool.proofs.Standing.{returned_stands}
use Rattle.call_board.specs.Boards.{AreOut, pairs_in}
use Rattle.call_board.specs.Shapes.{live_shapes}
use Rattle.call_board.proofs.Given.{out_after}
use Rattle.call_board.proofs.board.Board.take_back.Goals as goal

pub give_back-requires-clause-of_pool : goal.give_back-requires-clause-of_pool
give_back-requires-clause-of_pool c = (subst (λ (leases : List Lease). AreOut c.args.self.now.pool leases) c.in-Some.ensures.list c.requires.out).0.of_pool

pub give_back-requires-clause-not_free : goal.give_back-requires-clause-not_free
give_back-requires-clause-not_free c = (subst (λ (leases : List Lease). AreOut c.args.self.now.pool leases) c.in-Some.ensures.list c.requires.out).0.not_free

pub give_back-requires-clause-last : goal.give_back-requires-clause-last
give_back-requires-clause-last c = (subst (λ (leases : List Lease). AreOut c.args.self.now.pool leases) c.in-Some.ensures.list c.requires.out).0.last

pub returns-clause-out : goal.returns-clause-out
returns-clause-out c =
    let out = subst (λ (leases : List Lease). AreOut c.args.self.now.pool leases) c.in-Some.ensures.list c.requires.out in
    subst (λ (pool : Pairs). AreOut pool c.pop.new.self.list) (sym c.give_back.ensures)
    (out_after c.args.self.now.pool c.in-Some.lease.pair c.pop.new.self.list out.2 out.1)

pub returns-clause-shows : goal.returns-clause-shows
returns-clause-shows c = λ config v s. (
  c.in-Some.lease.pair,
  ap pairs_in (sym c.in-Some.ensures.list),
  record {
    config_is = s.config_is;
    moment_is = s.moment_is;
    begun_is = s.begun_is;
    drawn_is = s.drawn_is;
    calls_for = s.calls_for;
    cells_for = s.cells_for;
    pool_for = subst (λ (pool : Pairs). pools.PoolStandsFor config (v.free ++ c.in-Some.lease.pair ∷ []) v.leases pool) (sym c.give_back.ensures)
        (returned_stands config v.free v.leases c.args.self.now.pool c.in-Some.lease.pair s.pool_for);
    replies_for = s.replies_for;
  },
)

pub returns-clause-shape : goal.returns-clause-shape
returns-clause-shape c =
    let board = c.args.self.now in (
      c.in-Some.lease,
      c.in-Some.ensures.list,
      λ i. record { config = board.config; begun = board.begun; drawn = board.drawn; calls = live_shapes board.calls.list; taken = board.taken.items; pool = c.give_back.ensures i },
    )
