use Rattle.std.proofs.Common.{◌≡◌, ◌≤◌, ◌+◌, ℕ, length, take, drop}
use Rattle.relay_outside.specs.declared.settings.Config.{Config}
use Rattle.port_pool.specs.Ports as ports
use Rattle.port_pool.specs.Pools.{generation, AreFree, free_pairs}
use Rattle.offer_answer.specs.Offers.{legs_demanded}
use Rattle.call_board.specs.Views.{View, with_leases}
use Rattle.call_board.specs.Boards.{BoardMatches, KeepsCalls, KeepsReplies, fronts_for, leases_at}
use Rattle.call_board.specs.Shapes.{LeasesLegs, board_shape, with_pool}
use Rattle.call_board.proofs.Demands.{AreEnough}
use Rattle.call_board.proofs.board.Board.lease.Given as goal

abbrev pub invariant-loop-index : goal.invariant-loop-index
invariant-loop-index l = record {
  leases : (config : Config) (v : View) → BoardMatches config l.initial.self v → AreFree (ports.pair_count config) v.free →
      BoardMatches config l.self (with_leases v (fronts_for config v (take l.index (legs_demanded l.plan.plan))))
      × (l.leases.list ≡ leases_at config v (fronts_for config v (take l.index (legs_demanded l.plan.plan))));
  plan : l.plan ≡ l.initial.plan;
  enough : AreEnough (free_pairs l.self.pool) (drop l.index (legs_demanded l.plan.plan));
  calls : KeepsCalls l.initial.self l.self;
  replies : KeepsReplies l.initial.self l.self;
  count : length l.leases.list ≡ l.index;
  room : l.leases.room ≡ l.index-end;
  shape : LeasesLegs l.initial.self.pool (take l.index (legs_demanded l.plan.plan)) l.leases.list l.self.pool;
  rest : board_shape l.self ≡ with_pool l.self.pool (board_shape l.initial.self);
  rises : (pair : ℕ) → generation l.self.pool pair ≤ generation l.initial.self.pool pair + l.index;
}
