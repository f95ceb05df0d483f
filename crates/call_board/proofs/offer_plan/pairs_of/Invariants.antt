use Rattle.std.proofs.Common.{◌≡◌, ◌≤◌, take}
use Rattle.std.specs.Prelude.{count_by}
use Rattle.port_pool.specs.Ports.{family_eq}
use Rattle.offer_answer.specs.Offers.{legs_demanded}
use Rattle.call_board.proofs.offer_plan.pairs_of.Given as goal

abbrev pub invariant-loop-index : goal.invariant-loop-index
invariant-loop-index l = record {
  counted : l.count ≡ count_by (λ leg. family_eq leg.family l.family) (take l.index (legs_demanded l.plan));
  few : l.count ≤ l.index;
}
