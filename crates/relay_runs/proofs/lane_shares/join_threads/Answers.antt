use Rattle.std.proofs.Common.{◌∙◌, ◌+◌, ap, sym, subst, length}
use Rattle.std.proofs.lemmas.List.Sorted.{All-permutation, length_permutation}
use Rattle.std.specs.List.Sorted.{IsPermutation}
use Rattle.turn_table.specs.Hands.{parts}
use Rattle.relay_runs.specs.Threads.{AreNumbers, MayJoin, all_lanes, numbers_of}
use Rattle.relay_runs.proofs.lane_shares.join_threads.Goals as goal

pub put_in_order-requires : goal.put_in_order-requires
put_in_order-requires g c = record { once = subst (λ xs. AreNumbers (length xs) (numbers_of xs)) (sym c.gather_lanes-lanes.ensures) c.requires.once }

pub join_lanes-requires-clause-others : goal.join_lanes-requires-clause-others
join_lanes-requires-clause-others g c =
    All-permutation (λ own. MayJoin c.args.turns.now own) (all_lanes c.args.threads.items) c.put_in_order.new.lanes.items
    (subst (λ xs. IsPermutation xs c.put_in_order.new.lanes.items) c.gather_lanes-lanes.ensures c.put_in_order.ensures.are) c.requires.others

pub returns-clause-parts : goal.returns-clause-parts
returns-clause-parts g c =
    c.join_lanes.ensures.parts
    ∙ ap (λ n. parts c.args.hand.now + n)
    (length_permutation c.gather_lanes-lanes.result.items c.put_in_order.new.lanes.items c.put_in_order.ensures.are ∙ ap (λ xs. length xs) c.gather_lanes-lanes.ensures)

pub returns-clause-joins : goal.returns-clause-joins
returns-clause-joins g c = record {
  lanes = c.put_in_order.new.lanes.items;
  are = subst (λ xs. IsPermutation xs c.put_in_order.new.lanes.items) c.gather_lanes-lanes.ensures c.put_in_order.ensures.are;
  in_order = c.put_in_order.ensures.in_order;
  list_is = c.join_lanes.ensures.list;
  adds = c.join_lanes.ensures.totals;
}
