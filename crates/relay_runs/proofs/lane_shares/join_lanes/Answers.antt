use Rattle.std.proofs.Common.{◌∙◌, ◌≡◌, ◌++◌, ◌∷◌, [], ap, sym, subst, refl, arith, true, false, length, length-append, reverse}
use Rattle.std.proofs.lemmas.List.{reverse-reverse}
use Rattle.turn_table.specs.Hands.{IsHandOf, parts, view, entries}
use Rattle.relay_runs.specs.Rounds.{all_of}
use Rattle.relay_runs.specs.Threads.{rows_each, MayJoin, AddsEach}
use Rattle.relay_runs.proofs.MediaThreads.{all_left, next_list, next_totals, all_reversed}
use Rattle.relay_runs.proofs.lane_shares.join_lanes.Goals as goal

pub loop-own-init : goal.loop-own-init
loop-own-init g c =
    let back = ap (λ zs. reverse zs) c.reverse.ensures.items ∙ reverse-reverse c.args.lanes.items in
    record {
      table = c.requires.table;
      idle = c.requires.idle;
      starts_are = refl;
      main_is = refl;
      others = all_reversed (λ own. MayJoin c.args.turns.now own) c.args.lanes.items c.reverse.new.self.items c.reverse.ensures.items c.requires.others;
      parts_are = omega (arith, c.reverse.ensures.len);
      list = ap (λ zs. entries c.args.hand.now ++ all_of (rows_each zs)) back;
      totals_are = λ t adds. subst (λ zs. AddsEach zs c.args.totals.now t) back adds;
    }

pub join_hand-requires-clause-tables : goal.join_hand-requires-clause-tables
join_hand-requires-clause-tables g c =
    (c.loop-own.invariant.table, subst (λ h. IsHandOf c.args.turns.now h) (sym c.into_hand.ensures.hand) (all_left c.loop-own.lanes.items c.pop.new.self.items c.in-Some.own c.in-Some.ensures.items (λ own. MayJoin c.args.turns.now own) c.loop-own.invariant.others).1.of_table)

pub join_hand-requires-clause-side : goal.join_hand-requires-clause-side
join_hand-requires-clause-side g c is_main =
    let k : true ≡ false = sym is_main ∙ ap (λ h. (view h).main) c.into_hand.ensures.hand ∙ (all_left c.loop-own.lanes.items c.pop.new.self.items c.in-Some.own c.in-Some.ensures.items (λ own. MayJoin c.args.turns.now own) c.loop-own.invariant.others).1.not_main in cc

pub loop-own-preserved : goal.loop-own-preserved
loop-own-preserved g c =
    let before = c.loop-own.invariant in
    let joined = c.join_hand.ensures in
    let others = all_left c.loop-own.lanes.items c.pop.new.self.items c.in-Some.own c.in-Some.ensures.items (λ own. MayJoin c.args.turns.now own) c.loop-own.invariant.others in
    let items = c.in-Some.ensures.items in
    let one = ap (λ h. parts h) c.into_hand.ensures.hand ∙ others.1.one_part in
    let long = ap (λ zs. length zs) items ∙ length-append c.pop.new.self.items (c.in-Some.own ∷ []) in
    record {
      table = joined.0 ∙ before.table;
      idle = joined.5;
      starts_are = joined.1 ∙ before.starts_are;
      main_is = joined.4 ∙ before.main_is;
      others = others.0;
      parts_are = (let sum = joined.3 in let all = before.parts_are in omega (arith, sum, one, long, all));
      list = next_list c.loop-own.lanes.items c.pop.new.self.items c.in-Some.own items (entries c.loop-own.hand) (entries c.join_hand.new.hand) _
          (joined.2 ∙ ap (λ h. entries c.loop-own.hand ++ entries h) c.into_hand.ensures.hand) before.list;
      totals_are = next_totals c.loop-own.lanes.items c.pop.new.self.items c.in-Some.own items c.loop-own.totals c.add.new.self _ c.add.ensures before.totals_are;
    }
