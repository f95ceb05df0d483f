use Rattle.std.proofs.Common.{List, map, ap, ◌∙◌, arith}
use Rattle.call_cell.proofs.SavedLegs.{first_taken, none_left}
use Rattle.ng_bencode.specs.Row.{list_in}
use Rattle.ng_bencode.specs.Tree.{Tree, Items, items_of}
use Rattle.state_values.specs.CellTrees.{cell_leg_tree}
use Rattle.state_values.proofs.RecordTrees.{one_put, all_put}
use Rattle.state_values.proofs.cells.legs_value.Goals as goal

pub remove-requires : goal.remove-requires
remove-requires c = omega (arith, c.loop.invariant.0, c.loop-test.true, c.len-end.ensures)

pub loop-preserved : goal.loop-preserved
loop-preserved c =
    let left = c.loop.legs in
    let takes = first_taken left.items c.remove.new.self.items c.remove.result (omega (arith, c.loop.invariant.0, c.loop-test.true, c.len-end.ensures, left.ok.0)) c.remove.ensures.value c.remove.ensures.by_index.2 in (
      omega (arith, c.loop.invariant.0, c.remove.ensures.len),
      one_put cell_leg_tree (list_in c.loop.values) (list_in c.put_item.new.values) left.items c.remove.new.self.items (map cell_leg_tree c.args.legs.items) c.in_ok-value.value c.remove.result
          c.loop.invariant.1 c.in_ok-put_item.ensures takes c.in_ok-value.ensures,
    )

pub returns : goal.returns
returns c =
    let left = c.loop.legs in
    let none = none_left left.items (omega (arith, c.loop.invariant.0, c.loop-test.false, c.len-end.ensures, left.ok.0)) in
    c.list.ensures ∙ ap (λ (l : List Tree). Items (items_of l)) (all_put cell_leg_tree (list_in c.loop.values) left.items (map cell_leg_tree c.args.legs.items) none c.loop.invariant.1)
