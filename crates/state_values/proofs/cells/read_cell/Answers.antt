use Rattle.std.proofs.Common.{rules, ◌≡◌, List, None}
use Rattle.ng_bencode.specs.Tree.{tree_of}
use Rattle.call_cell.specs.declared.saved.LegSaved.{LegSaved}
use Rattle.std.specs.Prelude.{All}
use Rattle.state_values.specs.Numbers.{list_tree}
use Rattle.state_values.specs.CellTrees.{cell_leg_tree, cell_tree, FitsLegSaved}
use Rattle.state_values.proofs.ListTrees.{from_none}
use Rattle.state_values.proofs.KeyedTrees.{opened, same_rest, same_value}
use Rattle.state_values.proofs.cells.read_cell.Goals as goal

pub returns-in_default-2-clause-none : goal.returns-in_default-2-clause-none
unfolding cell_tree
returns-in_default-2-clause-none c = λ saved fits same.
    let none : c.in_ok-legs.field-0 ≡ None = first_of (assumption (c.in_default-2.is), search rules, cc) in
    let entries = opened c.in-Some.ensures.some same in
    let legs = same_value (same_rest (same_rest (same_rest (same_rest (same_rest entries))))) in
    from_none c.in_ok-legs.field-0 ((legs : List LegSaved) → All FitsLegSaved legs → tree_of c.in-Some.it.legs.now ≡ list_tree cell_leg_tree legs → ⊥)
    c.in_ok-legs.ensures.none none saved.legs.items fits.legs legs
