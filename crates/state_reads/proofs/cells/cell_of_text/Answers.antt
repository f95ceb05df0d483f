use Rattle.ng_bencode.specs.Spells.{Spells}
use Rattle.ng_bencode.specs.Tree.{Tree, tree_of}
use Rattle.std.proofs.Common.{◌≡◌}
use Rattle.state_values.specs.CellTrees.{cell_tree, FitsCellSaved}
use Rattle.state_reads.specs.Bounds.{CellCounts}
use Rattle.state_reads.specs.Texts.{IsCellText}
use Rattle.state_reads.proofs.OneTree.{from_none, from_some, none_in_result}
use Rattle.state_reads.proofs.cells.cell_of_text.Goals as goal

pub returns-in_default-clause-none : goal.returns-in_default-clause-none
returns-in_default-clause-none c = λ saved fits is. from_none _ _ c.in_ok-value.ensures.none c.in_default.is _ is.spelled

pub returns-clause-none : goal.returns-clause-none
returns-clause-none c =
    none_in_result cell_tree FitsCellSaved CellCounts (IsCellText c.args.text.now) c.args.text.now _ _
    (λ it is. is.spelled) (λ it is. is.counts)
    (from_some _ (λ value. (tree : Tree) → Spells c.args.text.now tree → tree ≡ tree_of value) _ c.in_ok-value.ensures.only c.in-Some.is) c.cell_of_value.ensures.none
