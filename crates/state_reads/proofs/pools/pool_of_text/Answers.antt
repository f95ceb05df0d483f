use Rattle.ng_bencode.specs.Spells.{Spells}
use Rattle.ng_bencode.specs.Tree.{Tree, tree_of}
use Rattle.std.proofs.Common.{◌≡◌}
use Rattle.port_pool.specs.SavedPools.{saved_pairs}
use Rattle.port_pool.specs.declared.saved_pool.PoolSaved.{PoolSaved}
use Rattle.state_values.specs.PoolTrees.{pool_tree, FitsPoolSaved}
use Rattle.state_reads.specs.Texts.{HasPorts, PoolStands, IsPoolText}
use Rattle.state_reads.proofs.OneTree.{from_none, from_some, none_in_result}
use Rattle.state_reads.proofs.pools.pool_of_text.Goals as goal

pub returns-in_default-clause-none : goal.returns-in_default-clause-none
returns-in_default-clause-none c = λ saved fits is. from_none _ _ c.in_ok-value.ensures.none c.in_default.is _ is.spelled

pub returns-clause-none : goal.returns-clause-none
returns-clause-none c =
    let config = c.args.config.now in
    none_in_result pool_tree FitsPoolSaved (λ (saved : PoolSaved). HasPorts config saved × PoolStands config (saved_pairs saved)) (IsPoolText config c.args.text.now) c.args.text.now _ _
    (λ it is. is.spelled) (λ it is. (is.ports, is.stands))
    (from_some _ (λ value. (tree : Tree) → Spells c.args.text.now tree → tree ≡ tree_of value) _ c.in_ok-value.ensures.only c.in-Some.is) c.pool_of_value.ensures.none
