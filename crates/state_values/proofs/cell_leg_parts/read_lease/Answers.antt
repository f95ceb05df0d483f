use Rattle.ng_bencode.specs.Tree.{tree_of}
use Rattle.port_pool.specs.SavedLeases.{FitsLease, saved_lease}
use Rattle.state_values.specs.CellLegTrees.{lease_tree}
use Rattle.state_values.proofs.KeyedTrees.{refused}
use Rattle.state_values.proofs.SavedTrees.{loaded_some, loaded_none, long_lease}
use Rattle.state_values.proofs.cell_leg_parts.read_lease.Goals as goal

pub returns-in_err-bytes-clause-none : goal.returns-in_err-bytes-clause-none
unfolding lease_tree
returns-in_err-bytes-clause-none c = refused c.from_residual.ensures (λ it fits same. c.in_err-bytes.ensures.none (saved_lease it) (long_lease it fits) same)

pub returns-clause-some : goal.returns-clause-some
unfolding lease_tree
returns-clause-some c = loaded_some saved_lease FitsLease (tree_of c.args.value.now) c.in_ok-bytes.bytes c.load.result c.in_ok-bytes.ensures.some c.load.ensures.some

pub returns-clause-none : goal.returns-clause-none
unfolding lease_tree
returns-clause-none c = loaded_none saved_lease FitsLease (tree_of c.args.value.now) c.in_ok-bytes.bytes c.load.result c.in_ok-bytes.ensures.some c.load.ensures.none
