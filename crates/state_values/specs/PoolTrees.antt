-- How a pool is written: its queues, the next to be leased in front, and each pair's generation. Its ports follow from the configuration.
use Rattle.std.specs.Prelude.{codes, ◌≡◌, ℕ, ◌<◌, ◌^◌, All}
use Rattle.ng_bencode.specs.Tree.{Tree, Dict, entry, no_entries}
use Rattle.port_pool.specs.declared.saved_pool.PoolSaved.{PoolSaved}
use Rattle.state_values.specs.Numbers.{number_tree, list_tree}

abbrev pub pool_tree : PoolSaved → Tree
pool_tree saved = Dict
    (entry (codes "free4") (list_tree number_tree saved.free4.items)
    (entry (codes "free6") (list_tree number_tree saved.free6.items)
    (entry (codes "generations") (list_tree number_tree saved.generations.items) no_entries)))

-- the ranges of the fields
pub record FitsPoolSaved (saved : PoolSaved) : Type 0 where
  pub first_port : saved.first_port < 2 ^ 32
  pub per_family : saved.per_family < 2 ^ 32
  pub free4 : All (λ (pair : ℕ). pair < 2 ^ 32) saved.free4.items
  pub free6 : All (λ (pair : ℕ). pair < 2 ^ 32) saved.free6.items
  pub generations : All (λ (generation : ℕ). generation < 2 ^ 64) saved.generations.items

-- the record has these ports, and is written as this tree
pub record IsReadPool (first_port per_family : ℕ) (tree : Tree) (saved : PoolSaved) : Type 0 where
  pub first_port_is : saved.first_port ≡ first_port
  pub per_family_is : saved.per_family ≡ per_family
  pub written : tree ≡ pool_tree saved
