-- Which texts are the values of a state that a node of this configuration goes on with, and of which records.
use Rattle.std.specs.Prelude.{◌≡◌, ℕ, List, length}
use Rattle.relay_outside.specs.declared.settings.Config.{Config}
use Rattle.ng_bencode.specs.Spells.{Spells}
use Rattle.port_pool.specs.declared.saved_pool.PoolSaved.{PoolSaved}
use Rattle.port_pool.specs.SavedPools.{FitsPool, saved_pairs}
use Rattle.port_pool.specs.Pools.{Pairs}
use Rattle.port_pool.specs.Ports.{pair_count, first_port, range_pairs}
use Rattle.cookie_cache.specs.declared.cache.CookieCache.{CookieCache}
use Rattle.cookie_cache.specs.declared.saved.CacheSaved.{CacheSaved}
use Rattle.cookie_cache.specs.Saved.{FitsCache, SavesCache}
use Rattle.call_cell.specs.declared.saved.CellSaved.{CellSaved}
use Rattle.state_values.specs.declared.relays.RelaySaved.{RelaySaved}
use Rattle.state_values.specs.RelayTrees.{relay_tree}
use Rattle.state_values.specs.PoolTrees.{pool_tree}
use Rattle.state_values.specs.CacheTrees.{cache_tree}
use Rattle.state_values.specs.CellTrees.{cell_tree}
use Rattle.state_reads.specs.Bounds.{RelayCounts, AreCounts, CellCounts}

-- a node of this configuration wrote it
pub record RelayStands (config : Config) (saved : RelaySaved) : Type 0 where
  pub config_is : saved.config ≡ config
  pub counts : RelayCounts saved

-- The first value
pub record IsRelayText (config : Config) (text : List ℕ) (saved : RelaySaved) : Type 0 where
  pub spelled : Spells text (relay_tree saved)
  pub stands : RelayStands config saved

-- it has the ports of the configuration, which aren't written
pub record HasPorts (config : Config) (saved : PoolSaved) : Type 0 where
  pub first_is : saved.first_port ≡ first_port config
  pub per_is : saved.per_family ≡ range_pairs config

-- it is a pool, with a generation for each pair of the configuration
pub record PoolStands (config : Config) (pool : Pairs) : Type 0 where
  pub count_is : length pool.generations ≡ pair_count config
  pub fits : FitsPool pool
  pub counts : AreCounts pool.generations

-- The second value
pub record IsPoolText (config : Config) (text : List ℕ) (saved : PoolSaved) : Type 0 where
  pub spelled : Spells text (pool_tree saved)
  pub ports : HasPorts config saved
  pub stands : PoolStands config (saved_pairs saved)

-- The value of a cell. Each record is one of some cell
pub record IsCellText (text : List ℕ) (saved : CellSaved) : Type 0 where
  pub spelled : Spells text (cell_tree saved)
  pub counts : CellCounts saved

-- it is one of some cache
pub record HasCache (saved : CacheSaved) : Type 0 where
  pub cache : CookieCache
  pub fits : FitsCache cache
  pub saves : SavesCache cache saved

-- The last value
pub record IsCacheText (text : List ℕ) (saved : CacheSaved) : Type 0 where
  pub spelled : Spells text (cache_tree saved)
  pub kept : HasCache saved
