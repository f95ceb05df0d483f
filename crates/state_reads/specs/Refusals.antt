-- Which texts are values of no record that a node of this configuration goes on with.
use Rattle.std.specs.Prelude.{ℕ, List, All}
use Rattle.relay_outside.specs.declared.settings.Config.{Config}
use Rattle.port_pool.specs.declared.saved_pool.PoolSaved.{PoolSaved}
use Rattle.cookie_cache.specs.declared.saved.CacheSaved.{CacheSaved}
use Rattle.call_cell.specs.declared.saved.CellSaved.{CellSaved}
use Rattle.call_board.specs.declared.saved_board.CallSaved.{CallSaved}
use Rattle.state_values.specs.declared.relays.RelaySaved.{RelaySaved}
use Rattle.state_values.specs.RelayTrees.{FitsRelaySaved}
use Rattle.state_values.specs.PoolTrees.{FitsPoolSaved}
use Rattle.state_values.specs.CallTrees.{FitsCallSaved}
use Rattle.state_values.specs.CellTrees.{FitsCellSaved}
use Rattle.state_values.specs.CacheTrees.{FitsCacheSaved}
use Rattle.state_reads.specs.Texts.{IsRelayText, IsPoolText, IsCellText, IsCacheText}
use Rattle.state_reads.specs.Calls.{IsCallsText}

abbrev pub NoRelay : Config → List ℕ → Type 0
NoRelay config text = (saved : RelaySaved) → FitsRelaySaved saved → IsRelayText config text saved → ⊥

abbrev pub NoPool : Config → List ℕ → Type 0
NoPool config text = (saved : PoolSaved) → FitsPoolSaved saved → IsPoolText config text saved → ⊥

abbrev pub NoCalls : (begun count : ℕ) → List ℕ → Type 0
NoCalls begun count text = (calls : List CallSaved) → All FitsCallSaved calls → IsCallsText begun count text calls → ⊥

abbrev pub NoCell : List ℕ → Type 0
NoCell text = (saved : CellSaved) → FitsCellSaved saved → IsCellText text saved → ⊥

abbrev pub NoCache : List ℕ → Type 0
NoCache text = (saved : CacheSaved) → FitsCacheSaved saved → IsCacheText text saved → ⊥
