-- What a run has prepared before its control turns.
use Rattle.std.specs.Prelude.{◌≡◌, ℕ, []}
use Rattle.relay_outside.specs.declared.settings.Config.{Config}
use Rattle.turn_table.specs.Hands.{parts}
use Rattle.relay_core.specs.Turns.{made_by}
use Rattle.board_turns.specs.Between.{IsBetween}
use Rattle.relay_runs.specs.declared.prepared.Prepared.{Prepared}
use Rattle.relay_runs.specs.Threads.{IsRoomFor}

module _ {P I O : Type 0} {gi : _} {go : _} {gm : _} where
  -- its server with this configuration has taken no turn yet, the main hand has all parts of the table, and so many threads have room for so many lanes
  pub record IsPreparedRun (config : Config) (threads lanes : ℕ) (prepared : Prepared P I O gi go gm) : Type 0 where
    pub config_is : prepared.server.config ≡ config
    pub between : IsBetween prepared.server.config prepared.server.turns prepared.hand
    pub nothing : made_by prepared.hand ≡ []
    pub all : parts prepared.hand ≡ 1024
    pub room : IsRoomFor threads lanes prepared.room
