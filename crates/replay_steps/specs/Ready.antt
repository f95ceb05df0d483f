-- A replay between two steps.
use Rattle.std.specs.Prelude.{◌≡◌, ℕ, List, []}
use Rattle.relay_outside.specs.declared.settings.Config.{Config}
use Rattle.turn_table.specs.Hands.{parts}
use Rattle.relay_core.specs.Turns.{made_by}
use Rattle.board_turns.specs.Between.{IsBetween}
use Rattle.ng_server.specs.Servers.{OpensJust, history_of}
use Rattle.replay_devices.specs.Devices.{Happening}
use Rattle.replay_devices.specs.Watch.{WatchStandsFor}
use Rattle.replay_steps.specs.declared.state.Replayer.{Replayer}
use Rattle.replay_steps.specs.declared.state.ReplayState.{ReplayState}
use Rattle.replay_steps.specs.Receipts.{AreReceipts}
use Rattle.replay_steps.specs.Steps.{Course, course_of, at_first}

-- where a replay is with this state, and with what happened
abbrev pub course_at : ReplayState → List Happening → Course
course_at state past = course_of (made_by state.hand) state.receipts state.clock past

module _ {R : Type 0} where
  -- The one hand has all parts and holds no turn, just the ports of the held pairs are open, and the receipts that are held are of its list
  pub record IsReplayReady (replayer : Replayer R) (state : ReplayState) : Type 0 where
    pub config_is : replayer.config ≡ replayer.server.config
    pub between : IsBetween replayer.server.config replayer.server.turns state.hand
    pub opens : OpensJust replayer.server.config (history_of state.hand) state.devices.ports.log
    pub receipts : AreReceipts replayer.server.config (made_by state.hand) state.receipts.list
    pub room : state.receipts.room ≡ 64
    pub all : parts state.hand ≡ 1024

  -- Before the first step, with keys of this seed: nothing was done, and no call of a device was made
  pub record IsFirst (config : Config) (seed : ℕ) (replayer : Replayer R) (state : ReplayState) : Type 0 where
    pub config_is : replayer.server.config ≡ config
    pub ready : IsReplayReady replayer state
    pub course_is : course_at state [] ≡ at_first
    pub watch : (any : Config) → WatchStandsFor any seed [] state.watch
