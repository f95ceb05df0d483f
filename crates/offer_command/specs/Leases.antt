-- What an offer takes by its plan: when it may take it, and which pairs and keys these are.
use Rattle.std.specs.Prelude.{◌≤◌, ◌+◌, ◌^◌, ℕ, Option, List}
use Rattle.relay_outside.specs.declared.ports.PortCall.{PortCall}
use Rattle.relay_outside.specs.declared.settings.Config.{Config}
use Rattle.relay_outside.specs.Settings.{AreFamilies}
use Rattle.port_pool.specs.Ports as ports
use Rattle.port_pool.specs.Pools.{AreFree}
use Rattle.media_ports.specs.OpenPorts.{LogsHeld, AreOthers}
use Rattle.offer_answer.specs.Offers.{pairs_demanded, legs_demanded, key_count}
use Rattle.call_board.specs.declared.board.Board.{Board}
use Rattle.call_board.specs.declared.board_plan.BoardPlan.{BoardPlan}
use Rattle.call_board.specs.Plans.{HasRoomForPlan}
use Rattle.call_board.specs.Views.{View, with_leases}
use Rattle.call_board.specs.Boards.{BoardMatches, fronts_for}
use Rattle.call_board.specs.Whole.{with_draws}

-- how many pairs and keys the plan demands
abbrev pub pairs_of_plan : BoardPlan → ℕ
pairs_of_plan p = pairs_demanded p.plan

abbrev pub keys_of_plan : BoardPlan → ℕ
keys_of_plan p = key_count p.plan

-- the pairs that it leases by what the board keeps: for each leg the pair of its family that has been free for longest
abbrev pub planned_pairs : Config → View → BoardPlan → List ℕ
planned_pairs config v p = fronts_for config v (legs_demanded p.plan)

-- The board has the room and the pairs that the plan demands, the free pairs are pairs of the configuration, each once, and
-- neither the leases of a pair nor the drawn keys reach the end of their count. The interfaces are of the families that they
-- serve. Where the port maker tells, just the ports of some pairs are open, no free one among them
pub record CanLease (config : Config) (board : Board) (log : Option (List PortCall)) (p : BoardPlan) : Type 0 where
  pub families : AreFamilies config
  pub room : HasRoomForPlan board p
  pub view : View
  pub shows : BoardMatches config board view
  pub are_free : AreFree (ports.pair_count config) view.free
  pub generations : (pair : ℕ) → view.leases pair + pairs_of_plan p ≤ 2 ^ 63
  pub draws : view.drawn + keys_of_plan p ≤ 2 ^ 63
  pub held : List ℕ
  pub opens : LogsHeld config log held
  pub apart : AreOthers held view.free

-- what the board keeps once it leased these pairs and that many keys were drawn
abbrev pub with_taken : View → (pairs : List ℕ) → (keys : ℕ) → View
with_taken v pairs keys = with_draws (with_leases v pairs) keys
