-- A call that ends: when it may be ended, and what that adds to the lists.
use Rattle.std.specs.Prelude.{◌≡◌, ◌≤◌, ◌<◌, ℕ, true, Option, Some, List, ◌∷◌, map}
use Rattle.relay_outside.specs.declared.ports.OutCall.{OutCall}
use Rattle.relay_outside.specs.declared.ports.PortCall.{PortCall}
use Rattle.relay_outside.specs.declared.settings.Config.{Config}
use Rattle.relay_outside.specs.DeviceLogs.{EndLog, WhereLogged}
use Rattle.histories.specs.Words.{In, has}
use Rattle.turn_table.specs.declared.hands.Hand.{Hand}
use Rattle.port_pool.specs.declared.pairs.Lease as pairs
use Rattle.port_pool.specs.declared.holder.Holder.{Holder}
use Rattle.port_pool.specs.Ports.{pair_count}
use Rattle.call_cell.specs.Cells.{End}
use Rattle.call_cell.specs.Shapes.{CellLegShape}
use Rattle.call_board.specs.Acts.{Call}
use Rattle.call_board.specs.declared.board.Board.{Board}
use Rattle.call_board.specs.Views.{View, CallView, call_numbered, with_returned, without_call}
use Rattle.call_board.specs.Boards.{BoardMatches, CellsApart}
use Rattle.call_board.specs.Shapes.{LiveShape, board_shape, shape_numbered}
use Rattle.relay_core.specs.declared.part.Part.{Part}
use Rattle.relay_core.specs.Entries.{Entry}
use Rattle.relay_core.specs.KeptAfter.{IsWholeWith}
use Rattle.relay_core.specs.Records.{Made}
use Rattle.relay_core.specs.Scripts.{Owed, in_cell, closing}
use Rattle.relay_core.specs.Turns.{IsAbove}
use Rattle.media_ports.specs.OpenPorts.{OpensHeld}
use Rattle.board_turns.specs.NestedSteps.{IsTurnOpen}
use Rattle.board_turns.specs.InCells.{HasNewKeys}
use Rattle.board_turns.specs.Departures.{legs_in, AreLeasesOf, cell_kept}
use Rattle.board_turns.specs.Closings.{ClosesLegs}

-- the pairs of legs
abbrev pub leg_pairs : List Holder → List ℕ
leg_pairs legs = map (λ leg. leg.pair) legs

-- the end of a call, and the closings of these legs
abbrev pub ending_of : Config → Call → List Holder → List Owed
ending_of config of legs = in_cell of End ∷ map (closing config) legs

module _ {M I O T : Type 0} {g : _} where
  -- The call of this number is live, what the board, the cells and the boxes keep goes together, and, where the port maker tells, just the
  -- ports of some pairs are open, those of the call's legs among them
  pub record CanEnd (config : Config) (hand : Hand M (Part I O) Made T g) (board : Board) (log : Option (List PortCall)) (call : ℕ) : Type 0 where
    pub whole : IsWholeWith config hand (board_shape board)
    pub live : LiveShape
    pub found : shape_numbered (board_shape board) call ≡ Some live
    pub held : List ℕ
    pub opens : WhereLogged log (λ calls. OpensHeld config calls held)
    pub are_held : (leg : CellLegShape) → In leg (cell_kept config hand live.cell).legs → has held leg.holder.pair ≡ true

  -- Where the port maker tells, just the ports of some pairs are open, those of each pair of the range whose box is open among them
  pub record HoldsOpen (config : Config) (hand : Hand M (Part I O) Made T g) (log : Option (List PortCall)) : Type 0 where
    pub held : List ℕ
    pub opens : WhereLogged log (λ calls. OpensHeld config calls held)
    pub are_held : (pair : ℕ) → pair < pair_count config → IsTurnOpen config hand pair → has held pair ≡ true

-- By the list, this is the live call of that number, and these are its legs: those of its cell
pub record IsCallOf (config : Config) (l : List Entry) (board : Board) (call : ℕ) (of : Call) (legs : List Holder) : Type 0 where
  pub view : View
  pub shows : BoardMatches config board view
  pub apart : CellsApart view.calls
  pub seen : CallView
  pub found : call_numbered view call ≡ Some seen
  pub of_is : seen.of ≡ of
  pub low : 1 ≤ of.cell
  pub high : of.cell ≤ config.max_sessions
  pub keys : HasNewKeys l of.cell
  pub legs_are : (n : ℕ) → IsAbove l of.cell n → legs_in l of.cell n ≡ legs

-- the call ended, and the pairs of its legs were given back
abbrev pub with_call_ended : View → ℕ → List Holder → View
with_call_ended v call legs = with_returned (without_call v call) (leg_pairs legs)

-- the calls close the ports of these legs, with the out ends that they had
abbrev pub ClosesTheirs : {O : Type 0} → (O → EndLog OutCall) → Config → List Holder → List PortCall → Type 0
ClosesTheirs {O} sent config legs calls = (gone : List (pairs.Lease × O × O)) × AreLeasesOf config gone legs × ClosesLegs sent config gone calls
