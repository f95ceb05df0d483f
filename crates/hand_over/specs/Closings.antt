-- The closing of the ports of all legs, of what a node's places hold.
use Rattle.std.specs.Prelude.{ℕ, List, [], ◌∷◌, Option, Some, None, slice_get, map}
use Rattle.std.specs.List.{flat_map}
use Rattle.relay_outside.specs.declared.ports.InCall.{InCall}
use Rattle.relay_outside.specs.declared.ports.OutCall.{OutCall}
use Rattle.relay_outside.specs.declared.ports.PortCall.{PortCall}
use Rattle.relay_outside.specs.declared.ports.PortCall.TheVariants.{Close}
use Rattle.relay_outside.specs.declared.settings.Config.{Config}
use Rattle.relay_outside.specs.DeviceLogs.{EndLog}
use Rattle.rtp_packet.specs.declared.head.Half.TheVariants.{Rtp, Rtcp}
use Rattle.port_pool.specs.Ports.{port_address}
use Rattle.port_pool.specs.PairBoxes.{ends_in}
use Rattle.call_cell.specs.declared.leg.Leg.{Leg}
use Rattle.call_board.specs.Shapes.{LiveShape, board_shape}
use Rattle.relay_core.specs.declared.part.Part.{Part}
use Rattle.relay_core.specs.declared.part.Part.TheVariants as part
use Rattle.relay_core.specs.Entries.{box_of}

module _ {I O : Type 0} where
  -- what a place holds: the in ends of a box that is open, the legs of a cell, the live calls of the board, in order of creation
  abbrev pub box_ends_in : Option (Part I O) → Option (I × I)
  box_ends_in (Some (part.Pair box)) = ends_in box
  box_ends_in _ = None

  abbrev pub legs_there : Option (Part I O) → List (Leg O)
  legs_there (Some (part.Cell cell)) = cell.legs.items
  legs_there _ = []

  abbrev pub calls_there : Option (Part I O) → List LiveShape
  calls_there (Some (part.Board board)) = (board_shape board).calls
  calls_there _ = []

  abbrev pub box_ends_at : Config → List (Part I O) → (pair : ℕ) → Option (I × I)
  box_ends_at config parts pair = box_ends_in (slice_get parts (box_of config pair))

  abbrev pub legs_at : List (Part I O) → (place : ℕ) → List (Leg O)
  legs_at parts place = legs_there (slice_get parts place)

  abbrev pub live_calls : List (Part I O) → List LiveShape
  live_calls parts = calls_there (slice_get parts 0)

  -- the pairs of all legs, by call and in the order of each cell
  abbrev pub pairs_of_all_legs : List (Part I O) → List LiveShape → List ℕ
  pairs_of_all_legs parts calls = flat_map (λ (call : LiveShape). map (λ (leg : Leg O). leg.holder.pair) (legs_at parts call.cell)) calls

-- The ports of each leg, that for RTP first, with what their ends tell: those of the box of the leg's pair, and those of the leg
module _ {I O : Type 0} (taken : I → EndLog InCall) (sent : O → EndLog OutCall) where
  abbrev pub pair_closings : Config → (pair : ℕ) → Option (O × O) → Option (I × I) → List PortCall
  pair_closings config pair (Some out) (Some in_ends) =
      Close (port_address config pair Rtp) (taken in_ends.0).calls (sent out.0).calls
      ∷ Close (port_address config pair Rtcp) (taken in_ends.1).calls (sent out.1).calls ∷ []
  pair_closings config pair None _ = []
  pair_closings config pair (Some out) None = []

  abbrev pub leg_closings : Config → List (Part I O) → Leg O → List PortCall
  leg_closings config parts leg = pair_closings config leg.holder.pair leg.sending.ends (box_ends_at config parts leg.holder.pair)

  -- of the legs of a cell, in their order
  abbrev pub cell_closings : Config → List (Part I O) → List (Leg O) → List PortCall
  cell_closings config parts those = flat_map (leg_closings config parts) those

  -- of all live calls, in order of creation
  abbrev pub call_closings : Config → List (Part I O) → List LiveShape → List PortCall
  call_closings config parts calls = flat_map (λ (call : LiveShape). cell_closings config parts (legs_at parts call.cell)) calls

  abbrev pub all_closings : Config → List (Part I O) → List PortCall
  all_closings config parts = call_closings config parts (live_calls parts)
