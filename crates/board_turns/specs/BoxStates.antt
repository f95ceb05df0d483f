-- What a turn gave, as the step needs it.
use Rattle.std.specs.Prelude.{◌≡◌, ◌≤◌, Some, None, IsSome}
use Rattle.port_pool.specs.declared.holder.Holder.{Holder}
use Rattle.relay_outside.specs.declared.ports.InCall.{InCall}
use Rattle.relay_outside.specs.DeviceLogs.{EndLog, IsOpenedFor}
use Rattle.port_pool.specs.PairBoxes.{holder_in, ends_in, at_of, cells_of}
use Rattle.port_pool.specs.Ports.{rtcp_address}
use Rattle.relay_core.specs.declared.part.Part.{Part}
use Rattle.relay_core.specs.declared.part.Part.TheVariants as part

module _ {I O : Type 0} where
  -- a shut box, of whose cells one is the leg's
  abbrev pub CanOpen : Holder → Part I O → Type 0
  CanOpen leg (part.Pair box) = (holder_in box ≡ None) × (1 ≤ leg.cell) × (leg.cell ≤ cells_of box)
  CanOpen leg _ = ⊥

  -- ends that were opened for the ports of the box's pair, and not called since
  abbrev pub FitEnds : (I → EndLog InCall) → Part I O → I × I → Type 0
  FitEnds log (part.Pair box) ends = IsOpenedFor (at_of box) (log ends.0) × IsOpenedFor (rtcp_address (at_of box)) (log ends.1)
  FitEnds log _ ends = ⊥

  -- an open box
  abbrev pub CanShut : Part I O → Type 0
  CanShut (part.Pair box) = IsSome (holder_in box)
  CanShut _ = ⊥

  -- the box has these ends
  abbrev pub HasEnds : Part I O → I × I → Type 0
  HasEnds (part.Pair box) ends = ends_in box ≡ Some ends
  HasEnds _ ends = ⊥
