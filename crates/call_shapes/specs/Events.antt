-- What each event of a cell makes of its shape, and of a box of its holder, whatever their histories.
use Rattle.std.specs.Prelude.{ℕ, Bool, true, false, List, [], ◌∷◌, map, Option, Some, None}
use Rattle.relay_outside.specs.declared.settings.Config.{Config}
use Rattle.histories.specs.Words.{has, numbers}
use Rattle.port_pool.specs.declared.holder.Holder.{Holder}
use Rattle.port_pool.specs.Boxes.{BoxEvent, Open, Take, Close}
use Rattle.call_cell.specs.Cells.{CellEvent, CellEntry, Prepare, Commit, Relay, Expire, Read, End}
use Rattle.call_cell.specs.Shapes.{CellLegShape, CellShape, offered_shape, answered_shape, ended_shape}
use Rattle.call_board.specs.Returns.{leg_lease}

-- a leg as an offer brings it: by the lease of its pair, with out ends, not committed, and without keys
abbrev pub brought_shape : Config → Holder → CellLegShape
brought_shape config leg = record {
  holder = leg;
  lease = leg_lease config leg;
  has_ends = true;
  is_committed = false;
  tag80 = None;
  tag32 = None;
}

-- a flag for each of the eight sections: whether it is one of these
abbrev pub section_flags : List ℕ → List Bool
section_flags sections = map (has sections) (numbers 0 8)

abbrev pub shape_after_event : CellEvent → CellShape → CellShape
shape_after_event (Prepare call legs keys dropped) shape = offered_shape (section_flags dropped) (map (brought_shape shape.config) legs) keys call shape
shape_after_event (Commit signal) shape = answered_shape signal shape
shape_after_event (Relay x) shape = shape
shape_after_event (Expire due) shape = shape
shape_after_event (Read reports) shape = shape
shape_after_event End shape = ended_shape shape.config

-- after a history, the latest first, that begins with this shape
abbrev pub shape_by : List CellEntry → CellShape → CellShape
shape_by [] shape = shape
shape_by (e ∷ h) shape = shape_after_event e.event (shape_by h shape)

-- the holder of a box after a history, the latest first, that begins with this one
abbrev pub holder_by : List BoxEvent → Option Holder → Option Holder
holder_by [] held = held
holder_by (Open leg ∷ h) held = Some leg
holder_by (Take half taken ∷ h) held = holder_by h held
holder_by (Close ∷ h) held = None
