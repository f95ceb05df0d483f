-- A step of a place is also one of a list that goes on from another's: it doesn't know the numbers of its takes and of its board entry.
use Rattle.std.proofs.Common.{◌≡◌, ap, refl, ℕ, ◌+◌, List, [], ◌∷◌, ◌++◌, map}
use Rattle.relay_outside.specs.declared.ports.InCall.{InCall}
use Rattle.relay_outside.specs.declared.ports.OutCall.{OutCall}
use Rattle.relay_outside.specs.declared.settings.Config.{Config}
use Rattle.relay_outside.specs.DeviceLogs.{EndLog}
use Rattle.turn_table.specs.declared.machine.Entry as table
use Rattle.turn_table.specs.Histories.{Leaves}
use Rattle.port_pool.specs.declared.boxes.PairBox.{PairBox}
use Rattle.call_cell.specs.declared.cell.Cell as cell
use Rattle.call_cell.specs.Cells.{CellEvent, Prepare, Commit, Relay, Expire, Read, End}
use Rattle.call_board.specs.declared.board.Board as board
use Rattle.relay_core.specs.declared.part.Part.{Part}
use Rattle.relay_core.specs.declared.part.Part.TheVariants as part
use Rattle.relay_core.specs.Entries.{Event, Board, Cell, Box, Entry, front}
use Rattle.relay_core.specs.Records.{Made, entry_of}
use Rattle.relay_core.specs.Steps.{BoardSteps, BoxSteps, CellStepsBy, CellSteps}
use Rattle.relay_core.specs.Continued.{later_relayed, later_in_cell, later_event, later}
use Rattle.relay_core.proofs.Stays.{Steps, onto}

abbrev pub later_made : Config → List Entry → Made → Made
later_made config before made = record {
  handed = made.handed;
  moment = made.moment;
  board = made.board + front before 0;
  returned = made.returned;
  event = later_event config before made.event;
  left = made.left;
  kept = made.kept;
}

board_later : (config : Config) (before : List Entry) (old new : board.Board) (made : Made) (event : Event) → BoardSteps old made event new
    → BoardSteps old (later_made config before made) (later_event config before event) new
board_later config before old new made (Board b) step = record {
  kept = step.kept;
  steps = λ h fitting for closed. (let s = step.steps h fitting for closed in record { moment_is = s.moment_is; fits = s.fits; stands = s.stands });
}
board_later config before old new made (Cell c) step = absurd step
board_later config before old new made (Box b) step = absurd step

box_later : {I : Type 0} (it : I → EndLog InCall) (ic : I → ℕ) (config : Config) (before : List Entry) (old new : PairBox I) (made : Made) (event : Event)
    → BoxSteps it ic old made event new → BoxSteps it ic old (later_made config before made) (later_event config before event) new
box_later it ic config before old new made (Box b) step = record {
  moment_is = step.moment_is;
  cells_are = step.cells_are;
  at_is = step.at_is;
  ends = step.ends;
  stands = step.stands;
}
box_later it ic config before old new made (Board b) step = absurd step
box_later it ic config before old new made (Cell c) step = absurd step

cell_later_by : {O : Type 0} (ot : O → EndLog OutCall) (oc : O → ℕ) (config : Config) (before : List Entry) (old new : cell.Cell O) (made : Made) (event : CellEvent)
    → CellStepsBy ot oc old made event new → CellStepsBy ot oc old (later_made config before made) (later_in_cell config before event) new
cell_later_by ot oc config before old new made (Prepare call legs keys dropped) step = record {
  signal = step.signal;
  legs_are = step.legs_are;
  shape = step.shape;
  opened = step.opened;
  gone = step.gone;
  left_are = step.left_are;
  moves = step.moves;
  steps = step.steps;
  forms = step.forms;
}
cell_later_by ot oc config before old new made (Commit signal) step =
    record { shape = step.shape; gone = step.gone; left_are = step.left_are; moves = step.moves; steps = step.steps; forms = step.forms }
cell_later_by ot oc config before old new made (Relay x) step = record {
  is_told = ap (later_relayed config before) step.is_told;
  shape = step.shape;
  counts = step.counts;
  legs = step.legs;
  buffer = step.buffer;
  steps = λ settings h take for. step.steps settings h take for;
}
cell_later_by ot oc config before old new made (Expire due) step = record { shape = step.shape; legs = step.legs; steps = step.steps }
cell_later_by ot oc config before old new made (Read reports) step = record { same = step.same; steps = step.steps }
cell_later_by ot oc config before old new made End step =
    record { shape = step.shape; gone = step.gone; left_are = step.left_are; none = step.none; went = step.went; steps = step.steps; forms = step.forms }

cell_later : {O : Type 0} (ot : O → EndLog OutCall) (oc : O → ℕ) (config : Config) (before : List Entry) (old new : cell.Cell O) (made : Made) (event : Event)
    → CellSteps ot oc old made event new → CellSteps ot oc old (later_made config before made) (later_event config before event) new
cell_later ot oc config before old new made (Cell c) step = cell_later_by ot oc config before old new made c step
cell_later ot oc config before old new made (Board b) step = absurd step
cell_later ot oc config before old new made (Box b) step = absurd step

module _ {T I O : Type 0} (it : I → EndLog InCall) (ic : I → ℕ) (ot : O → EndLog OutCall) (oc : O → ℕ) (config : Config) (before : List Entry) where
  pub step_later : (old new : Part I O) (made : Made) (outcome : T) → Steps it ic ot oc old made outcome new → Steps it ic ot oc old (later_made config before made) outcome new
  step_later (part.Board old) (part.Board new) made o step = board_later config before old new made made.event step
  step_later (part.Cell old) (part.Cell new) made o step = cell_later ot oc config before old new made made.event step
  step_later (part.Pair old) (part.Pair new) made o step = box_later it ic config before old new made made.event step
  step_later _ _ made o step = absurd step

  -- the row counted on
  abbrev pub later_row : table.Entry Made T → table.Entry Made T
  later_row row = record { place = row.place; number = row.number + front before row.place; event = later_made config before row.event; outcome = row.outcome }

  pub leaves_later : (a b : Part I O) (rows : List (table.Entry Made T)) → Leaves (Steps it ic ot oc) a rows b → Leaves (Steps it ic ot oc) a (map later_row rows) b
  leaves_later a b [] same = same
  leaves_later a b (row ∷ rows) l = (l.0, step_later a l.0 row.event row.outcome l.1, leaves_later l.0 b rows l.2)

  -- behind a history, the rows counted on are their entries counted on
  pub onto_later : (rows : List (table.Entry Made T)) (h past : List Entry)
      → onto (map later_row rows) (map (later config before) h ++ past) ≡ map (later config before) (onto rows h) ++ past
  onto_later [] h past = refl
  onto_later (row ∷ rows) h past = onto_later rows (entry_of row ∷ h) past
