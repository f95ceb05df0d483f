-- What the turns of a lane give: at a cell's place a cell, at a box's place a box.
use Rattle.std.proofs.Common.{◌≡◌, refl, ◌∙◌, ap, subst, ℕ, suc, ◌<◌, ◌≤◌, List, [], ◌∷◌, Option, Some, None, length, length-append, arith, IfSome}
use Rattle.relay_outside.specs.declared.ports.InCall.{InCall}
use Rattle.relay_outside.specs.declared.ports.OutCall.{OutCall}
use Rattle.relay_outside.specs.declared.settings.Config.{Config}
use Rattle.relay_outside.specs.DeviceLogs.{EndLog}
use Rattle.turn_table.specs.declared.machine.Entry as table
use Rattle.turn_table.specs.declared.view.View.{View}
use Rattle.turn_table.specs.Histories.{Leaves}
use Rattle.turn_table.specs.Steps.{GivenView}
use Rattle.port_pool.specs.declared.holder.Holder.{Holder}
use Rattle.port_pool.specs.declared.boxes.PairBox.{PairBox}
use Rattle.port_pool.specs.Boxes.{BoxEvent, Open, holder}
use Rattle.port_pool.specs.PairBoxes.{BoxFor, holder_in, cells_of}
use Rattle.relay_core.specs.declared.part.Part.{Part}
use Rattle.relay_core.specs.declared.part.Part.TheVariants as part
use Rattle.relay_core.specs.Entries.{Event, Board, Cell, Box}
use Rattle.relay_core.specs.Records.{Made}
use Rattle.relay_core.specs.Steps.{BoxSteps, IsReserved}
use Rattle.relay_core.specs.PlaceHistories.{IsCellPart}
use Rattle.relay_core.specs.FirstPlaces.{AreParts, BeginsAs}
use Rattle.relay_core.proofs.Stays.{cell_stays}
use Rattle.relay_core.proofs.Given.{begins_as}
use Rattle.media_lane.specs.Starts.{HasCells, IsBoxOf, IsPairPart, HasLaneStarts}
use Rattle.media_lane.specs.Busy.{BusySteps}

-- the history of a box that was opened for this leg, or of a closed one
abbrev opened_for : Option Holder → List BoxEvent
opened_for None = []
opened_for (Some leg) = Open leg ∷ []

opened_holder : (o : Option Holder) → holder (opened_for o) ≡ o
opened_holder None = refl
opened_holder (Some leg) = refl

if_there : (o : Option Holder) (P : Holder → Type 0) → ((leg : Holder) → o ≡ Some leg → P leg) → IfSome o P
if_there None P f = tt
if_there (Some leg) P f = f leg refl

module _ {I : Type 0} where
  -- a box with these cells stands for a history
  pub stands_for : (cells : ℕ) (box : PairBox I) → HasCells cells box → (h : List BoxEvent) × BoxFor box h
  stands_for cells box has = (
    opened_for (holder_in box),
    record {
      holder_is = opened_holder (holder_in box);
      cell_is = if_there (holder_in box) (λ leg. (1 ≤ leg.cell) × (leg.cell ≤ cells_of box)) (λ leg q. (let w = has.held_by leg q in (w.0, let c = has.cells_are in let b = w.1 in omega (arith, b, c))));
    },
  )

  -- and keeps them, where it stands for one
  held_by : (box : PairBox I) (h : List BoxEvent) → BoxFor box h → (o : Option Holder) → holder_in box ≡ o → (leg : Holder) → o ≡ Some leg → (1 ≤ leg.cell) × (leg.cell ≤ cells_of box)
  held_by box h for None q leg p = absurd (let z = p in cc)
  held_by box h for (Some held) q leg p =
      let is : held ≡ leg = cc in
      subst (λ (x : Holder). (1 ≤ x.cell) × (x.cell ≤ cells_of box)) is
      (subst (λ (x : Option Holder). IfSome x (λ leg. (1 ≤ leg.cell) × (leg.cell ≤ cells_of box))) q for.cell_is)

  pub has_cells : (cells : ℕ) (box : PairBox I) (h : List BoxEvent) → BoxFor box h → cells_of box ≡ cells → HasCells cells box
  has_cells cells box h for is = record {
    cells_are = is;
    held_by = λ leg q. (let w = held_by box h for (holder_in box) refl leg q in (w.0, let b = w.1 in omega (arith, b, is)));
  }

  box_kept : (it : I → EndLog InCall) (ic : I → ℕ) (cells : ℕ) (old new : PairBox I) (made : Made) (ev : Event) → BoxSteps it ic old made ev new
      → HasCells cells old → HasCells cells new
  box_kept it ic cells old new made (Box e) step has =
      let s = stands_for cells old has in
      has_cells cells new (e ∷ s.0) (step.stands s.0 s.1).1 (step.cells_are ∙ has.cells_are)
  box_kept it ic cells old new made (Cell e) step has = absurd step
  box_kept it ic cells old new made (Board e) step has = absurd step

module _ {I O : Type 0} (it : I → EndLog InCall) (ic : I → ℕ) (ot : O → EndLog OutCall) (oc : O → ℕ) where
  box_step : (cells : ℕ) (a b : Part I O) (made : Made) → BusySteps it ic ot oc a made tt b → IsBoxOf cells a → IsBoxOf cells b
  box_step cells (part.Board old) (part.Board new) made step is = is
  box_step cells (part.Cell old) (part.Cell new) made step is = is
  box_step cells (part.Pair old) (part.Pair new) made step is = box_kept it ic cells old new made made.event step is
  box_step cells _ _ made step is = absurd step

  box_stays : (cells : ℕ) (a b : Part I O) (rows : List (table.Entry Made (Unit {0}))) → Leaves (BusySteps it ic ot oc) a rows b → IsBoxOf cells a → IsBoxOf cells b
  box_stays cells a b [] same is = subst (λ (x : Part I O). IsBoxOf cells x) same is
  box_stays cells a b (row ∷ rows) l is = box_stays cells l.0 b rows l.2 (box_step cells a l.0 row.event l.1 is)

  -- by any hand, a box's turn gives a box of these cells, and a cell's turn a cell
  pub gives_box : (config : Config) (v : View (Part I O) Made (Unit {0})) (k n : ℕ) (x : Part I O) → HasLaneStarts config v.starts → config.max_sessions < k
      → GivenView (BusySteps it ic ot oc) IsReserved k v n x → IsBoxOf config.max_sessions x
  gives_box config v k n x begins above g =
      box_stays config.max_sessions g.start x g.history g.leaves (begins.boxes k g.start g.starts above)

  pub gives_cell : (config : Config) (v : View (Part I O) Made (Unit {0})) (k n : ℕ) (x : Part I O) → HasLaneStarts config v.starts → 1 ≤ k → k ≤ config.max_sessions
      → GivenView (BusySteps it ic ot oc) IsReserved k v n x → IsCellPart x
  gives_cell config v k n x begins low high g = cell_stays it ic ot oc g.start x g.history g.leaves (begins.cells k g.start g.starts low high)

module _ {I O : Type 0} where
  pub is_pair : (cells : ℕ) (x : Part I O) → IsBoxOf cells x → IsPairPart x
  is_pair cells (part.Pair box) is = tt
  is_pair cells (part.Board board) is = absurd is
  is_pair cells (part.Cell cell) is = absurd is

  -- the parts of a configuration are what a lane's table begins as
  cell_begins : (config : Config) (k : ℕ) (x : Part I O) → BeginsAs config k x → 1 ≤ k → k ≤ config.max_sessions → IsCellPart x
  cell_begins config k (part.Cell cell) is low high = tt
  cell_begins config k (part.Board board) is low high = absurd (let z = is.0 in omega (arith, z, low))
  cell_begins config k (part.Pair box) is low high = absurd (let z = is.0 in omega (arith, z, high))

  box_begins : (config : Config) (k : ℕ) (x : Part I O) → BeginsAs config k x → config.max_sessions < k → IsBoxOf config.max_sessions x
  box_begins config k (part.Pair box) is above = has_cells config.max_sessions box [] is.1.0 is.1.2
  box_begins config k (part.Board board) is above = absurd (let z = is.0 in omega (arith, z, above))
  box_begins config k (part.Cell cell) is above = absurd (let z = is.1 in omega (arith, z, above))

  pub parts_begin : (config : Config) (parts : List (Part I O)) → AreParts config parts → HasLaneStarts config parts
  parts_begin config parts are = record {
    as_many = ap (λ (xs : List (Part I O)). length xs) are.parts_are
        ∙ ap (λ (n : ℕ). suc n) (length-append are.cells are.boxes)
        ∙ (let c = are.cell_count in let b = are.box_count in omega (arith, c, b));
    cells = λ k x q low high. cell_begins config k x (begins_as config parts are k x q) low high;
    boxes = λ k x q above. box_begins config k x (begins_as config parts are k x q) above;
  }
