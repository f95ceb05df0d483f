use Rattle.std.proofs.Common.{refl, ap, true, false, List, [], ◌∷◌, None}
use Rattle.call_cell.specs.Cells.{since_end}
use Rattle.call_cell.proofs.Ends.{cell_ends}
use Rattle.call_cell.specs.declared.leg.Leg.{Leg}
use Rattle.call_cell.specs.Shapes.{cell_leg_shapes}
use Rattle.call_cell.proofs.Shaped.{shape_ended}
use Rattle.call_cell.proofs.Ended.{all_go, eight_true}
use Rattle.call_cell.proofs.Forms.{forms_go}
use Rattle.call_cell.proofs.cell.Cell.end.Goals as goal

pub returns-clause-shape : goal.returns-clause-shape
returns-clause-shape g c small =
    let gone = shape_ended (true ∷ true ∷ true ∷ true ∷ true ∷ true ∷ true ∷ true ∷ []) c.args.self.now.legs.items c.part.new.legs.items c.args.gone.now c.part.new.gone small eight_true c.requires.empty c.part.ensures.parts in
    ap (λ (l : List (Leg _)). record { config = c.args.self.now.config; call = None; is_committed = false; legs = cell_leg_shapes l }) gone.0

pub returns-clause-legs : goal.returns-clause-legs
returns-clause-legs g c small =
    (shape_ended (true ∷ true ∷ true ∷ true ∷ true ∷ true ∷ true ∷ true ∷ []) c.args.self.now.legs.items c.part.new.legs.items c.args.gone.now c.part.new.gone small eight_true c.requires.empty c.part.ensures.parts).1

pub returns-clause-ends : goal.returns-clause-ends
returns-clause-ends g c config h for =
    let gone = all_go config (since_end h) (true ∷ true ∷ true ∷ true ∷ true ∷ true ∷ true ∷ true ∷ []) c.args.self.now.legs.items c.part.new.legs.items c.args.gone.now c.part.new.gone for.legs_for eight_true c.requires.empty c.part.ensures.parts in
    cell_ends config c.args.self.now _ h c.part.new.gone for refl refl refl refl gone.0 gone.1

pub returns-clause-none : goal.returns-clause-none
returns-clause-none g c small =
    (shape_ended (true ∷ true ∷ true ∷ true ∷ true ∷ true ∷ true ∷ true ∷ []) c.args.self.now.legs.items c.part.new.legs.items c.args.gone.now c.part.new.gone small eight_true c.requires.empty c.part.ensures.parts).0

pub returns-clause-forms : goal.returns-clause-forms
returns-clause-forms g c =
    let old = c.args.self.now.legs.items in
    forms_go old old c.part.new.legs.items c.args.gone.now c.part.new.gone refl c.part.ensures.whole c.requires.empty
