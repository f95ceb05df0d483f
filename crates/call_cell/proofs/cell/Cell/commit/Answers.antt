use Rattle.std.proofs.Common.{refl, ◌∙◌, ap, arith, subst, true, List, length}
use Rattle.std.proofs.lemmas.List.{with_items_is}
use Rattle.call_cell.specs.declared.leg.Leg.{Leg}
use Rattle.call_cell.specs.Cells.{since_end}
use Rattle.call_cell.specs.Commits.{LegsCommit}
use Rattle.call_cell.specs.DroppedLegs.{Part, StayWhole}
use Rattle.call_cell.specs.Shapes.{CellLegShape}
use Rattle.call_cell.proofs.Answered.{cell_commits, answered}
use Rattle.call_cell.proofs.Shaped.{shape_answered}
use Rattle.call_cell.proofs.Forms.{forms_committed, forms_go}
use Rattle.call_cell.proofs.cell.Cell.commit.Goals as goal

pub returns-clause-commits : goal.returns-clause-commits
returns-clause-commits g c config h for names =
    let signal = c.args.signal.now in
    let old = c.args.self.now.legs.items in
    let mid = c.commit_legs.new.legs in
    let value = c.as_mut_slice.ensures.value in
    let long = c.commit_legs.auto.legs ∙ ap (λ (l : List (Leg _)). length l) value in
    let commits = subst (λ (l : List (Leg _)). LegsCommit signal l mid) value c.commit_legs.ensures in
    let items = with_items_is c.args.self.now.legs mid (omega (arith, c.commit_legs.auto.legs, c.as_mut_slice.ensures.len)) in
    let part = subst (λ (l : List (Leg _)). Part c.rejected.result l c.part.new.legs.items c.args.gone.now c.part.new.gone) items c.part.ensures.parts in
    cell_commits config c.args.self.now _ h signal c.args.now c.part.new.gone for refl c.max-self.ensures refl refl refl refl
    (λ m. answered config m signal (since_end h) c.rejected.result old mid c.part.new.legs.items c.args.gone.now c.part.new.gone
    for.legs_for names long commits c.rejected.ensures c.requires.empty part)

pub returns-clause-shape : goal.returns-clause-shape
returns-clause-shape g c small =
    let mid = c.commit_legs.new.legs in
    let value = c.as_mut_slice.ensures.value in
    let commits = subst (λ (l : List (Leg _)). LegsCommit c.args.signal.now l mid) value c.commit_legs.ensures in
    let items = with_items_is c.args.self.now.legs mid (omega (arith, c.commit_legs.auto.legs, c.as_mut_slice.ensures.len)) in
    let part = subst (λ (l : List (Leg _)). Part c.rejected.result l c.part.new.legs.items c.args.gone.now c.part.new.gone) items c.part.ensures.parts in
    let a = shape_answered c.args.signal.now c.rejected.result c.args.self.now.legs.items mid c.part.new.legs.items c.args.gone.now c.part.new.gone small
    (c.commit_legs.auto.legs ∙ ap (λ (l : List (Leg _)). length l) value) commits c.rejected.ensures c.requires.empty part in
    ap (λ (l : List CellLegShape). record { config = c.args.self.now.config; call = c.args.self.now.call; is_committed = true; legs = l }) a.legs

pub returns-clause-legs : goal.returns-clause-legs
returns-clause-legs g c small =
    let mid = c.commit_legs.new.legs in
    let value = c.as_mut_slice.ensures.value in
    let commits = subst (λ (l : List (Leg _)). LegsCommit c.args.signal.now l mid) value c.commit_legs.ensures in
    let items = with_items_is c.args.self.now.legs mid (omega (arith, c.commit_legs.auto.legs, c.as_mut_slice.ensures.len)) in
    let part = subst (λ (l : List (Leg _)). Part c.rejected.result l c.part.new.legs.items c.args.gone.now c.part.new.gone) items c.part.ensures.parts in
    (shape_answered c.args.signal.now c.rejected.result c.args.self.now.legs.items mid c.part.new.legs.items c.args.gone.now c.part.new.gone small
    (c.commit_legs.auto.legs ∙ ap (λ (l : List (Leg _)). length l) value) commits c.rejected.ensures c.requires.empty part).go

pub returns-clause-forms : goal.returns-clause-forms
returns-clause-forms g c =
    let old = c.args.self.now.legs.items in
    let mid = c.commit_legs.new.legs in
    let value = c.as_mut_slice.ensures.value in
    let commits = subst (λ (l : List (Leg _)). LegsCommit c.args.signal.now l mid) value c.commit_legs.ensures in
    let items = with_items_is c.args.self.now.legs mid (omega (arith, c.commit_legs.auto.legs, c.as_mut_slice.ensures.len)) in
    let whole = subst (λ (l : List (Leg _)). StayWhole l c.part.new.legs.items c.args.gone.now c.part.new.gone) items c.part.ensures.whole in
    forms_go old mid c.part.new.legs.items c.args.gone.now c.part.new.gone
    (forms_committed c.args.signal.now old mid (c.commit_legs.auto.legs ∙ ap (λ (l : List (Leg _)). length l) value) commits) whole c.requires.empty
