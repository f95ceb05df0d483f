use Rattle.std.proofs.Common.{◌≡◌, ◌∙◌, ℕ, Option, Some, None, sym, ap, subst, arith}
use Rattle.std.proofs.lemmas.Bool.{false≢true}
use Rattle.call_cell.specs.Shapes.{CellShape}
use Rattle.call_cell.specs.declared.saved.CellSaved.{CellSaved}
use Rattle.whole_records.specs.SavedShapes.{saved_cell_shape, saved_cell_at}
use Rattle.whole_records.specs.RecordParts.{CellHolds}
use Rattle.whole_records.proofs.CellPlaces.{cell_there, past_cells}
use Rattle.whole_records.proofs.calls.call_holds.Goals as goal
use Rattle.whole_records.proofs.calls.call_holds.Goals.{then-cell-eq0-via-then-cell-eq0, then-cell-eq0-via-else-cell-eq0+then-cell-cells}

pub returns-then-cell-eq0 : goal.returns-then-cell-eq0
returns-then-cell-eq0 c = (
  λ t. absurd (false≢true t),
  λ h.
      let number : ℕ = c.args.call.now.number in
      elim c.then-cell-eq0.branch [
        | then-cell-eq0-via-then-cell-eq0 w ↦
            let none : (saved_cell_at c.args.config.now c.args.cells.now c.args.call.now.cell).call ≡ None =
            ap (λ (k : ℕ). (saved_cell_at c.args.config.now c.args.cells.now k).call) w.if-cell-eq0.true in
            absurd (let e : ◌≡◌ {A = Option ℕ} None (Some number) = sym none ∙ h.agrees.call_is in cc)
        | then-cell-eq0-via-else-cell-eq0+then-cell-cells w ↦
            let none : (saved_cell_at c.args.config.now c.args.cells.now c.args.call.now.cell).call ≡ None =
            ap (λ (s : CellShape). s.call) (past_cells c.args.config.now c.args.cells.now c.args.call.now.cell w.if-cell-cells.true) in
            absurd (let e : ◌≡◌ {A = Option ℕ} None (Some number) = sym none ∙ h.agrees.call_is in cc)
      ],
)

pub returns : goal.returns
returns c =
    let cell : CellSaved = c.index-cells-cell.result in
    let there_ = cell_there c.args.config.now c.args.cells.now c.args.call.now.cell cell (omega arith) (omega arith) in
    let shape = ap (λ (one : CellSaved). saved_cell_shape one) c.index-cells-cell.is ∙ sym there_ in (
      λ t. subst (λ (s : CellShape). CellHolds c.args.config.now c.args.generations.now c.args.call.now s) shape (c.cell_holds.ensures.0 t),
      λ h. c.cell_holds.ensures.1 (subst (λ (s : CellShape). CellHolds c.args.config.now c.args.generations.now c.args.call.now s) (sym shape) h),
    )
