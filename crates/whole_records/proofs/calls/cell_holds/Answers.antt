use Rattle.std.proofs.Common.{◌∙◌, sym, subst, List}
use Rattle.std.proofs.lemmas.Bool.{false≢true}
use Rattle.call_cell.specs.declared.saved.LegSaved.{LegSaved}
use Rattle.whole_records.specs.RecordParts.{SectionsHold}
use Rattle.whole_records.specs.SavedShapes.{saved_dialog_shape}
use Rattle.whole_records.proofs.CellCalls.{leased_of, cell_of_parts}
use Rattle.whole_records.proofs.calls.cell_holds.Goals as goal

pub returns-then-not-are_leased : goal.returns-then-not-are_leased
returns-then-not-are_leased c = (
  λ t. absurd (false≢true t),
  λ h.
      sym c.if-not-are_leased.true
      ∙ c.are_leased.ensures.1 (leased_of c.args.config.now c.args.generations.now c.args.call.now c.args.cell.now c.deref.result.now c.deref.ensures.value h),
)

pub returns-then-sections_hold : goal.returns-then-sections_hold
returns-then-sections_hold c =
    let sections = subst (λ (legs : List LegSaved). SectionsHold c.args.config.now (saved_dialog_shape c.args.call.now.dialog) legs)
    c.deref-2.ensures.value (c.sections_hold.ensures.0 c.if-sections_hold.true) in (
      λ t. cell_of_parts c.args.config.now c.args.generations.now c.args.call.now c.args.cell.now c.deref.result.now c.deref.ensures.value
          (c.is_same.ensures.0 c.if-not-is_same.false) (c.is_call.ensures.0 c.if-not-is_call.false) (c.are_leased.ensures.0 c.if-not-are_leased.false) sections
          (c.counts_agree.ensures.0 t),
      λ h. c.counts_agree.ensures.1 h.agrees.counts,
    )
