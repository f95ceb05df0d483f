use Rattle.std.proofs.Common.{◌∙◌, sym, subst, All}
use Rattle.std.proofs.lemmas.Bool.{false≢true}
use Rattle.state_reads.specs.Bounds.{LegRanges}
use Rattle.state_reads.proofs.OneTree.{from_some}
use Rattle.state_reads.proofs.CellNumbers.{cell_tells}
use Rattle.state_reads.proofs.cells.cell_of_value.Goals as goal

pub returns-else-cell_stands-clause-none : goal.returns-else-cell_stands-clause-none
returns-else-cell_stands-clause-none c = λ saved fits is counts.
    let read = c.in-Some.saved in
    let made = from_some _ _ read c.in_ok-saved.ensures.some c.in-Some.is in
    absurd (false≢true (sym c.if-cell_stands.false ∙ c.cell_stands.ensures.1
    (cell_tells read saved (subst (All LegRanges) c.deref.ensures.value c.legs_fit.ensures) fits (sym made ∙ is) counts)))
