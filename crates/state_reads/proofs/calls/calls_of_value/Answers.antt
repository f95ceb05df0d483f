use Rattle.std.proofs.Common.{◌∙◌, sym, subst, All, List}
use Rattle.std.proofs.lemmas.Bool.{false≢true}
use Rattle.call_board.specs.declared.saved_board.CallSaved.{CallSaved}
use Rattle.state_reads.specs.Calls.{saved_numbers, saved_cells, saved_ids, CallsStand, CallRanges}
use Rattle.state_reads.proofs.OneTree.{from_some}
use Rattle.state_reads.proofs.CallNumbers.{calls_tell}
use Rattle.state_reads.proofs.calls.calls_of_value.Goals as goal

pub returns-else-branch-clause-none : goal.returns-else-branch-clause-none
returns-else-branch-clause-none c = λ calls fits is stand.
    let begun = c.args.begun in
    let count = c.args.count in
    let read : List CallSaved = c.in-Some.calls.items in
    let made = from_some _ _ _ c.in_ok-calls.ensures.some c.in-Some.is in
    let told = calls_tell begun count read calls (subst (All CallRanges) c.deref.ensures.value c.calls_fit.ensures) fits (sym made ∙ is) stand in
    absurd (false≢true (sym c.if-branch.false ∙ c.in_ok-calls_stand.ensures.1
    (subst (λ (l : List CallSaved). CallsStand begun count (saved_numbers l) (saved_cells l) (saved_ids l)) (sym c.deref-2.ensures.value) told)))
