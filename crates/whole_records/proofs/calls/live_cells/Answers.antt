use Rattle.std.proofs.Common.{◌∙◌, ◌+◌, ℕ, Bool, true, List, map, take, sym, ap, subst, arith}
use Rattle.std.proofs.lemmas.List.{with_items_is, take_all}
use Rattle.call_board.specs.Shapes.{with_mark}
use Rattle.call_board.specs.declared.saved_board.CallSaved.{CallSaved}
use Rattle.call_shapes.specs.WholeRelay.{AreMarked}
use Rattle.whole_records.proofs.Marks.{mark_more, cells_more}
use Rattle.whole_records.proofs.Puts.{call_cells}
use Rattle.whole_records.proofs.calls.live_cells.Goals as goal

pub loop-call-preserved : goal.loop-call-preserved
loop-call-preserved c =
    let calls : List CallSaved = c.args.calls.now in
    let i = c.loop-call.call-index in
    let one : CallSaved = c.call-item.result in
    let before : List ℕ = map (λ (call : CallSaved). call.cell) (take i calls) in
    let whole = with_items_is c.loop-call.marks c.mark_live.new.marks (omega (arith, c.mark_live.auto.marks, c.deref_mut.ensures.len)) in
    let after = whole ∙ c.mark_live.ensures ∙ ap (λ (those : List Bool). with_mark one.cell true those) c.deref_mut.ensures.value in
    let more = cells_more calls i one c.loop-call-test.true c.call-item.is in
    subst (λ (those : List Bool). AreMarked c.args.count those (map (λ (call : CallSaved). call.cell) (take (i + 1) calls))) (sym after)
    (subst (λ (cells : List ℕ). AreMarked c.args.count (with_mark one.cell true c.loop-call.marks.items) cells) (sym more)
    (mark_more c.args.count c.loop-call.marks.items before one.cell c.loop-call.invariant))

pub returns : goal.returns
returns c =
    let calls : List CallSaved = c.args.calls.now in
    let all = ap (λ (l : List CallSaved). map (λ (call : CallSaved). call.cell) l) (take_all c.loop-call.call-index calls c.loop-call-test.false) ∙ call_cells calls in
    subst (λ (cells : List ℕ). AreMarked c.args.count c.loop-call.marks.items cells) all c.loop-call.invariant
