use Rattle.std.proofs.Common.{rules, ◌≡◌, ◌+◌, ◌∷◌, List, drop, drop_of_length-le}
use Rattle.std.proofs.lemmas.List.{drop_more}
use Rattle.call_board.specs.declared.saved_board.CallSaved.{CallSaved}
use Rattle.whole_records.proofs.Puts.{cell_put, cells_put}
use Rattle.whole_records.proofs.pairs.put_held.Goals as goal

pub loop-call-preserved : goal.loop-call-preserved
loop-call-preserved c =
    let calls : List CallSaved = c.args.calls.now in
    let i = c.loop-call.call-index in
    let one : CallSaved = c.call-item.result in
    let step : drop i calls ≡ one ∷ drop (i + 1) calls = search (rules, drop_more) in
    λ config. cell_put config c.args.cells.now c.loop-call.pairs.items c.put_cell.new.pairs.items c.args.pairs.now.items one (drop i calls) (drop (i + 1) calls) calls
    (c.loop-call.invariant config) step (c.in_ok-put_cell.ensures config)

pub returns : goal.returns
returns c =
    let calls : List CallSaved = c.args.calls.now in
    let i = c.loop-call.call-index in
    λ config. cells_put config c.args.cells.now c.loop-call.pairs.items c.args.pairs.now.items (drop i calls) calls (c.loop-call.invariant config)
    (drop_of_length-le calls c.loop-call-test.false)
