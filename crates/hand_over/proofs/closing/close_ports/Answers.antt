use Rattle.std.proofs.Common.{◌≡◌, ◌∙◌, refl, sym, ap, subst, ◌+◌, ◌++◌, ℕ, List, [], length, drop, Option, Some, arith}
use Rattle.std.specs.Prelude.{slice_get, option_map}
use Rattle.std.proofs.Math.ListN.{drop_of_length-le}
use Rattle.relay_outside.proofs.Telling.{gained_none}
use Rattle.relay_outside.specs.DeviceLogs.{Gained}
use Rattle.call_board.specs.Shapes.{LiveShape}
use Rattle.media_ports.proofs.Leased.{drop_next}
use Rattle.relay_core.specs.declared.part.Part.{Part}
use Rattle.hand_over.specs.Closings.{legs_at, calls_there, live_calls, call_closings, all_closings}
use Rattle.hand_over.specs.ClosingSteps.{IsCellReady, ClosesSome, legs_with_ends}
use Rattle.hand_over.proofs.RestCalls.{AreRest, rest_stays, closed_more}
use Rattle.hand_over.proofs.LeftCells.{none_left, left_more}
use Rattle.hand_over.proofs.AllPorts.{call_at, cells_free, cells_within, board_kept, rest_of_whole, all_shut, closed_all}
use Rattle.hand_over.proofs.closing.close_ports.Goals as goal

pub loop-index-init : goal.loop-index-init
loop-index-init g c =
    let log = g.P.PortMaker.log c.args.ports.now in
    let taken = g.P.In.InEnd.log in
    let sent = g.P.Out.OutEnd.log in
    let config = c.args.config.now in
    let parts = c.args.parts.now in
    record {
      rest = rest_of_whole taken sent config parts log c.requires.whole c.requires.home c.requires.«open»;
      closes = gained_none log (λ more. more ++ call_closings taken sent config parts (live_calls parts) ≡ all_closings taken sent config parts) refl;
      left = none_left config parts;
      length_is = refl;
      later = omega arith;
    }

pub cell_of_call-cell-requires-clause-board : goal.cell_of_call-cell-requires-clause-board
cell_of_call-cell-requires-clause-board g c =
    let whole = c.requires.whole in
    (whole.board, board_kept c.args.config.now c.args.parts.now c.loop-index.parts c.loop-index.index whole c.loop-index.invariant.left ∙ whole.board_is)

pub cell_of_call-cell-requires-clause-index : goal.cell_of_call-cell-requires-clause-index
cell_of_call-cell-requires-clause-index g c =
    let kept = board_kept c.args.config.now c.args.parts.now c.loop-index.parts c.loop-index.index c.requires.whole c.loop-index.invariant.left in
    let same = ap (λ (o : Option (Part _ _)). length (calls_there o)) kept in
    let count = c.live_count-index-end.ensures in
    let before = c.loop-index-test.true in
    omega (arith, same, count, before)

pub close_cell-requires-clause-ready : goal.close_cell-requires-clause-ready
close_cell-requires-clause-ready g c =
    let log = g.P.PortMaker.log c.loop-index.ports in
    let taken = g.P.In.InEnd.log in
    let sent = g.P.Out.OutEnd.log in
    let config = c.args.config.now in
    let parts = c.loop-index.parts in
    let calls = live_calls c.args.parts.now in
    let i = c.loop-index.index in
    let kept = board_kept config c.args.parts.now parts i c.requires.whole c.loop-index.invariant.left in
    let next = call_at calls i c.cell_of_call-cell.result
    (subst (λ (o : Option (Part _ _)). option_map (λ (call : LiveShape). call.cell) (slice_get (calls_there o) i) ≡ Some c.cell_of_call-cell.result) kept c.cell_of_call-cell.ensures) in
    let rest = subst (λ (l : List LiveShape). AreRest taken sent config parts log l) (drop_next calls i next.call next.call_is) c.loop-index.invariant.rest in
    subst (λ (k : ℕ). IsCellReady taken sent config parts log k) (sym next.cell_is) rest.0

pub loop-index-preserved : goal.loop-index-preserved
loop-index-preserved g c =
    let first = g.P.PortMaker.log c.args.ports.now in
    let was = g.P.PortMaker.log c.loop-index.ports in
    let now = g.P.PortMaker.log c.close_cell.new.ports in
    let taken = g.P.In.InEnd.log in
    let sent = g.P.Out.OutEnd.log in
    let config = c.args.config.now in
    let old = c.args.parts.now in
    let mid = c.loop-index.parts in
    let new = c.close_cell.new.parts in
    let calls = live_calls old in
    let i = c.loop-index.index in
    let inv = c.loop-index.invariant in
    let whole = c.requires.whole in
    let kept = board_kept config old mid i whole inv.left in
    let next = call_at calls i c.cell_of_call-cell.result
    (subst (λ (o : Option (Part _ _)). option_map (λ (call : LiveShape). call.cell) (slice_get (calls_there o) i) ≡ Some c.cell_of_call-cell.result) kept c.cell_of_call-cell.ensures) in
    let call = next.call in
    let at = drop_next calls i call next.call_is in
    let rest = subst (λ (l : List LiveShape). AreRest taken sent config mid was l) at inv.rest in
    let steps = subst (λ (k : ℕ). ClosesSome taken sent config k mid was new now) next.cell_is c.close_cell.ensures.steps in
    let none = subst (λ (k : ℕ). legs_with_ends (legs_at new k) ≡ []) next.cell_is c.close_cell.ensures.none in
    let closed = subst (λ (l : List LiveShape). Gained first was (λ more. more ++ call_closings taken sent config mid l ≡ all_closings taken sent config old)) at inv.closes in
    let before = inv.later in
    let after = c.close_cell.ensures.later in
    record {
      rest = rest_stays taken sent config call.cell mid new was now (drop (i + 1) calls) steps rest.1 rest.2;
      closes = closed_more taken sent config mid new first was now call (drop (i + 1) calls) (all_closings taken sent config old) rest steps none closed;
      left = left_more taken sent config (config.max_sessions + 1) calls i call old mid new was now (cells_free config old whole) (cells_within config old whole) next.call_is steps none inv.left;
      length_is = steps.length_is ∙ inv.length_is;
      later = omega (arith, before, after);
    }

pub returns-clause-closes : goal.returns-clause-closes
returns-clause-closes g c =
    let taken = g.P.In.InEnd.log in
    let sent = g.P.Out.OutEnd.log in
    let calls = live_calls c.args.parts.now in
    closed_all taken sent c.args.config.now c.args.parts.now c.loop-index.parts (g.P.PortMaker.log c.args.ports.now) (g.P.PortMaker.log c.loop-index.ports)
    (drop c.loop-index.index calls) (all_closings taken sent c.args.config.now c.args.parts.now) (let end = c.live_count-index-end.ensures in let over = c.loop-index-test.false in drop_of_length-le calls (omega (arith, end, over))) c.loop-index.invariant.closes

pub returns-clause-shut : goal.returns-clause-shut
returns-clause-shut g c =
    let taken = g.P.In.InEnd.log in
    let sent = g.P.Out.OutEnd.log in
    let calls = live_calls c.args.parts.now in
    all_shut taken sent c.args.config.now c.args.parts.now (g.P.PortMaker.log c.args.ports.now) (g.P.PortMaker.log c.loop-index.ports) c.requires.whole c.requires.home c.requires.«open»
    (closed_all taken sent c.args.config.now c.args.parts.now c.loop-index.parts (g.P.PortMaker.log c.args.ports.now) (g.P.PortMaker.log c.loop-index.ports)
    (drop c.loop-index.index calls) (all_closings taken sent c.args.config.now c.args.parts.now) (let end = c.live_count-index-end.ensures in let over = c.loop-index-test.false in drop_of_length-le calls (omega (arith, end, over))) c.loop-index.invariant.closes)
