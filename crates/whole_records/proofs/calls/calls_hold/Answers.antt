use Rattle.std.proofs.Common.{◌∙◌, sym, refl}
use Rattle.std.proofs.lemmas.Bool.{false≢true}
use Rattle.call_board.specs.declared.saved_board.CallSaved.{CallSaved}
use Rattle.whole_records.specs.SavedShapes.{saved_cell_at}
use Rattle.whole_records.specs.RecordParts.{CellHolds}
use Rattle.whole_records.proofs.Each.{is_in, each_more, each_all, each_none}
use Rattle.whole_records.proofs.calls.calls_hold.Goals as goal

pub loop-call-init : goal.loop-call-init
loop-call-init c =
    each_none (λ (call : CallSaved). CellHolds c.args.config.now c.args.generations.now call (saved_cell_at c.args.config.now c.args.cells.now call.cell)) c.args.calls.now

pub loop-call-preserved : goal.loop-call-preserved
loop-call-preserved c =
    each_more (λ (call : CallSaved). CellHolds c.args.config.now c.args.generations.now call (saved_cell_at c.args.config.now c.args.cells.now call.cell)) c.args.calls.now
    c.loop-call.call-index c.call-item.result c.call-item.result c.loop-call-test.true c.call-item.is c.loop-call.invariant (c.call_holds.ensures.0 c.if-not-call_holds.false)

pub returns-then-not-call_holds : goal.returns-then-not-call_holds
returns-then-not-call_holds c = (
  λ t. absurd (false≢true t),
  λ all.
      let one = all c.call-item.result (is_in c.args.calls.now c.loop-call.call-index c.call-item.result c.loop-call-test.true c.call-item.is) in
      sym c.if-not-call_holds.true ∙ c.call_holds.ensures.1 one,
)

pub returns : goal.returns
returns c = (
  λ t. each_all (λ (call : CallSaved). CellHolds c.args.config.now c.args.generations.now call (saved_cell_at c.args.config.now c.args.cells.now call.cell)) c.args.calls.now
      c.loop-call.call-index c.loop-call-test.false c.loop-call.invariant,
  λ all. refl,
)
