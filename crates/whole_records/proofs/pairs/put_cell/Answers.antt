use Rattle.std.proofs.Common.{◌≡◌, ◌∙◌, ◌++◌, ◌-◌, ℕ, List, IfOk, map, get_or, sym, ap, subst, arith}
use Rattle.call_cell.specs.Shapes.{CellShape}
use Rattle.call_cell.specs.declared.saved.LegSaved.{LegSaved}
use Rattle.call_cell.specs.declared.saved.CellSaved.{CellSaved}
use Rattle.call_shapes.specs.Turns.{pairs_held, holders_of}
use Rattle.whole_records.proofs.CellPlaces.{cell_there}
use Rattle.whole_records.proofs.Puts.{leg_pairs}
use Rattle.whole_records.proofs.pairs.put_cell.Goals as goal

pub returns : goal.returns
returns c = λ config.
    let cell : CellSaved = c.index-cells-place.result in
    let there_ = cell_there config c.args.cells.now c.args.number cell (omega arith) (omega arith) in
    let same =
    ap (λ (l : List LegSaved). map (λ (leg : LegSaved). leg.holder.pair) l) c.deref.ensures.value ∙ leg_pairs (get_or c.args.cells.now (c.args.number - 1) cell).legs.items
    ∙ ap (λ (one : CellShape). pairs_held (holders_of one.legs)) (sym there_) in
    subst (λ (l : List ℕ). IfOk c.put_legs.result (λ done. c.put_legs.new.pairs.items ≡ c.args.pairs.now.items ++ l)) same c.put_legs.ensures
