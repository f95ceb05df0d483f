use Rattle.std.specs.Prelude.{◌==◌}
use Rattle.std.proofs.Common.{refl, ap, sym, subst, ◌∙◌, ◌≡◌, ◌-◌, Some, List, Bool, false, set, arith}
use Rattle.std.proofs.lemmas.List.{with_items_is}
use Rattle.call_board.specs.declared.live_call.LiveCall.{LiveCall}
use Rattle.call_board.specs.Boards.{CallsFor, CellsFor, CallMatches}
use Rattle.call_board.specs.Views.{CallView, without}
use Rattle.std.specs.Option.{option_map}
use Rattle.call_board.proofs.Shown.{shown_call}
use Rattle.call_board.proofs.Ended.{removed, cells_after, is_positive}
use Rattle.call_board.specs.CallNumbers.{AreBelow}
use Rattle.call_board.proofs.Numbered.{without_one}
use Rattle.call_board.specs.Shapes.{live_shape, live_shapes, without_live, with_mark}
use Rattle.call_board.proofs.Shaped.{first_found, numbered_shape, gone, marked}
use Rattle.call_board.proofs.board.Board.end_call.Goals as goal

pub invariant_of-self : goal.invariant_of-self
invariant_of-self c = record {
  numbers = subst (λ (calls : List LiveCall). AreBelow 0 calls c.args.self.now.begun) (sym c.remove-ended.ensures.list)
      (without_one 0 c.args.self.now.calls.list c.args.self.now.begun c.place-place.result c.args.self.now.numbers);
}

pub returns-clause-shows : goal.returns-clause-shows
returns-clause-shows c = λ config v s apart.
    let shown = subst (λ (call : LiveCall). CallMatches config v c.args.call call) (sym c.remove-ended.ensures.value)
    (shown_call config v c.args.self.now.calls.list c.args.call c.place-place.result c.remove-ended.result s.calls_for c.place-place.ensures.place) in
    record {
      config_is = s.config_is;
      moment_is = s.moment_is;
      begun_is = s.begun_is;
      drawn_is = s.drawn_is;
      calls_for = subst (λ (calls : List LiveCall). CallsFor config calls (without c.args.call v.calls)) (sym c.remove-ended.ensures.list)
          (removed config c.args.call c.args.self.now.calls.list v.calls c.place-place.result c.remove-ended.result s.calls_for c.place-place.ensures.place);
      cells_for =
          let whole = with_items_is c.args.self.now.taken c.mark_cell.new.taken (omega (arith, c.mark_cell.auto.taken, c.as_mut_slice.ensures.len)) in
          let free : c.mark_cell.new.taken ≡ set c.args.self.now.taken.items (c.remove-ended.result.cell - 1) false =
          c.mark_cell.ensures.cell (omega (arith, shown.call_for.cell_is, is_positive c.args.call v.calls shown.of shown.found apart)) ∙ ap (λ (taken : List Bool). set taken (c.remove-ended.result.cell - 1) false) c.as_mut_slice.ensures.value in
          let cell : c.remove-ended.result.cell ≡ shown.of.of.cell = shown.call_for.cell_is in
          subst (λ (taken : List Bool). CellsFor config taken (without c.args.call v.calls))
          (sym (whole ∙ free ∙ ap (λ n. set c.args.self.now.taken.items (n - 1) false) cell))
          (cells_after config c.args.call c.args.self.now.taken.items v.calls shown.of s.cells_for shown.found apart);
      pool_for = s.pool_for;
      replies_for = s.replies_for;
    }

pub returns-clause-cell : goal.returns-clause-cell
returns-clause-cell c = λ config v s.
    let shown = subst (λ (call : LiveCall). CallMatches config v c.args.call call) (sym c.remove-ended.ensures.value)
    (shown_call config v c.args.self.now.calls.list c.args.call c.place-place.result c.remove-ended.result s.calls_for c.place-place.ensures.place) in
    ap (option_map (λ (of : CallView). of.of.cell)) shown.found ∙ ap Some (sym shown.call_for.cell_is)

pub returns-clause-shape : goal.returns-clause-shape
returns-clause-shape c =
    let board = c.args.self.now in
    let ended = c.remove-ended.result in
    let items : List Bool = board.taken.items in
    let calls : live_shapes c.remove-ended.new.self.list ≡ without_live c.args.call (live_shapes board.calls.list) =
    ap live_shapes c.remove-ended.ensures.list ∙ gone c.args.call board.calls.list c.place-place.result ended c.place-place.ensures.place in
    let whole = with_items_is board.taken c.mark_cell.new.taken (omega (arith, c.mark_cell.auto.taken, c.as_mut_slice.ensures.len)) in
    let marks : c.mark_cell.new.taken ≡ with_mark ended.cell false items =
    marked ended.cell false items c.mark_cell.new.taken
    (λ low. c.mark_cell.ensures.cell low ∙ ap (λ (those : List Bool). set those (ended.cell - 1) false) c.as_mut_slice.ensures.value)
    (λ none. c.mark_cell.ensures.none none ∙ c.as_mut_slice.ensures.value) in record {
      call = live_shape ended;
      found = numbered_shape c.args.call board.calls.list ended
          (first_found (λ (call : LiveCall). call.number == c.args.call) board.calls.list c.place-place.result ended c.place-place.ensures.place ∙ ap Some (sym c.remove-ended.ensures.value));
      cell_is = refl;
      shape_is = λ i. record { config = board.config; begun = board.begun; drawn = board.drawn; calls = calls i; taken = (whole ∙ marks) i; pool = board.pool };
    }
