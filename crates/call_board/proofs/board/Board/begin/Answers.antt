use Rattle.std.proofs.Common.{◌≡◌, ◌∙◌, ◌-◌, ◌+◌, ◌≤◌, ◌++◌, ◌∷◌, [], refl, ap, sym, subst, ℕ, List, Bool, true, false, None, set, arith}
use Rattle.std.specs.List.{list_any}
use Rattle.std.specs.Str.{bytes_eq}
use Rattle.std.proofs.lemmas.List.{with_items_is}
use Rattle.call_board.specs.declared.live_call.LiveCall.{LiveCall}
use Rattle.call_board.specs.Views.{CallView, is_of_id}
use Rattle.call_board.specs.Boards.{CellsFor}
use Rattle.call_board.proofs.Shown.{asks_id, none_has, lent_for}
use Rattle.offer_answer.specs.declared.dialog.Dialog.{Dialog}
use Rattle.call_board.proofs.Applies.{AwaitsRound, applied, begins_by, one_more_pushed, cells_more}
use Rattle.call_board.proofs.Numbered.{numbers_after}
use Rattle.offer_answer.specs.Shapes.{dialog_shape}
use Rattle.call_board.specs.Shapes.{LiveShape, live_shapes, with_mark, DialogApplies}
use Rattle.call_board.proofs.Shaped.{comes, marked}
use Rattle.call_board.proofs.board.Board.begin.Goals as goal

pub invariant_of-self : goal.invariant_of-self
invariant_of-self c = record {
  numbers = numbers_after c.args.self.now.calls.list c.push.new.self.list c.args.self.now.begun _ _ c.push.ensures c.args.self.now.numbers refl;
}

pub returns-clause-taken : goal.returns-clause-taken
returns-clause-taken c = λ config v of round s next cell b p.
    let view : CallView = record { of = of; rounds = round ∷ []; first = c.args.now; last = c.args.now; due = None } in
    let new = begins_by config of.id round c.args.new b in
    let fresh = subst (λ (id : List ℕ). list_any (λ (call : LiveCall). bytes_eq call.id.list id) c.args.self.now.calls.list ≡ false) (sym new.0)
    (none_has config (λ (call : LiveCall). bytes_eq call.id.list of.id) (is_of_id of.id) c.args.self.now.calls.list v.calls (asks_id config of.id) s.calls_for next.id_is_new) in
    let items : List Bool = c.args.self.now.taken.items in
    let whole = with_items_is c.args.self.now.taken c.mark_cell.new.taken (omega (arith, c.mark_cell.auto.taken, c.as_mut_slice.ensures.len)) in
    let taken : c.mark_cell.new.taken ≡ set items (c.args.cell - 1) true =
    c.mark_cell.ensures.cell (subst (λ (n : ℕ). 1 ≤ n) (sym cell) next.cell_is_one) ∙ ap (λ (those : List Bool). set those (c.args.cell - 1) true) c.as_mut_slice.ensures.value in
    record {
      config_is = s.config_is;
      moment_is = s.moment_is;
      begun_is = ap (λ (n : ℕ). n + 1) s.begun_is;
      drawn_is = s.drawn_is;
      calls_for = one_more_pushed config c.args.self.now.calls.list c.push.new.self.list v.calls _ view _ c.push.ensures fresh s.calls_for (record {
        number_is = s.begun_is ∙ sym next.number_is;
        cell_is = cell;
        id_is = new.0;
        dialog_for = applied config c.deref_mut.result.now c.apply.new.self c.args.plan [] round c.apply.ensures.offered c.apply.ensures.answered
            (lent_for c.deref_mut.ensures.value new.1)
            (subst (λ (dialog : Dialog). AwaitsRound dialog round) (sym c.deref_mut.ensures.value) new.2) p;
        first_is = refl;
        last_is = refl;
        due_is = refl;
      });
      cells_for = subst (λ (those : List Bool). CellsFor config those (v.calls ++ view ∷ [])) (sym (whole ∙ taken ∙ ap (λ (n : ℕ). set items (n - 1) true) cell))
          (cells_more config items v.calls view s.cells_for next.cell_is_one next.cell_is_there);
      pool_for = s.pool_for;
      replies_for = s.replies_for;
    }

pub returns-clause-shape : goal.returns-clause-shape
returns-clause-shape c = λ fresh.
    let board = c.args.self.now in
    let items : List Bool = board.taken.items in
    let one : LiveShape = record { number = board.begun; cell = c.args.cell; dialog = dialog_shape c.apply.new.self } in
    let calls : live_shapes c.push.new.self.list ≡ live_shapes board.calls.list ++ one ∷ [] = comes board.calls.list c.push.new.self.list _ _ c.push.ensures fresh in
    let whole = with_items_is board.taken c.mark_cell.new.taken (omega (arith, c.mark_cell.auto.taken, c.as_mut_slice.ensures.len)) in
    let marks : c.mark_cell.new.taken ≡ with_mark c.args.cell true items =
    marked c.args.cell true items c.mark_cell.new.taken
    (λ low. c.mark_cell.ensures.cell low ∙ ap (λ (those : List Bool). set those (c.args.cell - 1) true) c.as_mut_slice.ensures.value)
    (λ none. c.mark_cell.ensures.none none ∙ c.as_mut_slice.ensures.value) in record {
      dialog = c.apply.new.self;
      applies = subst (λ (old : Dialog). DialogApplies c.args.plan old c.apply.new.self) c.deref_mut.ensures.value (record {
        offered = c.apply.ensures.shapes;
        answered = c.apply.ensures.answered_shapes;
        counts = c.apply.ensures.counts;
      });
      shape_is = λ i. record { config = board.config; begun = board.begun + 1; drawn = board.drawn; calls = calls i; taken = (whole ∙ marks) i; pool = board.pool };
    }
