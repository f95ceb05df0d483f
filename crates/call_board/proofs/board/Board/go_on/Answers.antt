use Rattle.std.proofs.Common.{◌≡◌, ◌∙◌, refl, ap, sym, subst, List, Some, get_or}
use Rattle.std.specs.Prelude.{◌==◌}
use Rattle.call_board.specs.declared.live_call.LiveCall.{LiveCall}
use Rattle.call_board.specs.Views.{CallView, with_round, goes_on}
use Rattle.call_board.specs.Boards.{CallFor, CallsFor, CallMatches}
use Rattle.call_board.proofs.Shown.{shown_call, shown_is, same_one}
use Rattle.call_board.proofs.Applies.{changed, cells_stay}
use Rattle.call_board.specs.CallNumbers.{AreBelow}
use Rattle.call_board.proofs.Numbered.{with_changed}
use Rattle.offer_answer.specs.Shapes.{DialogShape, dialog_shape}
use Rattle.call_board.specs.Shapes.{live_shape, live_shapes, with_dialog_of}
use Rattle.call_board.proofs.Shaped.{first_found, gone_on}
use Rattle.call_board.proofs.board.Board.go_on.Goals as goal

pub invariant_of-self : goal.invariant_of-self
invariant_of-self c =
    let went = c.go_on.ensures in record {
      numbers = subst (λ (calls : List LiveCall). AreBelow 0 calls c.args.self.now.begun) (sym went.list_is)
          (with_changed 0 c.args.self.now.calls.list c.args.self.now.begun c.place-place.result went.before went.after c.args.self.now.numbers went.before_is went.number_is);
    }

pub returns-clause-taken : goal.returns-clause-taken
returns-clause-taken c = λ config v of round s e begun p.
    let went = c.go_on.ensures in
    let shown = subst (λ (call : LiveCall). CallMatches config v c.args.call call) (sym went.before_is)
    (shown_call config v c.args.self.now.calls.list c.args.call c.place-place.result went.before s.calls_for c.place-place.ensures.place) in
    record {
      config_is = s.config_is;
      moment_is = s.moment_is;
      begun_is = s.begun_is;
      drawn_is = s.drawn_is;
      calls_for = subst (λ (calls : List LiveCall). CallsFor config calls (goes_on c.args.call round c.args.now v.calls)) (sym went.list_is)
          (changed config c.args.call (with_round round c.args.now) c.args.self.now.calls.list v.calls c.place-place.result went.before went.after s.calls_for c.place-place.ensures.place
          (λ x f. subst (λ (x : CallView). CallFor config went.after (with_round round c.args.now x)) (same_one e f)
          (went.taken config of round (shown_is config v c.args.call went.before of shown e) begun p)));
      cells_for = cells_stay config c.args.self.now.taken.items c.args.call (with_round round c.args.now) (λ c. refl) v.calls s.cells_for;
      pool_for = s.pool_for;
      replies_for = s.replies_for;
    }

pub returns-clause-shape : goal.returns-clause-shape
returns-clause-shape c =
    let went = c.go_on.ensures in
    let board = c.args.self.now in
    let dialog : DialogShape = dialog_shape went.after.dialog.value in
    let one : live_shape went.after ≡ record (live_shape (get_or board.calls.list c.place-place.result went.before)) { dialog = dialog } = (λ i. record {
      number = (went.number_is ∙ ap (λ (call : LiveCall). call.number) went.before_is) i;
      cell = (went.cell_is ∙ ap (λ (call : LiveCall). call.cell) went.before_is) i;
      dialog = dialog;
    }) in
    let calls : live_shapes c.go_on.new.self.list ≡ with_dialog_of c.args.call dialog (live_shapes board.calls.list) =
    ap live_shapes went.list_is ∙ gone_on c.args.call dialog board.calls.list c.place-place.result went.before went.after c.place-place.ensures.place one in record {
      call = went.before;
      found = first_found (λ (call : LiveCall). call.number == c.args.call) board.calls.list c.place-place.result went.before c.place-place.ensures.place ∙ ap Some (sym went.before_is);
      dialog = went.after.dialog.value;
      applies = went.applies;
      shape_is = λ i. record { config = board.config; begun = board.begun; drawn = board.drawn; calls = calls i; taken = board.taken.items; pool = board.pool };
    }
