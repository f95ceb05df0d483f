use Rattle.std.proofs.Common.{◌≡◌, ◌∙◌, refl, ap, sym, subst, List}
use Rattle.call_board.specs.declared.live_call.LiveCall.{LiveCall}
use Rattle.call_board.specs.Views.{with_due, ends_by}
use Rattle.call_board.specs.Boards.{CallsFor, CallMatches}
use Rattle.call_board.proofs.Shown.{shown_call, shown_is}
use Rattle.call_board.proofs.Applies.{changed, cells_stay}
use Rattle.call_board.specs.CallNumbers.{AreBelow}
use Rattle.call_board.proofs.Numbered.{with_changed}
use Rattle.call_board.specs.Shapes.{live_shape, live_shapes}
use Rattle.call_board.proofs.Shaped.{stays}
use Rattle.call_board.proofs.board.Board.mark_ending.Goals as goal

pub invariant_of-self : goal.invariant_of-self
invariant_of-self c =
    let marked = c.mark_ending.ensures in record {
      numbers = subst (λ (calls : List LiveCall). AreBelow 0 calls c.args.self.now.begun) (sym marked.list_is)
          (with_changed 0 c.args.self.now.calls.list c.args.self.now.begun c.place-place.result marked.before marked.after c.args.self.now.numbers marked.before_is marked.number_is);
    }

pub returns-clause-shows : goal.returns-clause-shows
returns-clause-shows c = λ config v s.
    let marked = c.mark_ending.ensures in
    let shown = subst (λ (call : LiveCall). CallMatches config v c.args.call call) (sym marked.before_is)
    (shown_call config v c.args.self.now.calls.list c.args.call c.place-place.result marked.before s.calls_for c.place-place.ensures.place) in
    record {
      config_is = s.config_is;
      moment_is = s.moment_is;
      begun_is = s.begun_is;
      drawn_is = s.drawn_is;
      calls_for = subst (λ (calls : List LiveCall). CallsFor config calls (ends_by c.args.call c.args.due v.calls)) (sym marked.list_is)
          (changed config c.args.call (with_due c.args.due) c.args.self.now.calls.list v.calls c.place-place.result marked.before marked.after s.calls_for c.place-place.ensures.place
          (λ x f. marked.marked config x (shown_is config v c.args.call marked.before x shown f)));
      cells_for = cells_stay config c.args.self.now.taken.items c.args.call (with_due c.args.due) (λ x. refl) v.calls s.cells_for;
      pool_for = s.pool_for;
      replies_for = s.replies_for;
    }

pub returns-clause-shape : goal.returns-clause-shape
returns-clause-shape c =
    let marked = c.mark_ending.ensures in
    let board = c.args.self.now in
    let calls : live_shapes c.mark_ending.new.self.list ≡ live_shapes board.calls.list =
    ap live_shapes marked.list_is ∙ stays c.args.call board.calls.list c.place-place.result marked.before marked.after c.place-place.ensures.place
    (marked.shape_is ∙ ap live_shape marked.before_is) in
    λ i. record { config = board.config; begun = board.begun; drawn = board.drawn; calls = calls i; taken = board.taken.items; pool = board.pool }
