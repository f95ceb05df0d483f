use Rattle.std.proofs.Common.{refl, ap, sym, subst, ◌∙◌, arith, ℕ, ◌≡◌, ◌++◌, ◌∷◌, [], List, length, append_assoc, append-nil}
use Rattle.port_pool.specs.declared.pairs.Lease.{Lease}
use Rattle.call_board.specs.Views.{with_returned}
use Rattle.call_board.specs.Boards.{BoardMatches, pairs_in}
use Rattle.call_board.proofs.Given.{one_more_returned, none_returned, none_left}
use Rattle.port_pool.specs.Pools.{Pairs}
use Rattle.call_board.specs.Shapes.{board_shape, with_pool, shape_returned, shape_returns}
use Rattle.call_board.proofs.ShapedPools.{none_back, one_more_back}
use Rattle.call_board.proofs.board.Board.undo_offer.Goals as goal

pub loop-back-init : goal.loop-back-init
loop-back-init c = record {
  shows = λ config v s. ([], refl, none_returned config c.args.self.now v s);
  shape = ([], refl, ap (λ (pool : Pairs). with_pool pool (board_shape c.args.self.now)) (none_back c.args.self.now.pool));
  out = c.requires;
  count = omega (arith, c.len-back-end.ensures);
  calls = record { calls_are = refl; begun_is = refl };
  replies = refl;
}

pub take_back-requires-clause-some : goal.take_back-requires-clause-some
take_back-requires-clause-some c = omega (arith, c.loop-back-test.true, c.loop-back.invariant.count)

pub loop-back-preserved : goal.loop-back-preserved
loop-back-preserved c = record {
  shows = λ config v s.
      let former = c.loop-back.invariant.shows config v s in
      let given : List ℕ = former.0 in
      let f = c.take_back.ensures.shows config (with_returned v given) former.2 in (
        given ++ f.0 ∷ [],
        append_assoc given (f.0 ∷ []) (pairs_in c.take_back.new.leases.list) ∙ ap (λ (more : List ℕ). given ++ more) f.1 ∙ former.1,
        one_more_returned config c.take_back.new.self v given f.0 f.2,
      );
  shape =
      let former = c.loop-back.invariant.shape in
      let given : List ℕ = former.0 in
      let back = c.take_back.ensures.shape in (
        given ++ back.0.pair ∷ [],
        append_assoc given (back.0.pair ∷ []) (pairs_in c.take_back.new.leases.list) ∙ ap (λ (those : List Lease). given ++ pairs_in those) (sym back.1) ∙ former.1,
        back.2 ∙ ap (shape_returned back.0.pair) former.2
            ∙ ap (λ (pool : Pairs). with_pool pool (board_shape c.args.self.now)) (one_more_back c.args.self.now.pool given back.0.pair),
      );
  out = c.take_back.ensures.out;
  count = omega (arith, c.take_back.ensures.count, c.loop-back.invariant.count);
  calls = record { calls_are = c.take_back.ensures.calls.calls_are ∙ c.loop-back.invariant.calls.calls_are; begun_is = c.take_back.ensures.calls.begun_is ∙ c.loop-back.invariant.calls.begun_is };
  replies = c.take_back.ensures.replies ∙ c.loop-back.invariant.replies;
}

pub returns-clause-returned : goal.returns-clause-returned
returns-clause-returned c = λ config v s.
    let former = c.loop-back.invariant.shows config v s in
    let done : length c.loop-back.left.list ≡ 0 = omega (arith, c.loop-back-test.false, c.loop-back.auto._back-end, c.loop-back.invariant.count) in
    subst (λ (pairs : List ℕ). BoardMatches config c.loop-back.self (with_returned v pairs))
    (sym (append-nil former.0) ∙ ap (λ (left : List Lease). former.0 ++ pairs_in left) (sym (none_left c.loop-back.left.list done)) ∙ former.1) former.2

pub returns-clause-shape : goal.returns-clause-shape
returns-clause-shape c =
    let former = c.loop-back.invariant.shape in
    let done : length c.loop-back.left.list ≡ 0 = omega (arith, c.loop-back-test.false, c.loop-back.auto._back-end, c.loop-back.invariant.count) in
    subst (λ (pairs : List ℕ). board_shape c.loop-back.self ≡ shape_returns pairs (board_shape c.args.self.now))
    (sym (append-nil former.0) ∙ ap (λ (left : List Lease). former.0 ++ pairs_in left) (sym (none_left c.loop-back.left.list done)) ∙ former.1) former.2
