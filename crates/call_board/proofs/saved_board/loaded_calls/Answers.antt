use Rattle.std.proofs.Common.{◌≡◌, ◌∙◌, ◌-◌, sym, ap, subst, List, Bool, true, ◌++◌, [], ◌∷◌, set, arith}
use Rattle.std.specs.Vec.Iter.{into_iter_items}
use Rattle.std.proofs.lemmas.Bool.{false≢true}
use Rattle.std.proofs.lemmas.List.{with_items_is, nil_from_length}
use Rattle.call_board.specs.declared.saved_board.CallSaved.{CallSaved}
use Rattle.call_board.specs.SavedBoards.{CallFollows}
use Rattle.call_board.proofs.SavedLoading.{LoadsSo, loads_none, loads_more, loads_all, may_follow_lem}
use Rattle.call_board.proofs.saved_board.loaded_calls.Goals as goal

pub loop-one-init : goal.loop-one-init
loop-one-init c =
    let all = c.args.saved.items in
    let blank = c.in_ok-taken.ensures.items_if_clones_equal (λ y h. h) in (
      tt,
      tt,
      (
        [],
        subst (λ (rest : List CallSaved). LoadsSo all [] rest c.args.begun c.args.cells 0 c.in_ok-taken.taken.items c.new-calls.result.list)
            (sym c.into_iter-one-iterator.ensures.into_iter_gives.0)
            (loads_none all c.args.begun c.args.cells c.in_ok-taken.taken.items c.new-calls.result.list blank c.new-calls.ensures),
      ),
    )

pub loop-one-preserved : goal.loop-one-preserved
loop-one-preserved c =
    let all = c.args.saved.items in
    let loaded = c.loop-one.invariant.2 in
    let front : List CallSaved = loaded.0 in
    let one = c.in-Some.one in
    let rest = into_iter_items c.next.new.self in
    let taken : List Bool = c.loop-one.taken.items in
    let calls = c.loop-one.calls.list in
    let so : LoadsSo all front (one ∷ rest) c.args.begun c.args.cells c.loop-one.next taken calls =
    subst (λ (left : List CallSaved). LoadsSo all front left c.args.begun c.args.cells c.loop-one.next taken calls) c.in-Some.ensures.steps.0 loaded.1 in
    let follows : CallFollows c.loop-one.next c.args.begun taken calls one =
    subst (λ (marks : List Bool). CallFollows c.loop-one.next c.args.begun marks calls one) c.as_slice.ensures.value (c.may_follow.ensures.0 c.if-not-may_follow.false) in
    let whole = with_items_is c.loop-one.taken c.mark_cell.new.taken (omega (arith, c.mark_cell.auto.taken, c.as_mut_slice.ensures.len)) in
    let after : c.mark_cell.new.taken ≡ set taken (one.cell - 1) true =
    c.mark_cell.ensures.cell follows.low ∙ ap (λ (those : List Bool). set those (one.cell - 1) true) c.as_mut_slice.ensures.value in
    let gain = c.in_ok-take_in.ensures in
    (tt, tt, (front ++ one ∷ [], loads_more all front rest one c.args.begun c.args.cells c.loop-one.next taken _ calls c.take_in.new.self.list gain.0 so follows gain.1 (whole ∙ after) gain.2))

pub returns-then-not-may_follow-clause-refused : goal.returns-then-not-may_follow-clause-refused
returns-then-not-may_follow-clause-refused c others are fits =
    let all = c.args.saved.items in
    let loaded = c.loop-one.invariant.2 in
    let front : List CallSaved = loaded.0 in
    let one = c.in-Some.one in
    let rest = into_iter_items c.next.new.self in
    let taken : List Bool = c.loop-one.taken.items in
    let calls = c.loop-one.calls.list in
    let so : LoadsSo all front (one ∷ rest) c.args.begun c.args.cells c.loop-one.next taken calls =
    subst (λ (left : List CallSaved). LoadsSo all front left c.args.begun c.args.cells c.loop-one.next taken calls) c.in-Some.ensures.steps.0 loaded.1 in
    let follows = may_follow_lem all front rest one c.args.begun c.args.cells c.loop-one.next taken calls others so are fits in
    let yes = c.may_follow.ensures.1 (subst (λ (marks : List Bool). CallFollows c.loop-one.next c.args.begun marks calls one) (sym c.as_slice.ensures.value) follows) in
    false≢true (sym c.if-not-may_follow.true ∙ yes)

pub returns-clause-loaded : goal.returns-clause-loaded
returns-clause-loaded c =
    let all = c.args.saved.items in
    let loaded = c.loop-one.invariant.2 in
    let front : List CallSaved = loaded.0 in
    let it = c.loop-one.one-iterator in
    let none : into_iter_items it ≡ [] = nil_from_length (into_iter_items it) (sym it.rest.ok.0 ∙ c.in-None.ensures.steps.0) in
    loads_all all front c.args.begun c.args.cells c.loop-one.next c.loop-one.taken.items c.loop-one.calls.list
    (subst (λ (left : List CallSaved). LoadsSo all front left c.args.begun c.args.cells c.loop-one.next c.loop-one.taken.items c.loop-one.calls.list) none loaded.1)
