use Rattle.std.proofs.Common.{◌≡◌, ◌∙◌, ◌+◌, ◌<◌, sym, ap, subst, arith, List, Bool, not, position, nat_lt, Some, None}
use Rattle.std.proofs.lemmas.List.{length-map}
use Rattle.relay_outside.specs.declared.settings.Config.{Config}
use Rattle.call_board.specs.Calls.{lowest_but}
use Rattle.call_board.specs.Views.{CallView}
use Rattle.call_board.proofs.Plans.{lowest_free, some_if, is_below, cells_of}
use Rattle.call_board.proofs.Shaped.{free_cell}
use Rattle.call_board.proofs.board.Board.lowest_cell.Goals as goal

pub returns-in_default-clause-lowest : goal.returns-in_default-clause-lowest
returns-in_default-clause-lowest c = λ config v s room.
    let count = length-map v.calls (λ (of : CallView). of.of.cell) in
    let low = lowest_free c.args.self.now.taken.items (cells_of v) config.max_sessions s.cells_for.count_is s.cells_for.taken_are (omega (arith, room, count)) in
    let none : position not c.args.self.now.taken.items ≡ None =
    ap (λ (those : List Bool). position not those) (sym c.as_slice.ensures.value) ∙ sym c.first_free.ensures.place ∙ c.in_default.is in
    absurd (let f = sym none ∙ low.found in cc)

pub returns-clause-lowest : goal.returns-clause-lowest
returns-clause-lowest c = λ config v s room.
    let count = length-map v.calls (λ (of : CallView). of.of.cell) in
    let low = lowest_free c.args.self.now.taken.items (cells_of v) config.max_sessions s.cells_for.count_is s.cells_for.taken_are (omega (arith, room, count)) in
    let found : position not c.args.self.now.taken.items ≡ Some c.in-Some.place =
    ap (λ (those : List Bool). position not those) (sym c.as_slice.ensures.value) ∙ sym c.first_free.ensures.place ∙ c.in-Some.is in
    let same : low.place ≡ c.in-Some.place = (let f : Some low.place ≡ Some c.in-Some.place = sym low.found ∙ found in cc) in
    let below : c.in-Some.place < config.max_sessions = omega (arith, low.inside, same) in
    let inside = subst (λ (of : Config). c.in-Some.place < of.max_sessions) (sym s.config_is) below in
    let cell : c.in-Some.place + 1 ≡ lowest_but (cells_of v) = omega (arith, low.cell_is, same) in
    c.cell_at.ensures
    ∙ some_if (nat_lt c.in-Some.place c.args.self.now.config.max_sessions) (c.in-Some.place + 1) (is_below c.in-Some.place c.args.self.now.config.max_sessions inside)
    ∙ ap Some cell

pub returns-clause-free : goal.returns-clause-free
returns-clause-free c =
    free_cell c.args.self.now.taken.items c.args.self.now.config.max_sessions c.in-Some.place c.cell_at.result
    (ap (λ those. position not those) (sym c.as_slice.ensures.value) ∙ sym c.first_free.ensures.place ∙ c.in-Some.is) c.cell_at.ensures
