use Rattle.std.proofs.Common.{◌≡◌, ◌≤◌, sym, subst, ◌∙◌, [], arith}
use Rattle.turn_table.specs.declared.hands.Hand.{Hand}
use Rattle.turn_table.specs.Hands.{HasNoTurn}
use Rattle.relay_core.specs.declared.part.Part.{Part}
use Rattle.relay_core.specs.Records.{Made}
use Rattle.board_turns.specs.Departures.{cell_kept}
use Rattle.board_turns.proofs.First.{first_new, first_comes, first_opened, none_first, none_still, small_none}
use Rattle.tests_turns.specs.declared.first_relay.TheConstants.{CONFIG}
use Rattle.tests_turns.proofs.nested_step_tests.cells.a_call_is_prepared_asked_and_ended.Goals as goal

pub prepare_cell-requires-clause-keys : goal.prepare_cell-requires-clause-keys
prepare_cell-requires-clause-keys g c = first_new _ 1 c.in-Some.ensures.hand.0

pub prepare_cell-requires-clause-comes : goal.prepare_cell-requires-clause-comes
prepare_cell-requires-clause-comes g c =
    first_comes _ _ 1 c.in-Ok.signal 0 c.in-Ok.ensures.keys.0 _ _ c.in-Some.ensures.hand.0 c.in-Ok.ensures.ready.1 c.in-Ok.ensures.keys.1

pub prepare_cell-requires-clause-opened : goal.prepare_cell-requires-clause-opened
prepare_cell-requires-clause-opened g c = first_opened _ _ c.in-Ok.signal c.in-Ok.ensures.ready.1

-- the cell has no leg in each of the hands that are left
abbrev HasNoLeg : {M I O T : Type 0} {g : _} → Hand M (Part I O) Made T g → Type 0
HasNoLeg hand = (cell_kept CONFIG hand 1).legs ≡ []

pub end_cell-requires-clause-small : goal.end_cell-requires-clause-small
end_cell-requires-clause-small g c =
    let may = c.in-Some.ensures.may in
    let low : 1 ≤ 1 = omega arith in
    let high : 1 ≤ 2 = omega arith in
    let none_1 : HasNoLeg c.in-Some.hand = none_first CONFIG c.in-Some.hand 1 may.parts may.whole_parts c.in-Some.ensures.hand.0 low high in
    let left_2 : c.prepare_cell.new.main.hand.now ≡ c.hand-2-1.given.0 = sym (c.hand-2-1.given.1 (sym c.prepare_cell.ensures.nests.hand_is)) in
    let none_2 = subst (λ hand. HasNoLeg hand) left_2
    (none_still CONFIG _ _ 1 _ c.in-Some.hand c.prepare_cell.new.main.hand.now c.prepare_cell.ensures.nests.same.1 c.prepare_cell.ensures.gained c.in-Ok.ensures.ready.1 none_1) in
    let left_3 : c.expire_cell-young.new.main.hand.now ≡ c.hand-4-1.given.0 = sym (c.hand-4-1.given.1 (sym c.expire_cell-young.ensures.nests.hand_is)) in
    let none_3 = subst (λ hand. HasNoLeg hand) left_3
    (none_still CONFIG _ _ 1 _ c.hand-2-1.given.0 c.expire_cell-young.new.main.hand.now c.expire_cell-young.ensures.nests.same.1 c.expire_cell-young.ensures.gained tt none_2) in
    let left_4 : c.expire_cell-old.new.main.hand.now ≡ c.hand-6-1.given.0 = sym (c.hand-6-1.given.1 (sym c.expire_cell-old.ensures.nests.hand_is)) in
    let none_4 = subst (λ hand. HasNoLeg hand) left_4
    (none_still CONFIG _ _ 1 _ c.hand-4-1.given.0 c.expire_cell-old.new.main.hand.now c.expire_cell-old.ensures.nests.same.1 c.expire_cell-old.ensures.gained tt none_3) in
    small_none _ none_4

pub close-requires-clause-idle : goal.close-requires-clause-idle
close-requires-clause-idle g c =
    let idle_1 = c.in-Some.ensures.hand.2 in
    let left_2 : c.prepare_cell.new.main.hand.now ≡ c.hand-2-1.given.0 = sym (c.hand-2-1.given.1 (sym c.prepare_cell.ensures.nests.hand_is)) in
    let idle_2 = subst (λ hand. HasNoTurn hand) left_2 (λ j. c.prepare_cell.ensures.nests.same_turns j ∙ idle_1 j) in
    let left_3 : c.expire_cell-young.new.main.hand.now ≡ c.hand-4-1.given.0 = sym (c.hand-4-1.given.1 (sym c.expire_cell-young.ensures.nests.hand_is)) in
    let idle_3 = subst (λ hand. HasNoTurn hand) left_3 (λ j. c.expire_cell-young.ensures.nests.same_turns j ∙ idle_2 j) in
    let left_4 : c.expire_cell-old.new.main.hand.now ≡ c.hand-6-1.given.0 = sym (c.hand-6-1.given.1 (sym c.expire_cell-old.ensures.nests.hand_is)) in
    let idle_4 = subst (λ hand. HasNoTurn hand) left_4 (λ j. c.expire_cell-old.ensures.nests.same_turns j ∙ idle_3 j) in
    let left_5 : c.end_cell.new.main.hand.now ≡ c.hand-8-1.given.0 = sym (c.hand-8-1.given.1 (sym c.end_cell.ensures.nests.hand_is)) in
    let idle_5 = subst (λ hand. HasNoTurn hand) left_5 (λ j. c.end_cell.ensures.nests.same_turns j ∙ idle_4 j) in
    let left_6 : c.expire_cell-gone.new.main.hand.now ≡ c.hand-10-1.given.0 = sym (c.hand-10-1.given.1 (sym c.expire_cell-gone.ensures.nests.hand_is)) in
    let idle_6 = subst (λ hand. HasNoTurn hand) left_6 (λ j. c.expire_cell-gone.ensures.nests.same_turns j ∙ idle_5 j) in
    idle_6
