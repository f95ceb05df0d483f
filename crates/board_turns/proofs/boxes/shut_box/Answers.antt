use Rattle.std.proofs.Common.{refl, sym, subst, arith, ◌∙◌}
use Rattle.port_pool.specs.Boxes.{Close}
use Rattle.relay_core.specs.Entries.{Box, box_of}
use Rattle.board_turns.specs.NestedSteps.{leaving, ends_left}
use Rattle.board_turns.specs.BoxStates.{CanShut}
use Rattle.relay_core.specs.Steps.{Relates}
use Rattle.relay_core.specs.declared.part.Part.{Part}
use Rattle.board_turns.proofs.Nesting.{above_rows, turn_gained, turn_row, turn_may, may_turn, turn_same}
use Rattle.board_turns.proofs.Boxing.{open_given, shut_from}
use Rattle.board_turns.proofs.Homing.{shut_home}
use Rattle.board_turns.proofs.boxes.shut_box.Goals as goal

pub shut_part-ends-requires : goal.shut_part-ends-requires
shut_part-ends-requires g c =
    subst CanShut (sym c.state.ensures.value)
    (open_given g.I.InEnd.log g.I.InEnd.faults g.O.OutEnd.log g.O.OutEnd.faults c.args.main.now.config.now c.args.main.now.turns.now c.args.main.now.hand.now c.args.pair c.box_place.result _ _
    c.requires.may c.requires.pair c.requires.«open» c.box_place.ensures c.turn-step.ensures.turn.1)

pub returns-clause-gained : goal.returns-clause-gained
returns-clause-gained g c =
    let given = c.turn-step.ensures.turn.1 in
    turn_gained c.args.main.now.entry_id.number c.args.main.now.entry_id.moment 0 (box_of c.args.main.now.config.now c.args.pair) c.box_place.result (Box Close)
    (ends_left g.I.InEnd.log c.shut_part-ends.result) tt c.args.main.now.hand.now c.turn-step.new.hand
    c.put_step.new.hand c.turn-step.result c.box_place.ensures (above_rows _ _ _ given.above) c.turn-step.ensures.same c.turn-step.ensures.turn.0 c.put_step.ensures.entry

pub returns-clause-row : goal.returns-clause-row
returns-clause-row g c =
    turn_row c.args.main.now.entry_id.number c.args.main.now.entry_id.moment 0 (box_of c.args.main.now.config.now c.args.pair) c.box_place.result (Box Close)
    (ends_left g.I.InEnd.log c.shut_part-ends.result) tt c.args.main.now.hand.now c.turn-step.new.hand c.put_step.new.hand c.turn-step.result c.box_place.ensures
    c.turn-step.ensures.same c.turn-step.ensures.turn.0 c.put_step.ensures.entry

pub returns-clause-ends : goal.returns-clause-ends
returns-clause-ends g c =
    let made = leaving c.args.main.now.entry_id.number c.args.main.now.entry_id.moment 0 (Box Close) (ends_left g.I.InEnd.log c.shut_part-ends.result) in
    shut_from g.I.InEnd.log g.I.InEnd.faults g.O.OutEnd.log g.O.OutEnd.faults c.args.main.now.hand.now c.box_place.result (box_of c.args.main.now.config.now c.args.pair) c.turn-step.result.front
    c.turn-step.result.state c.state.result.now
    c.shut_part-ends.new.part made c.shut_part-ends.result c.box_place.ensures c.state.ensures.value c.turn-step.ensures.turn.1
    (c.shut_part-ends.ensures.step c.args.main.now.entry_id.number c.args.main.now.entry_id.moment) c.shut_part-ends.ensures.ends

pub returns-clause-home : goal.returns-clause-home
returns-clause-home g c =
    shut_home g.I.InEnd.log g.I.InEnd.faults g.O.OutEnd.log g.O.OutEnd.faults c.args.main.now.config.now c.args.main.now.turns.now c.args.main.now.hand.now c.args.pair _ c.shut_part-ends.result c.requires.may (returns-clause-ends g c)

pub turn-step-requires-clause-table : goal.turn-step-requires-clause-table
turn-step-requires-clause-table g c =
    c.requires.may.of_table

pub turn-step-requires-clause-place : goal.turn-step-requires-clause-place
turn-step-requires-clause-place g c =
    let at = c.box_place.ensures in
    let high = c.requires.pair in
    may_turn c.args.main.now.config.now c.args.main.now.turns.now c.args.main.now.hand.now c.box_place.result c.requires.may (omega (arith, at)) (omega (arith, at, high))

pub put_step-requires-clause-table : goal.put_step-requires-clause-table
put_step-requires-clause-table g c =
    (c.turn-step.ensures.same.0.0 ∙ c.requires.may.of_table, c.turn-step.ensures.same.0.3 ∙ c.requires.may.main)

pub put_step-requires-clause-turn : goal.put_step-requires-clause-turn
put_step-requires-clause-turn g c =
    c.turn-step.ensures.turn.0.4

pub put_step-requires-clause-step : goal.put_step-requires-clause-step
put_step-requires-clause-step g c =
    subst (λ (z : Part _ _). Relates g.I.InEnd.log g.I.InEnd.faults g.O.OutEnd.log g.O.OutEnd.faults z (leaving c.args.main.now.entry_id.number c.args.main.now.entry_id.moment 0 (Box Close) (ends_left g.I.InEnd.log c.shut_part-ends.result)) c.shut_part-ends.new.part)
    (c.state.ensures.value ∙ sym c.turn-step.ensures.turn.0.1) (c.shut_part-ends.ensures.step c.args.main.now.entry_id.number c.args.main.now.entry_id.moment)

pub returns-clause-nests : goal.returns-clause-nests
returns-clause-nests g c =
    let at = c.box_place.ensures in
    let same = turn_same c.args.main.now.config.now c.args.main.now.turns.now c.box_place.result
    (leaving c.args.main.now.entry_id.number c.args.main.now.entry_id.moment 0 (Box Close) (ends_left g.I.InEnd.log c.shut_part-ends.result)) tt c.args.main.now.hand.now c.turn-step.new.hand c.put_step.new.hand c.turn-step.result c.requires.may
    (omega (arith, at)) c.turn-step.ensures.same c.turn-step.ensures.turn.0 c.put_step.ensures.same c.put_step.ensures.entry in
    record {
      turns_are = refl;
      config_is = refl;
      entry_is = refl;
      hand_is = refl;
      same = same.0;
      same_turns = same.1;
      may = turn_may c.args.main.now.config.now c.args.main.now.turns.now c.args.main.now.entry_id.number c.args.main.now.entry_id.moment 0 (box_of c.args.main.now.config.now c.args.pair) c.box_place.result (Box Close)
          (ends_left g.I.InEnd.log c.shut_part-ends.result) tt
          c.args.main.now.hand.now c.turn-step.new.hand c.put_step.new.hand c.turn-step.result c.requires.may (omega (arith, at)) c.turn-step.ensures.same c.turn-step.ensures.turn.0
          c.put_step.ensures.same c.put_step.ensures.entry (returns-clause-gained g c);
    }
