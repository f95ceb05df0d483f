use Rattle.std.proofs.Common.{refl, sym, subst, arith, ◌∙◌}
use Rattle.port_pool.specs.Boxes.{Open}
use Rattle.relay_core.specs.Entries.{Box, box_of}
use Rattle.relay_core.specs.Records.{nothing_left}
use Rattle.board_turns.specs.NestedSteps.{nested}
use Rattle.board_turns.specs.BoxStates.{CanOpen}
use Rattle.relay_core.specs.declared.part.Part.TheVariants as part
use Rattle.relay_core.specs.Steps.{Relates}
use Rattle.relay_core.specs.declared.part.Part.{Part}
use Rattle.board_turns.proofs.Nesting.{above_rows, turn_gained, turn_may, may_turn, turn_same}
use Rattle.board_turns.proofs.Boxing.{shut_given, opened_from, open_relates}
use Rattle.board_turns.proofs.Homing.{fit_given}
use Rattle.board_turns.proofs.boxes.open_box.Goals as goal

pub returns-clause-gained : goal.returns-clause-gained
returns-clause-gained g c =
    let leg = c.args.holder in
    let given = c.turn-step.ensures.turn.1 in
    turn_gained c.args.main.now.entry_id.number c.args.main.now.entry_id.moment 0 (box_of c.args.main.now.config.now leg.pair) c.box_place.result (Box (Open leg)) nothing_left tt c.args.main.now.hand.now c.turn-step.new.hand
    c.put_step.new.hand c.turn-step.result c.box_place.ensures (above_rows _ _ _ given.above) c.turn-step.ensures.same c.turn-step.ensures.turn.0 c.put_step.ensures.entry

pub unreachable-requires : goal.unreachable-requires
unreachable-requires g c =
    let can : CanOpen c.args.holder c.state.result.now = subst (CanOpen c.args.holder) (sym c.state.ensures.value)
    (shut_given g.I.InEnd.log g.I.InEnd.faults g.O.OutEnd.log g.O.OutEnd.faults c.args.main.now.config.now c.args.main.now.turns.now c.args.main.now.hand.now c.args.holder c.box_place.result _ _
    c.requires.may c.requires.pair c.requires.shut c.requires.cell.0 c.requires.cell.1 c.box_place.ensures c.turn-step.ensures.turn.1) in
    subst (CanOpen c.args.holder) c.in-Board.is can

pub unreachable-requires-in-Cell : goal.unreachable-requires-in-Cell
unreachable-requires-in-Cell g c =
    let can : CanOpen c.args.holder c.state.result.now = subst (CanOpen c.args.holder) (sym c.state.ensures.value)
    (shut_given g.I.InEnd.log g.I.InEnd.faults g.O.OutEnd.log g.O.OutEnd.faults c.args.main.now.config.now c.args.main.now.turns.now c.args.main.now.hand.now c.args.holder c.box_place.result _ _
    c.requires.may c.requires.pair c.requires.shut c.requires.cell.0 c.requires.cell.1 c.box_place.ensures c.turn-step.ensures.turn.1) in
    subst (CanOpen c.args.holder) c.in-Cell.is can

pub put_in-requires-clause-closed : goal.put_in-requires-clause-closed
put_in-requires-clause-closed g c =
    let can : CanOpen c.args.holder c.state.result.now = subst (CanOpen c.args.holder) (sym c.state.ensures.value)
    (shut_given g.I.InEnd.log g.I.InEnd.faults g.O.OutEnd.log g.O.OutEnd.faults c.args.main.now.config.now c.args.main.now.turns.now c.args.main.now.hand.now c.args.holder c.box_place.result _ _
    c.requires.may c.requires.pair c.requires.shut c.requires.cell.0 c.requires.cell.1 c.box_place.ensures c.turn-step.ensures.turn.1) in
    (subst (CanOpen c.args.holder) c.in-Pair.is can).0

pub put_in-requires-clause-cell : goal.put_in-requires-clause-cell
put_in-requires-clause-cell g c =
    let can : CanOpen c.args.holder c.state.result.now = subst (CanOpen c.args.holder) (sym c.state.ensures.value)
    (shut_given g.I.InEnd.log g.I.InEnd.faults g.O.OutEnd.log g.O.OutEnd.faults c.args.main.now.config.now c.args.main.now.turns.now c.args.main.now.hand.now c.args.holder c.box_place.result _ _
    c.requires.may c.requires.pair c.requires.shut c.requires.cell.0 c.requires.cell.1 c.box_place.ensures c.turn-step.ensures.turn.1) in
    let shut = subst (CanOpen c.args.holder) c.in-Pair.is can in
    (shut.1, shut.2)

pub turn-step-requires-clause-table : goal.turn-step-requires-clause-table
turn-step-requires-clause-table g c =
    c.requires.may.of_table

pub turn-step-requires-clause-place : goal.turn-step-requires-clause-place
turn-step-requires-clause-place g c =
    let at = c.box_place.ensures in
    let high = c.requires.pair in
    may_turn c.args.main.now.config.now c.args.main.now.turns.now c.args.main.now.hand.now c.box_place.result c.requires.may (omega (arith, at)) (omega (arith, at, high))

pub put_step-requires-clause-table : goal.put_step-requires-clause-table
put_step-requires-clause-table g c =
    (c.turn-step.ensures.same.0.0 ∙ c.requires.may.of_table, c.turn-step.ensures.same.0.3 ∙ c.requires.may.main)

pub put_step-requires-clause-turn : goal.put_step-requires-clause-turn
put_step-requires-clause-turn g c =
    c.turn-step.ensures.turn.0.4

pub put_step-requires-clause-step : goal.put_step-requires-clause-step
put_step-requires-clause-step g c =
    let can : CanOpen c.args.holder c.state.result.now = subst (CanOpen c.args.holder) (sym c.state.ensures.value)
    (shut_given g.I.InEnd.log g.I.InEnd.faults g.O.OutEnd.log g.O.OutEnd.faults c.args.main.now.config.now c.args.main.now.turns.now c.args.main.now.hand.now c.args.holder c.box_place.result _ _
    c.requires.may c.requires.pair c.requires.shut c.requires.cell.0 c.requires.cell.1 c.box_place.ensures c.turn-step.ensures.turn.1) in
    subst (λ (z : Part _ _). Relates g.I.InEnd.log g.I.InEnd.faults g.O.OutEnd.log g.O.OutEnd.faults z (nested c.args.main.now.entry_id.number c.args.main.now.entry_id.moment 0 (Box (Open c.args.holder))) (part.Pair c.put_in.new.self))
    (c.state.ensures.value ∙ sym c.turn-step.ensures.turn.0.1)
    (open_relates g.I.InEnd.log g.I.InEnd.faults g.O.OutEnd.log g.O.OutEnd.faults c.state.result.now c.in-Pair.held c.put_in.new.self c.args.holder c.args.rtp_end c.args.rtcp_end
    c.args.main.now.entry_id.number c.args.main.now.entry_id.moment c.in-Pair.is can
    (fit_given g.I.InEnd.log g.I.InEnd.faults g.O.OutEnd.log g.O.OutEnd.faults c.args.main.now.config.now c.args.main.now.turns.now c.args.main.now.hand.now c.args.holder.pair c.box_place.result _ _ c.state.result.now
    (c.args.rtp_end, c.args.rtcp_end) c.requires.may c.requires.pair c.box_place.ensures c.state.ensures.value c.turn-step.ensures.turn.1 c.requires.ends.0 c.requires.ends.1)
    c.put_in.ensures.history c.put_in.ensures.ends c.put_in.ensures.cells c.put_in.ensures.at)

pub returns-clause-ends : goal.returns-clause-ends
returns-clause-ends g c =
    let can : CanOpen c.args.holder c.state.result.now = subst (CanOpen c.args.holder) (sym c.state.ensures.value)
    (shut_given g.I.InEnd.log g.I.InEnd.faults g.O.OutEnd.log g.O.OutEnd.faults c.args.main.now.config.now c.args.main.now.turns.now c.args.main.now.hand.now c.args.holder c.box_place.result _ _
    c.requires.may c.requires.pair c.requires.shut c.requires.cell.0 c.requires.cell.1 c.box_place.ensures c.turn-step.ensures.turn.1) in
    let made = nested c.args.main.now.entry_id.number c.args.main.now.entry_id.moment 0 (Box (Open c.args.holder)) in
    opened_from g.I.InEnd.log g.I.InEnd.faults g.O.OutEnd.log g.O.OutEnd.faults c.args.main.now.hand.now c.box_place.result (box_of c.args.main.now.config.now c.args.holder.pair) c.turn-step.result.front c.turn-step.result.state
    c.state.result.now (part.Pair c.put_in.new.self) made (c.args.rtp_end, c.args.rtcp_end) c.box_place.ensures c.state.ensures.value c.turn-step.ensures.turn.1
    (open_relates g.I.InEnd.log g.I.InEnd.faults g.O.OutEnd.log g.O.OutEnd.faults c.state.result.now c.in-Pair.held c.put_in.new.self c.args.holder c.args.rtp_end c.args.rtcp_end
    c.args.main.now.entry_id.number c.args.main.now.entry_id.moment c.in-Pair.is can
    (fit_given g.I.InEnd.log g.I.InEnd.faults g.O.OutEnd.log g.O.OutEnd.faults c.args.main.now.config.now c.args.main.now.turns.now c.args.main.now.hand.now c.args.holder.pair c.box_place.result _ _ c.state.result.now
    (c.args.rtp_end, c.args.rtcp_end) c.requires.may c.requires.pair c.box_place.ensures c.state.ensures.value c.turn-step.ensures.turn.1 c.requires.ends.0 c.requires.ends.1)
    c.put_in.ensures.history c.put_in.ensures.ends c.put_in.ensures.cells c.put_in.ensures.at)
    c.put_in.ensures.ends

pub returns-clause-nests : goal.returns-clause-nests
returns-clause-nests g c =
    let at = c.box_place.ensures in
    let leg = c.args.holder in
    let same = turn_same c.args.main.now.config.now c.args.main.now.turns.now c.box_place.result
    (nested c.args.main.now.entry_id.number c.args.main.now.entry_id.moment 0 (Box (Open c.args.holder))) tt c.args.main.now.hand.now c.turn-step.new.hand c.put_step.new.hand c.turn-step.result c.requires.may
    (omega (arith, at)) c.turn-step.ensures.same c.turn-step.ensures.turn.0 c.put_step.ensures.same c.put_step.ensures.entry in
    record {
      turns_are = refl;
      config_is = refl;
      entry_is = refl;
      hand_is = refl;
      same = same.0;
      same_turns = same.1;
      may = turn_may c.args.main.now.config.now c.args.main.now.turns.now c.args.main.now.entry_id.number c.args.main.now.entry_id.moment 0 (box_of c.args.main.now.config.now leg.pair) c.box_place.result (Box (Open leg)) nothing_left tt
          c.args.main.now.hand.now c.turn-step.new.hand c.put_step.new.hand c.turn-step.result c.requires.may (omega (arith, at)) c.turn-step.ensures.same c.turn-step.ensures.turn.0
          c.put_step.ensures.same c.put_step.ensures.entry (returns-clause-gained g c);
    }
