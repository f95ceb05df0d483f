use Rattle.std.proofs.Common.{◌≡◌, refl, sym, subst, List, ◌∷◌, ◌∙◌}
use Rattle.turn_table.specs.declared.machine.Entry as table
use Rattle.turn_table.specs.Hands.{IsSameHand, SameTurns, place_of, front_of, state_of, taken_of, entries}
use Rattle.call_board.specs.Acts.{BoardEntry}
use Rattle.call_board.specs.Pairs.{held}
use Rattle.call_board.specs.Views.{view_of, view_at_moment}
use Rattle.media_ports.specs.OpenPorts.{LogsHeld}
use Rattle.call_board.specs.Shapes.{board_shape}
use Rattle.relay_core.specs.KeptAfter.{IsWholeWith}
use Rattle.relay_core.specs.declared.part.Part.TheVariants as part
use Rattle.relay_core.specs.Entries.{board_history}
use Rattle.relay_core.specs.Records.{Made}
use Rattle.relay_core.specs.Turns.{made_by}
use Rattle.board_turns.specs.Between.{board_of}
use Rattle.board_turns.specs.CallEnds.{leg_pairs}
use Rattle.board_turns.specs.Ticks.{tick_entry}
use Rattle.board_turns.specs.Ties.{PortsFollowRows}
use Rattle.board_turns.proofs.Betweens.{between_may, turn_begins, begins_whole, in_turn, still_has}
use Rattle.board_turns.proofs.HeldPorts.{board_holds}
use Rattle.board_turns.proofs.Grown.{makes_history}
use Rattle.board_turns.proofs.StopTurns.{moved}
use Rattle.board_turns.proofs.TickTurns.{made_after, tick_begins, tick_ended, tick_relates, tick_ends, due_before_turn}
use Rattle.board_turns.proofs.Tying.{ties_ended}
use Rattle.board_turns.proofs.Wholeness.{same_shape, works_whole}
use Rattle.board_turns.proofs.tick.tick_turn.Goals as goal

pub turn-step-requires-clause-table : goal.turn-step-requires-clause-table
turn-step-requires-clause-table g c = c.requires.rests.between.of_table

pub turn-step-requires-clause-place : goal.turn-step-requires-clause-place
turn-step-requires-clause-place g c = between_may c.args.at.now.config.now c.args.at.now.turns.now c.args.at.now.hand.now c.requires.rests.between

pub unreachable-requires : goal.unreachable-requires
unreachable-requires g c =
    let config = c.args.at.now.config.now in
    let turns = c.args.at.now.turns.now in
    let old = c.args.at.now.hand.now in
    let mid = c.turn-step.new.hand in
    let step = c.turn-step.result in
    let between = c.requires.rests.between in
    let begins = turn_begins g.P.In.InEnd.log g.P.In.InEnd.faults g.P.Out.OutEnd.log g.P.Out.OutEnd.faults config turns old mid step between c.turn-step.ensures.same c.turn-step.ensures.turn in
    moved config (board_history (made_by mid) (front_of step)) (state_of step) _ (sym c.in-Cell.is ∙ c.state.ensures.value) begins.board

pub unreachable-requires-in-Pair : goal.unreachable-requires-in-Pair
unreachable-requires-in-Pair g c =
    let config = c.args.at.now.config.now in
    let turns = c.args.at.now.turns.now in
    let old = c.args.at.now.hand.now in
    let mid = c.turn-step.new.hand in
    let step = c.turn-step.result in
    let between = c.requires.rests.between in
    let begins = turn_begins g.P.In.InEnd.log g.P.In.InEnd.faults g.P.Out.OutEnd.log g.P.Out.OutEnd.faults config turns old mid step between c.turn-step.ensures.same c.turn-step.ensures.turn in
    moved config (board_history (made_by mid) (front_of step)) (state_of step) _ (sym c.in-Pair.is ∙ c.state.ensures.value) begins.board

pub expire_live-ended-requires : goal.expire_live-ended-requires
expire_live-ended-requires g c =
    let config = c.args.at.now.config.now in
    let turns = c.args.at.now.turns.now in
    let old = c.args.at.now.hand.now in
    let mid = c.turn-step.new.hand in
    let step = c.turn-step.result in
    let between = c.requires.rests.between in
    let begins = turn_begins g.P.In.InEnd.log g.P.In.InEnd.faults g.P.Out.OutEnd.log g.P.Out.OutEnd.faults config turns old mid step between c.turn-step.ensures.same c.turn-step.ensures.turn in
    let turn = in_turn config turns old mid step (record { number = c.front-number.result; moment = c.advance.result }) c.in-Board.board c.advance.new.self c.args.now
    (g.P.PortMaker.log c.args.at.now.ports.now) c.turn-step.ensures.same.1 begins c.front-number.ensures (sym c.state.ensures.value ∙ c.in-Board.is) c.advance.ensures.moment
    c.advance.ensures.shape c.requires.rests.opens in
    record {
      may = turn.may;
      empty = c.requires.rests.empty;
      whole = turn.whole;
      holds = board_holds config mid c.advance.new.self (g.P.PortMaker.log c.args.at.now.ports.now) (board_history (made_by mid) c.front-number.result)
          (view_at_moment (view_of config (board_history (made_by mid) c.front-number.result)) c.advance.result) turn.whole turn.shows refl turn.opens;
    }

pub put_step-requires-clause-table : goal.put_step-requires-clause-table
put_step-requires-clause-table g c =
    let nests = c.expire_live-ended.ensures.works.stays.nests in
    let left : c.expire_live-ended.new.turn.main.hand.now ≡ c.at-1.given.0 = sym (c.at-1.given.1 (sym nests.hand_is)) in
    let first = c.turn-step.ensures.same.0 in
    let second = subst (λ hand. IsSameHand c.turn-step.new.hand hand) left nests.same in
    (second.0 ∙ first.0 ∙ c.requires.rests.between.of_table, second.3 ∙ first.3 ∙ c.requires.rests.between.main)

pub put_step-requires-clause-turn : goal.put_step-requires-clause-turn
put_step-requires-clause-turn g c =
    let nests = c.expire_live-ended.ensures.works.stays.nests in
    let left : c.expire_live-ended.new.turn.main.hand.now ≡ c.at-1.given.0 = sym (c.at-1.given.1 (sym nests.hand_is)) in
    still_has c.turn-step.new.hand c.at-1.given.0 c.turn-step.result (subst (λ hand. IsSameHand c.turn-step.new.hand hand × SameTurns c.turn-step.new.hand hand) left (nests.same, nests.same_turns))
    c.turn-step.ensures.turn.0.4

pub put_step-requires-clause-step : goal.put_step-requires-clause-step
put_step-requires-clause-step g c =
    let config = c.args.at.now.config.now in
    let turns = c.args.at.now.turns.now in
    let old = c.args.at.now.hand.now in
    let mid = c.turn-step.new.hand in
    let step = c.turn-step.result in
    let between = c.requires.rests.between in
    let begins = turn_begins g.P.In.InEnd.log g.P.In.InEnd.faults g.P.Out.OutEnd.log g.P.Out.OutEnd.faults config turns old mid step between c.turn-step.ensures.same c.turn-step.ensures.turn in
    let new = c.expire_live-ended.new.turn in
    let nested = c.at-1.given.0 in
    let nests = c.expire_live-ended.ensures.works.stays.nests in
    let left : new.main.hand.now ≡ nested = sym (c.at-1.given.1 (sym nests.hand_is)) in
    let count = c.expire_live-ended.result in
    let after = g.P.PortMaker.log new.ports.now in
    let ticks = tick_begins config turns mid step c.front-number.result c.advance.result c.args.now c.state.result.now c.in-Board.board c.advance.new.self begins
    c.front-number.ensures c.state.ensures.value c.in-Board.is c.advance.ensures.moment in
    let ends = tick_ended config mid new.main.hand.now nested step c.front-number.result c.advance.result c.args.now count new.board.now after ticks left
    (c.expire_live-ended.ensures.ends (record {
      in_turn = in_turn config turns old mid step (record { number = c.front-number.result; moment = c.advance.result }) c.in-Board.board c.advance.new.self c.args.now
          (g.P.PortMaker.log c.args.at.now.ports.now) c.turn-step.ensures.same.1 begins c.front-number.ensures (sym c.state.ensures.value ∙ c.in-Board.is) c.advance.ensures.moment
          c.advance.ensures.shape c.requires.rests.opens;
      empty = c.requires.rests.empty;
    })) in
    tick_relates config turns mid nested step c.args.now count (part.Board new.board.now) after ends.0 begins ends.1 ends.2 g.P.In.InEnd.log g.P.In.InEnd.faults g.P.Out.OutEnd.log g.P.Out.OutEnd.faults (taken_of step)
    (moved config (board_history (made_by mid) (front_of step)) (state_of step) (taken_of step) begins.untouched begins.board)

-- what the board, the cells and the boxes keep when the calls have ended goes together
left_whole : (g : _) (c : goal.After-put_step g) → IsWholeWith c.args.at.now.config.now c.at-1.given.0 (board_shape c.expire_live-ended.new.turn.board.now)
left_whole g c =
    let config = c.args.at.now.config.now in
    let turns = c.args.at.now.turns.now in
    let old = c.args.at.now.hand.now in
    let mid = c.turn-step.new.hand in
    let step = c.turn-step.result in
    let between = c.requires.rests.between in
    let begins = turn_begins g.P.In.InEnd.log g.P.In.InEnd.faults g.P.Out.OutEnd.log g.P.Out.OutEnd.faults config turns old mid step between c.turn-step.ensures.same c.turn-step.ensures.turn in
    let works = c.expire_live-ended.ensures.works in
    works_whole g.P.PortMaker.log g.P.PortMaker.faults _ c.expire_live-ended.new.turn c.at-1.given.0 works (sym (c.at-1.given.1 (sym works.stays.nests.hand_is)))
    (same_shape config mid c.in-Board.board c.advance.new.self c.advance.ensures.shape (begins.whole c.in-Board.board (sym c.state.ensures.value ∙ c.in-Board.is)))

pub returns-clause-ticks : goal.returns-clause-ticks
returns-clause-ticks g c =
    let config = c.args.at.now.config.now in
    let turns = c.args.at.now.turns.now in
    let old = c.args.at.now.hand.now in
    let mid = c.turn-step.new.hand in
    let step = c.turn-step.result in
    let between = c.requires.rests.between in
    let begins = turn_begins g.P.In.InEnd.log g.P.In.InEnd.faults g.P.Out.OutEnd.log g.P.Out.OutEnd.faults config turns old mid step between c.turn-step.ensures.same c.turn-step.ensures.turn in
    let new = c.expire_live-ended.new.turn in
    let nested = c.at-1.given.0 in
    let nests = c.expire_live-ended.ensures.works.stays.nests in
    let left : new.main.hand.now ≡ nested = sym (c.at-1.given.1 (sym nests.hand_is)) in
    let count = c.expire_live-ended.result in
    let after = g.P.PortMaker.log new.ports.now in
    let ticks = tick_begins config turns mid step c.front-number.result c.advance.result c.args.now c.state.result.now c.in-Board.board c.advance.new.self begins
    c.front-number.ensures c.state.ensures.value c.in-Board.is c.advance.ensures.moment in
    let ends = tick_ended config mid new.main.hand.now nested step c.front-number.result c.advance.result c.args.now count new.board.now after ticks left
    (c.expire_live-ended.ensures.ends (record {
      in_turn = in_turn config turns old mid step (record { number = c.front-number.result; moment = c.advance.result }) c.in-Board.board c.advance.new.self c.args.now
          (g.P.PortMaker.log c.args.at.now.ports.now) c.turn-step.ensures.same.1 begins c.front-number.ensures (sym c.state.ensures.value ∙ c.in-Board.is) c.advance.ensures.moment
          c.advance.ensures.shape c.requires.rests.opens;
      empty = c.requires.rests.empty;
    })) in
    let sames = subst (λ hand. IsSameHand mid hand × SameTurns mid hand) left (nests.same, nests.same_turns) in
    let put = tick_ends config turns mid nested step c.args.now count (part.Board new.board.now) after ends.0 begins ends.1 ends.2 old c.put_step.new.hand tt between
    c.turn-step.ensures.same c.turn-step.ensures.turn.0 sames c.put_step.ensures.same c.put_step.ensures.entry (board_shape new.board.now) refl (left_whole g c) in
    let whole = begins_whole config turns old mid step c.turn-step.ensures.same.1 begins in
    record {
      calls = ends.0;
      makes = put.makes;
      due = due_before_turn config old mid (front_of step) c.args.now ends.0 c.turn-step.ensures.same.0 c.turn-step.ensures.same.1 whole ends.1.due;
      count_is = ends.1.count_is;
    }

pub returns-clause-closes : goal.returns-clause-closes
returns-clause-closes g c = c.expire_live-ended.ensures.closes

pub returns-clause-rests : goal.returns-clause-rests
returns-clause-rests g c =
    let config = c.args.at.now.config.now in
    let turns = c.args.at.now.turns.now in
    let old = c.args.at.now.hand.now in
    let mid = c.turn-step.new.hand in
    let step = c.turn-step.result in
    let between = c.requires.rests.between in
    let begins = turn_begins g.P.In.InEnd.log g.P.In.InEnd.faults g.P.Out.OutEnd.log g.P.Out.OutEnd.faults config turns old mid step between c.turn-step.ensures.same c.turn-step.ensures.turn in
    let new = c.expire_live-ended.new.turn in
    let nested = c.at-1.given.0 in
    let nests = c.expire_live-ended.ensures.works.stays.nests in
    let left : new.main.hand.now ≡ nested = sym (c.at-1.given.1 (sym nests.hand_is)) in
    let count = c.expire_live-ended.result in
    let after = g.P.PortMaker.log new.ports.now in
    let ticks = tick_begins config turns mid step c.front-number.result c.advance.result c.args.now c.state.result.now c.in-Board.board c.advance.new.self begins
    c.front-number.ensures c.state.ensures.value c.in-Board.is c.advance.ensures.moment in
    let ends = tick_ended config mid new.main.hand.now nested step c.front-number.result c.advance.result c.args.now count new.board.now after ticks left
    (c.expire_live-ended.ensures.ends (record {
      in_turn = in_turn config turns old mid step (record { number = c.front-number.result; moment = c.advance.result }) c.in-Board.board c.advance.new.self c.args.now
          (g.P.PortMaker.log c.args.at.now.ports.now) c.turn-step.ensures.same.1 begins c.front-number.ensures (sym c.state.ensures.value ∙ c.in-Board.is) c.advance.ensures.moment
          c.advance.ensures.shape c.requires.rests.opens;
      empty = c.requires.rests.empty;
    })) in
    let sames = subst (λ hand. IsSameHand mid hand × SameTurns mid hand) left (nests.same, nests.same_turns) in
    let put = tick_ends config turns mid nested step c.args.now count (part.Board new.board.now) after ends.0 begins ends.1 ends.2 old c.put_step.new.hand tt between
    c.turn-step.ensures.same c.turn-step.ensures.turn.0 sames c.put_step.ensures.same c.put_step.ensures.entry (board_shape new.board.now) refl (left_whole g c) in
    let whole = begins_whole config turns old mid step c.turn-step.ensures.same.1 begins in
    let before = g.P.PortMaker.log c.args.at.now.ports.now in
    let past = board_of (made_by old) in
    let works = c.expire_live-ended.ensures.works in
    record {
      turns_are = refl;
      config_is = refl;
      hand_is = refl;
      ports_are = refl;
      gone_is = refl;
      same = put.same;
      rests = record {
        between = put.between;
        opens = subst (λ (k : List BoardEntry). LogsHeld config after (leg_pairs (held k)))
            (sym (makes_history config turns old c.put_step.new.hand (tick_entry past c.args.now ends.0) between put.between put.makes))
            (subst (λ (k : List BoardEntry). LogsHeld config after (leg_pairs (held (tick_entry k c.args.now ends.0 ∷ k)))) whole ends.1.opens);
        empty = works.empty;
      };
      ties = ties_ended config before after (entries old) (place_of step) (front_of step) (made_after nested (front_of step) c.args.now (part.Board new.board.now)) tt nested
          c.put_step.new.hand refl refl c.put_step.ensures.entry
          (subst (λ (rows : List (table.Entry Made _)). PortsFollowRows config before after rows (entries nested)) c.turn-step.ensures.same.1 (subst (λ hand. PortsFollowRows config before after (entries mid) (entries hand)) left works.ties));
      later = works.stays.later;
    }
