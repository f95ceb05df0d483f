use Rattle.std.proofs.Common.{◌≡◌, ◌∙◌, refl, sym, ap, subst, ℕ, List, length}
use Rattle.turn_table.specs.declared.machine.Entry as table
use Rattle.turn_table.specs.Hands.{IsSameHand, SameTurns, place_of, front_of, state_of, taken_of, entries}
use Rattle.call_board.specs.Acts.{BoardEntry}
use Rattle.call_board.specs.Calls.{live}
use Rattle.call_board.specs.Fits.{IsFitting}
use Rattle.call_board.specs.Pairs.{held}
use Rattle.port_pool.specs.declared.holder.Holder.{Holder}
use Rattle.media_ports.specs.OpenPorts.{LogsHeld}
use Rattle.call_board.specs.Shapes.{board_shape}
use Rattle.relay_core.specs.KeptAfter.{IsWholeWith}
use Rattle.relay_core.specs.declared.part.Part.TheVariants as part
use Rattle.relay_core.specs.Entries.{board_history}
use Rattle.relay_core.specs.Records.{Made}
use Rattle.relay_core.specs.Scripts.{script}
use Rattle.relay_core.specs.Turns.{GainsNested, IsAbove, made_by}
use Rattle.call_board.specs.Views.{board_last_moment, view_of}
use Rattle.board_turns.specs.Between.{board_of}
use Rattle.board_turns.specs.CallEnds.{leg_pairs}
use Rattle.board_turns.specs.Stops.{stop_entry, stop_made}
use Rattle.board_turns.specs.Ties.{PortsFollowRows}
use Rattle.board_turns.proofs.Betweens.{between_may, turn_begins, begins_whole, still_has}
use Rattle.board_turns.proofs.HeldPorts.{board_holds}
use Rattle.board_turns.proofs.Grown.{makes_history}
use Rattle.board_turns.proofs.StopTurns.{moved, stop_begins, stop_gained, stop_stands, stop_opens_none, stop_relates, stop_history, stop_ends}
use Rattle.board_turns.proofs.Tying.{ties_ended}
use Rattle.board_turns.proofs.Wholeness.{same_shape, works_whole}
use Rattle.board_turns.proofs.Unheld.{stop_holds_none}
use Rattle.board_turns.proofs.stop.stop_turn.Goals as goal

pub turn-step-requires-clause-table : goal.turn-step-requires-clause-table
turn-step-requires-clause-table g c = c.requires.rests.between.of_table

pub turn-step-requires-clause-place : goal.turn-step-requires-clause-place
turn-step-requires-clause-place g c = between_may c.args.at.now.config.now c.args.at.now.turns.now c.args.at.now.hand.now c.requires.rests.between

pub unreachable-requires : goal.unreachable-requires
unreachable-requires g c =
    let config = c.args.at.now.config.now in
    let turns = c.args.at.now.turns.now in
    let old = c.args.at.now.hand.now in
    let mid = c.turn-step.new.hand in
    let step = c.turn-step.result in
    let between = c.requires.rests.between in
    let begins = turn_begins g.P.In.InEnd.log g.P.In.InEnd.faults g.P.Out.OutEnd.log g.P.Out.OutEnd.faults config turns old mid step between c.turn-step.ensures.same c.turn-step.ensures.turn in
    moved config (board_history (made_by mid) (front_of step)) (state_of step) _ (sym c.in-Cell.is ∙ c.state.ensures.value) begins.board

pub unreachable-requires-in-Pair : goal.unreachable-requires-in-Pair
unreachable-requires-in-Pair g c =
    let config = c.args.at.now.config.now in
    let turns = c.args.at.now.turns.now in
    let old = c.args.at.now.hand.now in
    let mid = c.turn-step.new.hand in
    let step = c.turn-step.result in
    let between = c.requires.rests.between in
    let begins = turn_begins g.P.In.InEnd.log g.P.In.InEnd.faults g.P.Out.OutEnd.log g.P.Out.OutEnd.faults config turns old mid step between c.turn-step.ensures.same c.turn-step.ensures.turn in
    moved config (board_history (made_by mid) (front_of step)) (state_of step) _ (sym c.in-Pair.is ∙ c.state.ensures.value) begins.board

pub end_live-count-requires-clause-may : goal.end_live-count-requires-clause-may
end_live-count-requires-clause-may g c =
    let config = c.args.at.now.config.now in
    let turns = c.args.at.now.turns.now in
    let old = c.args.at.now.hand.now in
    let mid = c.turn-step.new.hand in
    let step = c.turn-step.result in
    let between = c.requires.rests.between in
    let begins = turn_begins g.P.In.InEnd.log g.P.In.InEnd.faults g.P.Out.OutEnd.log g.P.Out.OutEnd.faults config turns old mid step between c.turn-step.ensures.same c.turn-step.ensures.turn in
    begins.may

pub end_live-count-requires-clause-whole : goal.end_live-count-requires-clause-whole
end_live-count-requires-clause-whole g c =
    let config = c.args.at.now.config.now in
    let turns = c.args.at.now.turns.now in
    let old = c.args.at.now.hand.now in
    let mid = c.turn-step.new.hand in
    let step = c.turn-step.result in
    let between = c.requires.rests.between in
    let begins = turn_begins g.P.In.InEnd.log g.P.In.InEnd.faults g.P.Out.OutEnd.log g.P.Out.OutEnd.faults config turns old mid step between c.turn-step.ensures.same c.turn-step.ensures.turn in
    same_shape config mid c.in-Board.board c.advance-moment.new.self c.advance-moment.ensures.shape (begins.whole c.in-Board.board (sym c.state.ensures.value ∙ c.in-Board.is))

pub end_live-count-requires-clause-holds : goal.end_live-count-requires-clause-holds
end_live-count-requires-clause-holds g c =
    let config = c.args.at.now.config.now in
    let turns = c.args.at.now.turns.now in
    let old = c.args.at.now.hand.now in
    let mid = c.turn-step.new.hand in
    let step = c.turn-step.result in
    let between = c.requires.rests.between in
    let begins = turn_begins g.P.In.InEnd.log g.P.In.InEnd.faults g.P.Out.OutEnd.log g.P.Out.OutEnd.faults config turns old mid step between c.turn-step.ensures.same c.turn-step.ensures.turn in
    let stops = stop_begins config turns mid step c.front-number.result c.advance-moment.result c.state.result.now c.in-Board.board c.advance-moment.new.self begins
    c.front-number.ensures c.state.ensures.value c.in-Board.is c.advance-moment.ensures.moment in
    let whole = same_shape config mid c.in-Board.board c.advance-moment.new.self c.advance-moment.ensures.shape (begins.whole c.in-Board.board (sym c.state.ensures.value ∙ c.in-Board.is)) in
    board_holds config mid c.advance-moment.new.self (g.P.PortMaker.log c.args.at.now.ports.now) (board_history (made_by mid) c.front-number.result)
    (view_of config (board_history (made_by mid) c.front-number.result)) whole stops.stands refl
    (subst (λ (k : ℕ). LogsHeld config (g.P.PortMaker.log c.args.at.now.ports.now) (leg_pairs (held (board_history (made_by mid) k)))) (sym c.front-number.ensures)
    (subst (λ (h : List BoardEntry). LogsHeld config (g.P.PortMaker.log c.args.at.now.ports.now) (leg_pairs (held h))) (sym (begins_whole config turns old mid step c.turn-step.ensures.same.1 begins)) c.requires.rests.opens))

pub end_live-count-requires-clause-empty : goal.end_live-count-requires-clause-empty
end_live-count-requires-clause-empty g c = c.requires.rests.empty

pub put_entry-requires-clause-table : goal.put_entry-requires-clause-table
put_entry-requires-clause-table g c =
    let nests = c.end_live-count.ensures.works.stays.nests in
    let left : c.end_live-count.new.turn.main.hand.now ≡ c.at-1.given.0 = sym (c.at-1.given.1 (sym nests.hand_is)) in
    let first = c.turn-step.ensures.same.0 in
    let second = subst (λ hand. IsSameHand c.turn-step.new.hand hand) left nests.same in
    (second.0 ∙ first.0 ∙ c.requires.rests.between.of_table, second.3 ∙ first.3 ∙ c.requires.rests.between.main)

pub put_entry-requires-clause-turn : goal.put_entry-requires-clause-turn
put_entry-requires-clause-turn g c =
    let nests = c.end_live-count.ensures.works.stays.nests in
    let left : c.end_live-count.new.turn.main.hand.now ≡ c.at-1.given.0 = sym (c.at-1.given.1 (sym nests.hand_is)) in
    still_has c.turn-step.new.hand c.at-1.given.0 c.turn-step.result (subst (λ hand. IsSameHand c.turn-step.new.hand hand × SameTurns c.turn-step.new.hand hand) left (nests.same, nests.same_turns))
    c.turn-step.ensures.turn.0.4

pub put_entry-requires-clause-step : goal.put_entry-requires-clause-step
put_entry-requires-clause-step g c =
    let config = c.args.at.now.config.now in
    let turns = c.args.at.now.turns.now in
    let old = c.args.at.now.hand.now in
    let mid = c.turn-step.new.hand in
    let step = c.turn-step.result in
    let between = c.requires.rests.between in
    let begins = turn_begins g.P.In.InEnd.log g.P.In.InEnd.faults g.P.Out.OutEnd.log g.P.Out.OutEnd.faults config turns old mid step between c.turn-step.ensures.same c.turn-step.ensures.turn in
    let stops = stop_begins config turns mid step c.front-number.result c.advance-moment.result c.state.result.now c.in-Board.board c.advance-moment.new.self begins
    c.front-number.ensures c.state.ensures.value c.in-Board.is c.advance-moment.ensures.moment in
    let new = c.end_live-count.new.turn in
    let nested = c.at-1.given.0 in
    let nests = c.end_live-count.ensures.works.stays.nests in
    let left : new.main.hand.now ≡ nested = sym (c.at-1.given.1 (sym nests.hand_is)) in
    let h = board_history (made_by mid) (front_of step) in
    let gains = subst (λ hand. GainsNested (front_of step) (board_last_moment h) (script config h (stop_entry h)) mid hand) left
    (stop_gained config mid new.main.hand.now step c.front-number.result c.advance-moment.result c.advance-moment.new.self stops (c.end_live-count.ensures.gained (record {
      above = subst (λ (k : ℕ). IsAbove (made_by mid) 0 k) (sym c.front-number.ensures) begins.above;
      orderly = begins.orderly;
      board = stops.stands;
      opens = (subst (λ (k : ℕ). LogsHeld config (g.P.PortMaker.log c.args.at.now.ports.now) (leg_pairs (held (board_history (made_by mid) k)))) (sym c.front-number.ensures)
          (subst (λ (h : List BoardEntry). LogsHeld config (g.P.PortMaker.log c.args.at.now.ports.now) (leg_pairs (held h))) (sym (begins_whole config turns old mid step c.turn-step.ensures.same.1 begins)) c.requires.rests.opens));
    }))) in
    stop_relates g.P.In.InEnd.log g.P.In.InEnd.faults g.P.Out.OutEnd.log g.P.Out.OutEnd.faults config h (board_history (made_by nested) (front_of step)) (taken_of step) (part.Board new.board.now)
    (stop_history config turns mid nested step begins gains)
    (moved config h (state_of step) (taken_of step) begins.untouched begins.board)
    (stop_stands config mid step c.front-number.result c.advance-moment.result c.advance-moment.new.self new.board.now stops (c.end_live-count.ensures.board (record {
      above = subst (λ (k : ℕ). IsAbove (made_by mid) 0 k) (sym c.front-number.ensures) begins.above;
      orderly = begins.orderly;
      board = stops.stands;
      opens = (subst (λ (k : ℕ). LogsHeld config (g.P.PortMaker.log c.args.at.now.ports.now) (leg_pairs (held (board_history (made_by mid) k)))) (sym c.front-number.ensures)
          (subst (λ (h : List BoardEntry). LogsHeld config (g.P.PortMaker.log c.args.at.now.ports.now) (leg_pairs (held h))) (sym (begins_whole config turns old mid step c.turn-step.ensures.same.1 begins)) c.requires.rests.opens));
    })))

-- what the board, the cells and the boxes keep when all calls have ended goes together
left_whole : (g : _) (c : goal.After-put_entry g) → IsWholeWith c.args.at.now.config.now c.at-1.given.0 (board_shape c.end_live-count.new.turn.board.now)
left_whole g c =
    let config = c.args.at.now.config.now in
    let turns = c.args.at.now.turns.now in
    let old = c.args.at.now.hand.now in
    let mid = c.turn-step.new.hand in
    let step = c.turn-step.result in
    let between = c.requires.rests.between in
    let begins = turn_begins g.P.In.InEnd.log g.P.In.InEnd.faults g.P.Out.OutEnd.log g.P.Out.OutEnd.faults config turns old mid step between c.turn-step.ensures.same c.turn-step.ensures.turn in
    let works = c.end_live-count.ensures.works in
    works_whole g.P.PortMaker.log g.P.PortMaker.faults _ c.end_live-count.new.turn c.at-1.given.0 works (sym (c.at-1.given.1 (sym works.stays.nests.hand_is)))
    (same_shape config mid c.in-Board.board c.advance-moment.new.self c.advance-moment.ensures.shape (begins.whole c.in-Board.board (sym c.state.ensures.value ∙ c.in-Board.is)))

pub returns-clause-makes : goal.returns-clause-makes
returns-clause-makes g c =
    let config = c.args.at.now.config.now in
    let turns = c.args.at.now.turns.now in
    let old = c.args.at.now.hand.now in
    let mid = c.turn-step.new.hand in
    let step = c.turn-step.result in
    let between = c.requires.rests.between in
    let begins = turn_begins g.P.In.InEnd.log g.P.In.InEnd.faults g.P.Out.OutEnd.log g.P.Out.OutEnd.faults config turns old mid step between c.turn-step.ensures.same c.turn-step.ensures.turn in
    let stops = stop_begins config turns mid step c.front-number.result c.advance-moment.result c.state.result.now c.in-Board.board c.advance-moment.new.self begins
    c.front-number.ensures c.state.ensures.value c.in-Board.is c.advance-moment.ensures.moment in
    let new = c.end_live-count.new.turn in
    let nested = c.at-1.given.0 in
    let nests = c.end_live-count.ensures.works.stays.nests in
    let left : new.main.hand.now ≡ nested = sym (c.at-1.given.1 (sym nests.hand_is)) in
    let h = board_history (made_by mid) (front_of step) in
    let gains = subst (λ hand. GainsNested (front_of step) (board_last_moment h) (script config h (stop_entry h)) mid hand) left
    (stop_gained config mid new.main.hand.now step c.front-number.result c.advance-moment.result c.advance-moment.new.self stops (c.end_live-count.ensures.gained (record {
      above = subst (λ (k : ℕ). IsAbove (made_by mid) 0 k) (sym c.front-number.ensures) begins.above;
      orderly = begins.orderly;
      board = stops.stands;
      opens = (subst (λ (k : ℕ). LogsHeld config (g.P.PortMaker.log c.args.at.now.ports.now) (leg_pairs (held (board_history (made_by mid) k)))) (sym c.front-number.ensures)
          (subst (λ (h : List BoardEntry). LogsHeld config (g.P.PortMaker.log c.args.at.now.ports.now) (leg_pairs (held h))) (sym (begins_whole config turns old mid step c.turn-step.ensures.same.1 begins)) c.requires.rests.opens));
    }))) in
    let sames = subst (λ hand. IsSameHand mid hand × SameTurns mid hand) left (nests.same, nests.same_turns) in
    let put = stop_ends _ config turns old mid nested c.put_entry.new.hand step tt between c.turn-step.ensures.same c.turn-step.ensures.turn.0 begins sames gains
    c.put_entry.ensures.same c.put_entry.ensures.entry (board_shape new.board.now) refl (left_whole g c) in
    put.makes

pub returns-clause-count : goal.returns-clause-count
returns-clause-count g c =
    let config = c.args.at.now.config.now in
    let turns = c.args.at.now.turns.now in
    let old = c.args.at.now.hand.now in
    let mid = c.turn-step.new.hand in
    let step = c.turn-step.result in
    let between = c.requires.rests.between in
    let begins = turn_begins g.P.In.InEnd.log g.P.In.InEnd.faults g.P.Out.OutEnd.log g.P.Out.OutEnd.faults config turns old mid step between c.turn-step.ensures.same c.turn-step.ensures.turn in
    let stops = stop_begins config turns mid step c.front-number.result c.advance-moment.result c.state.result.now c.in-Board.board c.advance-moment.new.self begins
    c.front-number.ensures c.state.ensures.value c.in-Board.is c.advance-moment.ensures.moment in
    c.end_live-count.ensures.count (record {
      above = subst (λ (k : ℕ). IsAbove (made_by mid) 0 k) (sym c.front-number.ensures) begins.above;
      orderly = begins.orderly;
      board = stops.stands;
      opens = (subst (λ (k : ℕ). LogsHeld config (g.P.PortMaker.log c.args.at.now.ports.now) (leg_pairs (held (board_history (made_by mid) k)))) (sym c.front-number.ensures)
          (subst (λ (h : List BoardEntry). LogsHeld config (g.P.PortMaker.log c.args.at.now.ports.now) (leg_pairs (held h))) (sym (begins_whole config turns old mid step c.turn-step.ensures.same.1 begins)) c.requires.rests.opens));
    })
    ∙ ap (λ (k : ℕ). length (live (board_history (made_by mid) k))) c.front-number.ensures
    ∙ ap (λ (h : List BoardEntry). length (live h)) (begins_whole config turns old mid step c.turn-step.ensures.same.1 begins)

pub returns-clause-shut : goal.returns-clause-shut
returns-clause-shut g c =
    let config = c.args.at.now.config.now in
    let turns = c.args.at.now.turns.now in
    let old = c.args.at.now.hand.now in
    let mid = c.turn-step.new.hand in
    let step = c.turn-step.result in
    let between = c.requires.rests.between in
    let begins = turn_begins g.P.In.InEnd.log g.P.In.InEnd.faults g.P.Out.OutEnd.log g.P.Out.OutEnd.faults config turns old mid step between c.turn-step.ensures.same c.turn-step.ensures.turn in
    let stops = stop_begins config turns mid step c.front-number.result c.advance-moment.result c.state.result.now c.in-Board.board c.advance-moment.new.self begins
    c.front-number.ensures c.state.ensures.value c.in-Board.is c.advance-moment.ensures.moment in
    stop_opens_none config mid step c.front-number.result c.advance-moment.result c.advance-moment.new.self (g.P.PortMaker.log c.end_live-count.new.turn.ports.now) stops
    (c.end_live-count.ensures.«open» (record {
      above = subst (λ (k : ℕ). IsAbove (made_by mid) 0 k) (sym c.front-number.ensures) begins.above;
      orderly = begins.orderly;
      board = stops.stands;
      opens = (subst (λ (k : ℕ). LogsHeld config (g.P.PortMaker.log c.args.at.now.ports.now) (leg_pairs (held (board_history (made_by mid) k)))) (sym c.front-number.ensures)
          (subst (λ (h : List BoardEntry). LogsHeld config (g.P.PortMaker.log c.args.at.now.ports.now) (leg_pairs (held h))) (sym (begins_whole config turns old mid step c.turn-step.ensures.same.1 begins)) c.requires.rests.opens));
    }))

pub returns-clause-closes : goal.returns-clause-closes
returns-clause-closes g c = c.end_live-count.ensures.closes

pub returns-clause-rests : goal.returns-clause-rests
returns-clause-rests g c =
    let config = c.args.at.now.config.now in
    let turns = c.args.at.now.turns.now in
    let old = c.args.at.now.hand.now in
    let mid = c.turn-step.new.hand in
    let step = c.turn-step.result in
    let between = c.requires.rests.between in
    let begins = turn_begins g.P.In.InEnd.log g.P.In.InEnd.faults g.P.Out.OutEnd.log g.P.Out.OutEnd.faults config turns old mid step between c.turn-step.ensures.same c.turn-step.ensures.turn in
    let stops = stop_begins config turns mid step c.front-number.result c.advance-moment.result c.state.result.now c.in-Board.board c.advance-moment.new.self begins
    c.front-number.ensures c.state.ensures.value c.in-Board.is c.advance-moment.ensures.moment in
    let new = c.end_live-count.new.turn in
    let nested = c.at-1.given.0 in
    let nests = c.end_live-count.ensures.works.stays.nests in
    let left : new.main.hand.now ≡ nested = sym (c.at-1.given.1 (sym nests.hand_is)) in
    let h = board_history (made_by mid) (front_of step) in
    let gains = subst (λ hand. GainsNested (front_of step) (board_last_moment h) (script config h (stop_entry h)) mid hand) left
    (stop_gained config mid new.main.hand.now step c.front-number.result c.advance-moment.result c.advance-moment.new.self stops (c.end_live-count.ensures.gained (record {
      above = subst (λ (k : ℕ). IsAbove (made_by mid) 0 k) (sym c.front-number.ensures) begins.above;
      orderly = begins.orderly;
      board = stops.stands;
      opens = (subst (λ (k : ℕ). LogsHeld config (g.P.PortMaker.log c.args.at.now.ports.now) (leg_pairs (held (board_history (made_by mid) k)))) (sym c.front-number.ensures)
          (subst (λ (h : List BoardEntry). LogsHeld config (g.P.PortMaker.log c.args.at.now.ports.now) (leg_pairs (held h))) (sym (begins_whole config turns old mid step c.turn-step.ensures.same.1 begins)) c.requires.rests.opens));
    }))) in
    let sames = subst (λ hand. IsSameHand mid hand × SameTurns mid hand) left (nests.same, nests.same_turns) in
    let put = stop_ends _ config turns old mid nested c.put_entry.new.hand step tt between c.turn-step.ensures.same c.turn-step.ensures.turn.0 begins sames gains
    c.put_entry.ensures.same c.put_entry.ensures.entry (board_shape new.board.now) refl (left_whole g c) in
    let before = g.P.PortMaker.log c.args.at.now.ports.now in
    let after = g.P.PortMaker.log new.ports.now in
    let past = board_of (made_by old) in
    let works = c.end_live-count.ensures.works in
    let fits = subst (λ (k : List BoardEntry). IsFitting config k) (begins_whole config turns old mid step c.turn-step.ensures.same.1 begins) stops.fits in
    record {
      turns_are = refl;
      config_is = refl;
      hand_is = refl;
      ports_are = refl;
      gone_is = refl;
      same = put.same;
      rests = record {
        between = put.between;
        opens = subst (λ (legs : List Holder). LogsHeld config after (leg_pairs legs))
            (sym (ap held (makes_history config turns old c.put_entry.new.hand (stop_entry past) between put.between put.makes) ∙ stop_holds_none config past fits))
            (returns-clause-shut g c);
        empty = works.empty;
      };
      ties = ties_ended config before after (entries old) (place_of step) (front_of step) (stop_made (board_history (made_by nested) (front_of step)) _) tt nested
          c.put_entry.new.hand refl refl c.put_entry.ensures.entry
          (subst (λ (rows : List (table.Entry Made _)). PortsFollowRows config before after rows (entries nested)) c.turn-step.ensures.same.1 (subst (λ hand. PortsFollowRows config before after (entries mid) (entries hand)) left works.ties));
      later = works.stays.later;
    }
