use Rattle.std.proofs.Common.{◌≡◌, refl, sym, ap, subst, ◌∙◌, List, ◌∷◌}
use Rattle.relay_outside.specs.declared.settings.Config.{Config}
use Rattle.turn_table.specs.declared.machine.Entry as table
use Rattle.turn_table.specs.Hands.{IsSameHand, SameTurns, entries, front_of, place_of, state_of, taken_of}
use Rattle.call_board.specs.Acts.{BoardEntry}
use Rattle.call_board.specs.Pairs.{held}
use Rattle.call_board.specs.Shapes.{board_shape}
use Rattle.media_ports.specs.OpenPorts.{LogsHeld}
use Rattle.relay_core.specs.declared.part.Part.TheVariants as part
use Rattle.relay_core.specs.Entries.{board_history}
use Rattle.relay_core.specs.KeptAfter.{IsWholeWith}
use Rattle.relay_core.specs.Records.{Made}
use Rattle.relay_core.specs.Turns.{made_by}
use Rattle.board_turns.specs.Between.{board_of}
use Rattle.board_turns.specs.CallEnds.{leg_pairs}
use Rattle.board_turns.specs.Ties.{PortsFollowRows}
use Rattle.board_turns.proofs.Betweens.{between_may, turn_begins, begins_whole, still_has}
use Rattle.board_turns.proofs.Grown.{makes_history}
use Rattle.board_turns.proofs.StopTurns.{moved}
use Rattle.board_turns.proofs.Tying.{ties_ended}
use Rattle.board_turns.proofs.Wholeness.{same_shape}
use Rattle.board_turns.specs.Controls.{control_made, control_of, entry_at, entry_pairs, moment_at}
use Rattle.board_turns.specs.DeviceAnswers.{IsGivenBy}
use Rattle.ng_server.specs.Requests.{record_of, AnswersRequest}
use Rattle.ng_server.specs.SentReplies.{SendsOnce}
use Rattle.ng_server.proofs.Turns.{control_relates, taken, dealt, at_whole, control_history, control_ends}
use Rattle.ng_server.proofs.datagram.answer_datagram.Goals as goal

pub turn-step-requires-clause-table : goal.turn-step-requires-clause-table
turn-step-requires-clause-table g c = c.requires.rests.between.of_table

pub turn-step-requires-clause-place : goal.turn-step-requires-clause-place
turn-step-requires-clause-place g c = between_may c.args.at.now.config.now c.args.at.now.turns.now c.args.at.now.hand.now c.requires.rests.between

pub unreachable-requires : goal.unreachable-requires
unreachable-requires g c =
    let config = c.args.at.now.config.now in
    let turns = c.args.at.now.turns.now in
    let old = c.args.at.now.hand.now in
    let mid = c.turn-step.new.hand in
    let step = c.turn-step.result in
    let between = c.requires.rests.between in
    let begins = turn_begins g.P.In.InEnd.log g.P.In.InEnd.faults g.P.Out.OutEnd.log g.P.Out.OutEnd.faults config turns old mid step between c.turn-step.ensures.same c.turn-step.ensures.turn in
    moved config (board_history (made_by mid) (front_of step)) (state_of step) _ (sym c.in-Cell.is ∙ c.state.ensures.value) begins.board

pub unreachable-requires-in-Pair : goal.unreachable-requires-in-Pair
unreachable-requires-in-Pair g c =
    let config = c.args.at.now.config.now in
    let turns = c.args.at.now.turns.now in
    let old = c.args.at.now.hand.now in
    let mid = c.turn-step.new.hand in
    let step = c.turn-step.result in
    let between = c.requires.rests.between in
    let begins = turn_begins g.P.In.InEnd.log g.P.In.InEnd.faults g.P.Out.OutEnd.log g.P.Out.OutEnd.faults config turns old mid step between c.turn-step.ensures.same c.turn-step.ensures.turn in
    moved config (board_history (made_by mid) (front_of step)) (state_of step) _ (sym c.in-Pair.is ∙ c.state.ensures.value) begins.board

pub deal-answered-requires-clause-begins : goal.deal-answered-requires-clause-begins
deal-answered-requires-clause-begins g c =
    let config = c.args.at.now.config.now in
    let turns = c.args.at.now.turns.now in
    let old = c.args.at.now.hand.now in
    let mid = c.turn-step.new.hand in
    let step = c.turn-step.result in
    let between = c.requires.rests.between in
    let begins = turn_begins g.P.In.InEnd.log g.P.In.InEnd.faults g.P.Out.OutEnd.log g.P.Out.OutEnd.faults config turns old mid step between c.turn-step.ensures.same c.turn-step.ensures.turn in
    let now = c.args.arrived.now.moment in
    let before = g.P.PortMaker.log c.args.at.now.ports.now in
    let taken_is = taken config turns old mid step c.front-number.result c.advance-moment.result now c.state.result.now c.in-Board.board c.advance-moment.new.self before c.turn-step.ensures.same.1
    begins c.front-number.ensures c.state.ensures.value c.in-Board.is c.advance-moment.ensures.moment c.advance-moment.ensures.shape c.requires.rests.opens in
    record { in_turn = taken_is.in_turn; empty = c.requires.rests.empty }

pub deal-answered-requires-clause-request : goal.deal-answered-requires-clause-request
deal-answered-requires-clause-request g c = c.requires.request

pub put_control-requires-clause-table : goal.put_control-requires-clause-table
put_control-requires-clause-table g c =
    let new = c.deal-answered.new.turn in
    let nested = c.at-1.given.0 in
    let nests = c.deal-answered.ensures.nests in
    let left : new.main.hand.now ≡ nested = sym (c.at-1.given.1 (sym nests.hand_is)) in
    let first = c.turn-step.ensures.same.0 in
    let second = subst (λ hand. IsSameHand c.turn-step.new.hand hand) left nests.same in
    (second.0 ∙ first.0 ∙ c.requires.rests.between.of_table, second.3 ∙ first.3 ∙ c.requires.rests.between.main)

pub put_control-requires-clause-turn : goal.put_control-requires-clause-turn
put_control-requires-clause-turn g c =
    let new = c.deal-answered.new.turn in
    let nested = c.at-1.given.0 in
    let nests = c.deal-answered.ensures.nests in
    let left : new.main.hand.now ≡ nested = sym (c.at-1.given.1 (sym nests.hand_is)) in
    still_has c.turn-step.new.hand nested c.turn-step.result (subst (λ hand. IsSameHand c.turn-step.new.hand hand × SameTurns c.turn-step.new.hand hand) left (nests.same, nests.same_turns))
    c.turn-step.ensures.turn.0.4

pub put_control-requires-clause-step : goal.put_control-requires-clause-step
put_control-requires-clause-step g c =
    let config = c.args.at.now.config.now in
    let turns = c.args.at.now.turns.now in
    let old = c.args.at.now.hand.now in
    let mid = c.turn-step.new.hand in
    let step = c.turn-step.result in
    let between = c.requires.rests.between in
    let begins = turn_begins g.P.In.InEnd.log g.P.In.InEnd.faults g.P.Out.OutEnd.log g.P.Out.OutEnd.faults config turns old mid step between c.turn-step.ensures.same c.turn-step.ensures.turn in
    let now = c.args.arrived.now.moment in
    let before = g.P.PortMaker.log c.args.at.now.ports.now in
    let taken_is = taken config turns old mid step c.front-number.result c.advance-moment.result now c.state.result.now c.in-Board.board c.advance-moment.new.self before c.turn-step.ensures.same.1
    begins c.front-number.ensures c.state.ensures.value c.in-Board.is c.advance-moment.ensures.moment c.advance-moment.ensures.shape c.requires.rests.opens in
    let new = c.deal-answered.new.turn in
    let nested = c.at-1.given.0 in
    let nests = c.deal-answered.ensures.nests in
    let left : new.main.hand.now ≡ nested = sym (c.at-1.given.1 (sym nests.hand_is)) in
    let n = front_of step in
    let x = record_of c.args.arrived.now.request c.deal-answered.result.turn_record in
    let log = g.P.PortMaker.log new.ports.now in
    let deals = dealt config turns mid nested step c.front-number.result c.advance-moment.result now x c.advance-moment.new.self new.board.now before log taken_is
    (subst (λ hand. AnswersRequest config mid hand (record { number = c.front-number.result; moment = c.advance-moment.result }) x new.board.now log) left c.deal-answered.ensures.deals) in
    let h = board_history (made_by mid) n in
    control_relates g.P.In.InEnd.log g.P.In.InEnd.faults g.P.Out.OutEnd.log g.P.Out.OutEnd.faults config h (board_history (made_by nested) n) (taken_of step) (part.Board new.board.now) now x
    (control_history config turns mid nested step now x (part.Board new.board.now) log begins deals)
    (moved config h (state_of step) (taken_of step) begins.untouched begins.board) deals.fits deals.stands

pub returns-clause-answers : goal.returns-clause-answers
returns-clause-answers g c =
    let config = c.args.at.now.config.now in
    let turns = c.args.at.now.turns.now in
    let old = c.args.at.now.hand.now in
    let mid = c.turn-step.new.hand in
    let step = c.turn-step.result in
    let between = c.requires.rests.between in
    let begins = turn_begins g.P.In.InEnd.log g.P.In.InEnd.faults g.P.Out.OutEnd.log g.P.Out.OutEnd.faults config turns old mid step between c.turn-step.ensures.same c.turn-step.ensures.turn in
    let now = c.args.arrived.now.moment in
    let before = g.P.PortMaker.log c.args.at.now.ports.now in
    let taken_is = taken config turns old mid step c.front-number.result c.advance-moment.result now c.state.result.now c.in-Board.board c.advance-moment.new.self before c.turn-step.ensures.same.1
    begins c.front-number.ensures c.state.ensures.value c.in-Board.is c.advance-moment.ensures.moment c.advance-moment.ensures.shape c.requires.rests.opens in
    let new = c.deal-answered.new.turn in
    let nested = c.at-1.given.0 in
    let nests = c.deal-answered.ensures.nests in
    let left : new.main.hand.now ≡ nested = sym (c.at-1.given.1 (sym nests.hand_is)) in
    let n = front_of step in
    let x = record_of c.args.arrived.now.request c.deal-answered.result.turn_record in
    let log = g.P.PortMaker.log new.ports.now in
    let deals = dealt config turns mid nested step c.front-number.result c.advance-moment.result now x c.advance-moment.new.self new.board.now before log taken_is
    (subst (λ hand. AnswersRequest config mid hand (record { number = c.front-number.result; moment = c.advance-moment.result }) x new.board.now log) left c.deal-answered.ensures.deals) in
    let sames = subst (λ hand. IsSameHand mid hand × SameTurns mid hand) left (nests.same, nests.same_turns) in
    let shape = board_shape new.board.now in
    let whole = subst (λ (k : Config). IsWholeWith k nested shape) (ap (λ at. at.now) nests.config_is)
    (subst (λ hand. IsWholeWith new.main.config.now hand shape) left
    (c.deal-answered.ensures.whole
    (same_shape config mid c.in-Board.board c.advance-moment.new.self c.advance-moment.ensures.shape (begins.whole c.in-Board.board (sym c.state.ensures.value ∙ c.in-Board.is))))) in
    let ended = control_ends (board_shape new.board.now) config turns old mid nested c.put_control.new.hand step tt now x (part.Board new.board.now) log between
    c.turn-step.ensures.same c.turn-step.ensures.turn.0 begins sames deals c.put_control.ensures.same c.put_control.ensures.entry whole in
    let past = board_of (made_by old) in
    record {
      hearing = x;
      is_heard = record { source_is = refl; cookie_is = refl; body_is = refl; length_is = refl };
      makes = ended.makes;
      given = at_whole config turns old mid step c.front-number.result c.advance-moment.result now c.advance-moment.new.self before
          (λ h m. IsGivenBy config (entry_pairs config h m x) x.given (g.P.PortMaker.faults c.args.at.now.ports.now) (g.P.PortMaker.faults new.ports.now)
          (g.K.KeySource.faults c.args.keys.now) (g.K.KeySource.faults c.deal-answered.new.keys) before log (g.K.KeySource.log c.args.keys.now) (g.K.KeySource.log c.deal-answered.new.keys))
          c.turn-step.ensures.same.1 begins taken_is c.deal-answered.ensures.given;
      sends = at_whole config turns old mid step c.front-number.result c.advance-moment.result now c.advance-moment.new.self before
          (λ h m. SendsOnce c.args.arrived.now.request.source (control_of config h m x).reply c.deal-answered.result.sent
          (g.N.ControlLink.log c.args.link.now) (g.N.ControlLink.log c.deal-answered.new.link))
          c.turn-step.ensures.same.1 begins taken_is c.deal-answered.ensures.sent;
    }

pub returns-clause-cause : goal.returns-clause-cause
returns-clause-cause g c = c.deal-answered.ensures.cause

pub returns-clause-later : goal.returns-clause-later
returns-clause-later g c = c.deal-answered.ensures.later.1

pub returns-clause-rests : goal.returns-clause-rests
returns-clause-rests g c =
    let config = c.args.at.now.config.now in
    let turns = c.args.at.now.turns.now in
    let old = c.args.at.now.hand.now in
    let mid = c.turn-step.new.hand in
    let step = c.turn-step.result in
    let between = c.requires.rests.between in
    let begins = turn_begins g.P.In.InEnd.log g.P.In.InEnd.faults g.P.Out.OutEnd.log g.P.Out.OutEnd.faults config turns old mid step between c.turn-step.ensures.same c.turn-step.ensures.turn in
    let now = c.args.arrived.now.moment in
    let before = g.P.PortMaker.log c.args.at.now.ports.now in
    let taken_is = taken config turns old mid step c.front-number.result c.advance-moment.result now c.state.result.now c.in-Board.board c.advance-moment.new.self before c.turn-step.ensures.same.1
    begins c.front-number.ensures c.state.ensures.value c.in-Board.is c.advance-moment.ensures.moment c.advance-moment.ensures.shape c.requires.rests.opens in
    let new = c.deal-answered.new.turn in
    let nested = c.at-1.given.0 in
    let nests = c.deal-answered.ensures.nests in
    let left : new.main.hand.now ≡ nested = sym (c.at-1.given.1 (sym nests.hand_is)) in
    let n = front_of step in
    let x = record_of c.args.arrived.now.request c.deal-answered.result.turn_record in
    let log = g.P.PortMaker.log new.ports.now in
    let deals = dealt config turns mid nested step c.front-number.result c.advance-moment.result now x c.advance-moment.new.self new.board.now before log taken_is
    (subst (λ hand. AnswersRequest config mid hand (record { number = c.front-number.result; moment = c.advance-moment.result }) x new.board.now log) left c.deal-answered.ensures.deals) in
    let sames = subst (λ hand. IsSameHand mid hand × SameTurns mid hand) left (nests.same, nests.same_turns) in
    let shape = board_shape new.board.now in
    let whole = subst (λ (k : Config). IsWholeWith k nested shape) (ap (λ at. at.now) nests.config_is)
    (subst (λ hand. IsWholeWith new.main.config.now hand shape) left
    (c.deal-answered.ensures.whole
    (same_shape config mid c.in-Board.board c.advance-moment.new.self c.advance-moment.ensures.shape (begins.whole c.in-Board.board (sym c.state.ensures.value ∙ c.in-Board.is))))) in
    let ended = control_ends (board_shape new.board.now) config turns old mid nested c.put_control.new.hand step tt now x (part.Board new.board.now) log between
    c.turn-step.ensures.same c.turn-step.ensures.turn.0 begins sames deals c.put_control.ensures.same c.put_control.ensures.entry whole in
    let past = board_of (made_by old) in
    record {
      turns_are = refl;
      config_is = refl;
      hand_is = refl;
      ports_are = refl;
      gone_is = refl;
      same = ended.same;
      rests = record {
        between = ended.between;
        opens = subst (λ (h : List BoardEntry). LogsHeld config log (leg_pairs (held h)))
            (sym (makes_history config turns old c.put_control.new.hand (entry_at config past (moment_at past now) x) between ended.between ended.makes))
            (subst (λ (h : List BoardEntry). LogsHeld config log (leg_pairs (held (entry_at config h (moment_at h now) x ∷ h))))
            (begins_whole config turns old mid step c.turn-step.ensures.same.1 begins) deals.opens);
        empty = c.deal-answered.ensures.empty;
      };
      ties = ties_ended config before log (entries old) (place_of step) n (control_made config (board_history (made_by nested) n) now x _) tt nested c.put_control.new.hand refl refl
          c.put_control.ensures.entry
          (subst (λ (rows : List (table.Entry Made (Unit {0}))). PortsFollowRows config before log rows (entries nested)) c.turn-step.ensures.same.1
          (subst (λ hand. PortsFollowRows config before log (entries mid) (entries hand)) left c.deal-answered.ensures.ties));
      later = c.deal-answered.ensures.later.0;
    }
