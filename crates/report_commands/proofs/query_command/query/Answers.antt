use Rattle.std.proofs.Common.{sym, subst}
use Rattle.call_board.specs.Boards.{BoardMatches}
use Rattle.board_turns.specs.Acts.{InTurn}
use Rattle.call_board.specs.Views.{call_view, view_of, view_at_moment}
use Rattle.relay_core.specs.Entries.{board_history}
use Rattle.relay_core.specs.Turns.{made_by}
use Rattle.relay_core.proofs.Histories.{good_history}
use Rattle.board_turns.proofs.Staying.{works_none}
use Rattle.board_turns.proofs.FoundCalls.{found_call, called, no_call}
use Rattle.board_turns.proofs.Tellings.{is_short_carries}
use Rattle.report_commands.proofs.Queried.{unknown_carries, told_carries}
use Rattle.report_commands.proofs.query_command.query.Goals as goal

pub returns-in_default-clause-carries : goal.returns-in_default-clause-carries
returns-in_default-clause-carries g c pairs asking =
    let turn = c.requires.begins.in_turn in
    let log = g.P.PortMaker.log c.args.turn.now.ports.now in
    let config = c.args.turn.now.main.config.now in
    let entry_id = c.args.turn.now.main.entry_id in
    let id = c.args.asked.now.input.now.call_id.list in
    let h = board_history (made_by c.args.turn.now.main.hand.now) entry_id.number in
    let none = no_call config h entry_id.moment c.as_slice.result.now id c.find_call.result
    (c.find_call.ensures config (view_at_moment (view_of config h) entry_id.moment) turn.shows) c.as_slice.ensures c.in_default.is in
    unknown_carries config c.args.turn.now.main.turns.now c.args.turn.now.main.hand.now entry_id c.args.asked.now.request.now pairs c.none.result id c.refused.result c.args.turn.now.board.now log turn c.requires.anew asking none
    (c.refused.ensures.tells config)

pub returns-in_default-clause-works : goal.returns-in_default-clause-works
returns-in_default-clause-works g c = works_none g.P.PortMaker.log g.P.PortMaker.faults c.args.turn.now c.requires.begins.in_turn.may c.requires.begins.empty

pub returns-in_default-new-clause-carries : goal.returns-in_default-new-clause-carries
returns-in_default-new-clause-carries g c pairs asking =
    let turn = c.requires.begins.in_turn in
    let log = g.P.PortMaker.log c.args.turn.now.ports.now in
    is_short_carries c.args.turn.now.main.config.now c.args.turn.now.main.turns.now c.args.turn.now.main.hand.now c.args.turn.now.main.entry_id c.args.asked.now.request.now pairs c.short.result c.args.turn.now.board.now log turn c.requires.anew
    c.short.ensures.is_short

pub returns-in_default-new-clause-works : goal.returns-in_default-new-clause-works
returns-in_default-new-clause-works g c = works_none g.P.PortMaker.log g.P.PortMaker.faults c.args.turn.now c.requires.begins.in_turn.may c.requires.begins.empty

pub query_call-requires-clause-live : goal.query_call-requires-clause-live
query_call-requires-clause-live g c =
    let config = c.args.turn.now.main.config.now in
    let entry_id = c.args.turn.now.main.entry_id in
    let turn = c.requires.begins.in_turn in
    let h = board_history (made_by c.args.turn.now.main.hand.now) entry_id.number in
    let found = found_call config h entry_id.moment c.as_slice.result.now c.args.asked.now.input.now.call_id.list c.in-Some.call c.find_call.result
    (c.find_call.ensures config (view_at_moment (view_of config h) entry_id.moment) turn.shows) c.as_slice.ensures c.in-Some.is in
    (found.of, found.alive, found.number_is)

pub report_datagram-reply-requires-clause-shown : goal.report_datagram-reply-requires-clause-shown
report_datagram-reply-requires-clause-shown g c =
    let old = c.args.turn.now in
    let config = old.main.config.now in
    let entry_id = old.main.entry_id in
    let turn = c.requires.begins.in_turn in
    let id = c.args.asked.now.input.now.call_id.list in
    let h = board_history (made_by old.main.hand.now) entry_id.number in
    let v = view_at_moment (view_of config h) entry_id.moment in
    let found = found_call config h entry_id.moment c.as_slice.result.now id c.in-Some.call c.find_call.result (c.find_call.ensures config v turn.shows) c.as_slice.ensures c.in-Some.is in
    let shows = subst (λ board. BoardMatches config board v) (sym c.query_call.ensures.nothing.0) turn.shows in
    (config, v, call_view h found.of, shows, called config h entry_id.moment id c.in-Some.call (good_history config (made_by old.main.hand.now) turn.orderly entry_id.number) found)

pub returns-clause-carries : goal.returns-clause-carries
returns-clause-carries g c pairs asking =
    let old = c.args.turn.now in
    let new = c.query_call.new.turn in
    let config = old.main.config.now in
    let turns = old.main.turns.now in
    let hand = old.main.hand.now in
    let entry_id = old.main.entry_id in
    let log = g.P.PortMaker.log in
    let turn = c.requires.begins.in_turn in
    let id = c.args.asked.now.input.now.call_id.list in
    let h = board_history (made_by hand) entry_id.number in
    let v = view_at_moment (view_of config h) entry_id.moment in
    let found = found_call config h entry_id.moment c.as_slice.result.now id c.in-Some.call c.find_call.result (c.find_call.ensures config v turn.shows) c.as_slice.ensures c.in-Some.is in
    let is_called = called config h entry_id.moment id c.in-Some.call (good_history config (made_by hand) turn.orderly entry_id.number) found in
    let still = subst (λ board. InTurn config turns hand entry_id board (log new.ports.now)) (sym c.query_call.ensures.nothing.0)
    (subst (λ ports. InTurn config turns hand entry_id old.board.now (log ports)) (sym c.query_call.ensures.nothing.1) turn) in
    told_carries config turns hand new.main.hand.now entry_id c.args.asked.now.request.now pairs id found.of c.query_call.new.out c.reported.result new.board.now (log new.ports.now)
    still c.requires.anew asking found.is (c.query_call.ensures.gained found.of found.alive found.number_is)
    (c.reported.ensures.tells _ (c.report_datagram-reply.ensures config v (call_view h found.of) still.shows is_called))
