use Rattle.std.proofs.Common.{◌∙◌, refl, sym, subst, Some}
use Rattle.media_ports.proofs.Asked.{gained_no_opening}
use Rattle.ng_command.specs.Meanings.{strings_in_list}
use Rattle.call_board.specs.Views.{call_view, view_of, view_at_moment}
use Rattle.call_board.proofs.Found.{found_is_live}
use Rattle.relay_core.specs.Entries.{board_history}
use Rattle.relay_core.specs.Turns.{made_by}
use Rattle.relay_core.proofs.Histories.{good_history}
use Rattle.board_turns.proofs.Staying.{works_none}
use Rattle.board_turns.proofs.Tellings.{is_short_carries}
use Rattle.board_turns.proofs.FoundCalls.{found_call, called, no_call}
use Rattle.delete_command.proofs.Missed.{unknown_carries, stranger_carries}
use Rattle.board_turns.specs.declared.board_turn.BoardTurn.{BoardTurn}
use Rattle.board_turns.specs.declared.device_answers.DeviceAnswers.TheVariants.{Nothing}
use Rattle.board_turns.specs.BoardTurns.{Works}
use Rattle.board_turns.specs.Commands.{record_as, ExecutesCommand}
use Rattle.board_turns.proofs.Delayed.{delayed_does, delay_works}
use Rattle.delete_command.proofs.Deleted.{deleting_entry, deleted_carries, ends_at_once, ends_later}
use Rattle.delete_command.proofs.command.delete.Goals as goal
use Rattle.delete_command.proofs.command.delete.Goals.{then-input-eq0, else-input-eq0}

pub returns-in_default-clause-carries : goal.returns-in_default-clause-carries
returns-in_default-clause-carries g c pairs asking =
    let config = c.args.turn.now.main.config.now in
    let entry_id = c.args.turn.now.main.entry_id in
    let input = c.args.asked.now.input.now in
    let h = board_history (made_by c.args.turn.now.main.hand.now) entry_id.number in
    let none = no_call config h entry_id.moment c.as_slice.result.now input.call_id.list c.find_call.result
    (c.find_call.ensures config (view_at_moment (view_of config h) entry_id.moment) c.requires.begins.in_turn.shows) c.as_slice.ensures c.in_default.is in
    unknown_carries config c.args.turn.now.main.turns.now c.args.turn.now.main.hand.now entry_id c.args.asked.now.request.now pairs input.call_id.list (strings_in_list input.from_tag) input.fatal input.delay_s c.missing.result c.args.turn.now.board.now
    (g.P.PortMaker.log c.args.turn.now.ports.now) c.requires.begins.in_turn c.requires.anew asking none (c.missing.ensures.tells config)

pub names_side-requires : goal.names_side-requires
names_side-requires g c =
    let config = c.args.turn.now.main.config.now in
    let entry_id = c.args.turn.now.main.entry_id in
    let input = c.args.asked.now.input.now in
    let h = board_history (made_by c.args.turn.now.main.hand.now) entry_id.number in
    let v = view_at_moment (view_of config h) entry_id.moment in
    let call = c.in-Some.call in
    let found = found_call config h entry_id.moment c.as_slice.result.now input.call_id.list call c.find_call.result
    (c.find_call.ensures config v c.requires.begins.in_turn.shows) c.as_slice.ensures c.in-Some.is in
    found_is_live config c.args.turn.now.board.now v call (call_view h found.of) c.requires.begins.in_turn.shows
    (called config h entry_id.moment input.call_id.list call (good_history config (made_by c.args.turn.now.main.hand.now) c.requires.begins.in_turn.orderly entry_id.number) found)

pub mark_ending-requires : goal.mark_ending-requires
mark_ending-requires g c =
    let config = c.args.turn.now.main.config.now in
    let entry_id = c.args.turn.now.main.entry_id in
    let input = c.args.asked.now.input.now in
    let h = board_history (made_by c.args.turn.now.main.hand.now) entry_id.number in
    let v = view_at_moment (view_of config h) entry_id.moment in
    let call = c.in-Some.call in
    let found = found_call config h entry_id.moment c.as_slice.result.now input.call_id.list call c.find_call.result
    (c.find_call.ensures config v c.requires.begins.in_turn.shows) c.as_slice.ensures c.in-Some.is in
    found_is_live config c.args.turn.now.board.now v call (call_view h found.of) c.requires.begins.in_turn.shows
    (called config h entry_id.moment input.call_id.list call (good_history config (made_by c.args.turn.now.main.hand.now) c.requires.begins.in_turn.orderly entry_id.number) found)

pub returns-then-not-names_side-clause-carries : goal.returns-then-not-names_side-clause-carries
returns-then-not-names_side-clause-carries g c pairs asking =
    let config = c.args.turn.now.main.config.now in
    let entry_id = c.args.turn.now.main.entry_id in
    let input = c.args.asked.now.input.now in
    let h = board_history (made_by c.args.turn.now.main.hand.now) entry_id.number in
    let v = view_at_moment (view_of config h) entry_id.moment in
    let call = c.in-Some.call in
    let found = found_call config h entry_id.moment c.as_slice.result.now input.call_id.list call c.find_call.result
    (c.find_call.ensures config v c.requires.begins.in_turn.shows) c.as_slice.ensures c.in-Some.is in
    let is_called = called config h entry_id.moment input.call_id.list call (good_history config (made_by c.args.turn.now.main.hand.now) c.requires.begins.in_turn.orderly entry_id.number) found in
    let names = c.names_side.ensures config v (call_view h found.of) c.requires.begins.in_turn.shows is_called in
    stranger_carries config c.args.turn.now.main.turns.now c.args.turn.now.main.hand.now entry_id c.args.asked.now.request.now pairs input.call_id.list (strings_in_list input.from_tag) input.fatal input.delay_s found.of
    c.missing-then-not-names_side.result c.args.turn.now.board.now (g.P.PortMaker.log c.args.turn.now.ports.now) c.requires.begins.in_turn c.requires.anew asking found.is
    (sym names ∙ c.if-not-names_side.true) (c.missing-then-not-names_side.ensures.tells config)

pub returns-in_default-done_datagram-clause-carries : goal.returns-in_default-done_datagram-clause-carries
returns-in_default-done_datagram-clause-carries g c pairs asking =
    is_short_carries c.args.turn.now.main.config.now c.args.turn.now.main.turns.now c.args.turn.now.main.hand.now c.args.turn.now.main.entry_id c.args.asked.now.request.now pairs c.short.result c.args.turn.now.board.now
    (g.P.PortMaker.log c.args.turn.now.ports.now) c.requires.begins.in_turn c.requires.anew c.short.ensures.is_short

pub delete_call-requires-clause-live : goal.delete_call-requires-clause-live
delete_call-requires-clause-live g c =
    let config = c.args.turn.now.main.config.now in
    let entry_id = c.args.turn.now.main.entry_id in
    let h = board_history (made_by c.args.turn.now.main.hand.now) entry_id.number in
    let found = found_call config h entry_id.moment c.as_slice.result.now c.args.asked.now.input.now.call_id.list c.in-Some.call c.find_call.result
    (c.find_call.ensures config (view_at_moment (view_of config h) entry_id.moment) c.requires.begins.in_turn.shows) c.as_slice.ensures c.in-Some.is in
    (found.of, found.alive, found.number_is)

pub returns-clause-carries : goal.returns-clause-carries
returns-clause-carries g c pairs asking =
    let config = c.args.turn.now.main.config.now in
    let entry_id = c.args.turn.now.main.entry_id in
    let input = c.args.asked.now.input.now in
    let request = c.args.asked.now.request.now in
    let h = board_history (made_by c.args.turn.now.main.hand.now) entry_id.number in
    let v = view_at_moment (view_of config h) entry_id.moment in
    let call = c.in-Some.call in
    let found = found_call config h entry_id.moment c.as_slice.result.now input.call_id.list call c.find_call.result
    (c.find_call.ensures config v c.requires.begins.in_turn.shows) c.as_slice.ensures c.in-Some.is in
    let is_called = called config h entry_id.moment input.call_id.list call (good_history config (made_by c.args.turn.now.main.hand.now) c.requires.begins.in_turn.orderly entry_id.number) found in
    let names = c.names_side.ensures config v (call_view h found.of) c.requires.begins.in_turn.shows is_called in
    let log = g.P.PortMaker.log in
    let hand = c.args.turn.now.main.hand.now in
    let carries = λ (turn : BoardTurn _ _ _ _). ExecutesCommand config hand turn.main.hand.now entry_id (record_as request pairs c.none.result Nothing) (Some c.in-Ok.reply) turn.board.now (log turn.ports.now) in
    let entry = deleting_entry config entry_id.moment request pairs found.of input.delay_s in
    elim c.if-input-eq0.branch [
      | then-input-eq0 w ↦ subst carries (sym w.turn-is)
          (deleted_carries config hand w.delete_call.new.turn.main.hand.now entry_id request pairs c.none.result input.call_id.list (strings_in_list input.from_tag) input.fatal input.delay_s
          found.of c.in-Ok.reply w.delete_call.new.turn.board.now (log w.delete_call.new.turn.ports.now) c.requires.anew asking found.is (sym names ∙ c.if-not-names_side.false)
          (w.delete_call.ensures.does entry found.of (ends_at_once config entry_id.moment request pairs found.of input.delay_s w.if-input-eq0.true) found.number_is found.alive refl)
          (c.in-Ok.ensures config) c.none.ensures)
      | else-input-eq0 w ↦ subst carries (sym w.turn-is)
          (deleted_carries config hand hand entry_id request pairs c.none.result input.call_id.list (strings_in_list input.from_tag) input.fatal input.delay_s
          found.of c.in-Ok.reply w.mark_ending.new.self (log c.args.turn.now.ports.now) c.requires.anew asking found.is (sym names ∙ c.if-not-names_side.false)
          (delayed_does config c.args.turn.now.main.turns.now hand entry_id c.args.turn.now.board.now w.mark_ending.new.self (log c.args.turn.now.ports.now) entry found.of input.delay_s call
          w.due_after-due.result c.requires.begins.in_turn (ends_later config entry_id.moment request pairs found.of input.delay_s w.if-input-eq0.false) found.number_is refl
          w.due_after-due.ensures w.mark_ending.ensures.shows)
          (c.in-Ok.ensures config) c.none.ensures)
    ]

pub returns-clause-works : goal.returns-clause-works
returns-clause-works g c =
    let log = g.P.PortMaker.log in
    let faults = g.P.PortMaker.faults in
    let old = c.args.turn.now in
    elim c.if-input-eq0.branch [
      | then-input-eq0 w ↦ subst (λ (turn : BoardTurn _ _ _ _). Works log faults old turn) (sym w.turn-is) w.delete_call.ensures.works
      | else-input-eq0 w ↦ subst (λ (turn : BoardTurn _ _ _ _). Works log faults old turn) (sym w.turn-is)
          (delay_works log faults old _ c.requires.begins refl refl refl refl w.mark_ending.ensures.replies w.mark_ending.ensures.shape)
    ]

pub returns-in_default-clause-closes : goal.returns-in_default-clause-closes
returns-in_default-clause-closes g c = gained_no_opening (g.P.PortMaker.log c.args.turn.now.ports.now)

pub returns-then-not-names_side-clause-closes : goal.returns-then-not-names_side-clause-closes
returns-then-not-names_side-clause-closes g c = gained_no_opening (g.P.PortMaker.log c.args.turn.now.ports.now)

pub returns-in_default-done_datagram-clause-closes : goal.returns-in_default-done_datagram-clause-closes
returns-in_default-done_datagram-clause-closes g c = gained_no_opening (g.P.PortMaker.log c.args.turn.now.ports.now)

pub returns-in_default-clause-works : goal.returns-in_default-clause-works
returns-in_default-clause-works g c = works_none g.P.PortMaker.log g.P.PortMaker.faults c.args.turn.now c.requires.begins.in_turn.may c.requires.begins.empty

pub returns-then-not-names_side-clause-works : goal.returns-then-not-names_side-clause-works
returns-then-not-names_side-clause-works g c = works_none g.P.PortMaker.log g.P.PortMaker.faults c.args.turn.now c.requires.begins.in_turn.may c.requires.begins.empty

pub returns-in_default-done_datagram-clause-works : goal.returns-in_default-done_datagram-clause-works
returns-in_default-done_datagram-clause-works g c = works_none g.P.PortMaker.log g.P.PortMaker.faults c.args.turn.now c.requires.begins.in_turn.may c.requires.begins.empty
