use Rattle.std.proofs.Common.{◌≡◌, ◌∙◌, refl, sym, ap, subst, arith, ℕ, List, [], Option, length}
use Rattle.relay_outside.specs.declared.ports.PortCall.{PortCall}
use Rattle.std.specs.Prelude.{option_map}
use Rattle.media_ports.proofs.Asked.{gained_no_opening}
use Rattle.port_pool.specs.declared.signal.SectionSignal.{SectionSignal}
use Rattle.call_cell.specs.Commits.{inbound_keys}
use Rattle.offer_answer.specs.declared.plan.Plan.{Plan}
use Rattle.call_board.specs.declared.board.Board.{Board}
use Rattle.call_board.specs.Acts.{Call}
use Rattle.call_board.specs.Requests.{sdp_error}
use Rattle.call_board.specs.Calls.{find_call}
use Rattle.call_board.specs.Replies.{Described, reply_datagram}
use Rattle.call_board.specs.Views.{view_of, view_at_moment, call_of_id, call_view}
use Rattle.call_board.proofs.Found.{found_by_id}
use Rattle.call_board.specs.Shapes.{board_shape}
use Rattle.relay_core.specs.Entries.{board_history}
use Rattle.relay_core.specs.KeptAfter.{IsWholeWith}
use Rattle.relay_core.specs.Turns.{made_by}
use Rattle.board_turns.specs.declared.board_turn.BoardTurn.{BoardTurn}
use Rattle.board_turns.specs.BoardTurns.{CanNest, Works}
use Rattle.board_turns.specs.Acts.{InTurn}
use Rattle.board_turns.proofs.Staying.{works_none, works_both}
use Rattle.control_messages.specs.Bodies.{IsErrorOf}
use Rattle.board_turns.specs.declared.device_answers.DeviceAnswers.TheVariants.{Nothing}
use Rattle.board_turns.specs.Controls.{entry_with}
use Rattle.board_turns.specs.Commands.{record_as}
use Rattle.board_turns.proofs.Tellings.{is_short_carries}
use Rattle.answer_command.specs.Commands.{IsPlanned, ask_of_answer}
use Rattle.answer_command.proofs.Asked.{asks_for, lines_read, heard_by}
use Rattle.answer_command.proofs.Carried.{answered_carries, due_of, is_due, misdescribed_carries, planned_answer, refuses_carries}
use Rattle.answer_command.proofs.command.answer.Goals as goal

-- the board alone was borrowed, and is the same
still : {P I O : Type 0} {g : _} (log : P → Option (List PortCall)) (faults : P → ℕ) (old new : BoardTurn P I O g) → new.board.now ≡ old.board.now → CanNest old.main → old.gone.now ≡ []
    → new.board.ghost_name ≡ old.board.ghost_name → new.main ≡ old.main → new.ports ≡ old.ports → new.gone ≡ old.gone → Works log faults old new
still log faults old new same may empty named main_is ports_are gone_is =
    let works = works_none log faults old may empty in
    subst (λ main. Works log faults old (record { main = main; board = new.board; ports = new.ports; gone = new.gone })) (sym main_is)
    (subst (λ ports. Works log faults old (record { main = old.main; board = new.board; ports = ports; gone = new.gone })) (sym ports_are)
    (subst (λ gone. Works log faults old (record { main = old.main; board = new.board; ports = old.ports; gone = gone })) (sym gone_is)
    (record {
      stays = record {
        nests = works.stays.nests;
        devices = record { board_is = named; ports_are = refl; gone_is = refl };
        replies = ap (λ (b : Board). b.replies) same;
        later = works.stays.later;
      };
      ties = works.ties;
      empty = works.empty;
      whole = λ w. subst (λ (b : Board). IsWholeWith old.main.config.now old.main.hand.now (board_shape b)) (sym same) w;
    })))

pub returns-in-Err-clause-carries : goal.returns-in-Err-clause-carries
returns-in-Err-clause-carries g c pairs asking =
    let config = c.args.turn.now.main.config.now in
    misdescribed_carries config c.args.turn.now.main.turns.now c.args.turn.now.main.hand.now c.args.turn.now.main.entry_id c.args.asked.now.request.now pairs c.args.asked.now.input.now c.in-Err.fault c.misdescribed.result c.args.turn.now.board.now
    (g.P.PortMaker.log c.args.turn.now.ports.now) c.requires.begins.in_turn c.requires.anew asking
    (subst (λ (text : List ℕ). IsErrorOf (sdp_error config text) c.in-Err.fault) c.as_slice.ensures c.in-Err.ensures.error) c.misdescribed.ensures.refuses

pub returns-in-Err-clause-closes : goal.returns-in-Err-clause-closes
returns-in-Err-clause-closes g c = gained_no_opening (g.P.PortMaker.log c.args.turn.now.ports.now)

pub returns-in-Err-plan_answer-clause-carries : goal.returns-in-Err-plan_answer-clause-carries
returns-in-Err-plan_answer-clause-carries g c pairs asking =
    let config = c.args.turn.now.main.config.now in
    let h = board_history (made_by c.args.turn.now.main.hand.now) c.args.turn.now.main.entry_id.number in
    let v = view_at_moment (view_of config h) c.args.turn.now.main.entry_id.moment in
    let input = c.args.asked.now.input.now in
    let id = input.call_id.list in
    let ask = ask_of_answer input c.hear_answer-chosen_lines.result in
    let log = g.P.PortMaker.log c.args.turn.now.ports.now in
    let lines = lines_read input c.as_slice.result.now c.in-Ok.sdp c.in-Ok.ensures.lines c.as_slice.ensures in
    let asks = asks_for config h c.args.turn.now.main.entry_id.moment c.args.asked.now.request.now pairs input c.as_slice.result.now c.requires.anew asking c.as_slice.ensures c.in-Ok.ensures.sound in
    refuses_carries config c.args.turn.now.main.turns.now c.args.turn.now.main.hand.now c.args.turn.now.main.entry_id c.args.asked.now.request.now pairs input c.in-Ok.sdp c.hear_answer-chosen_lines.result c.in-Err-plan_answer.fault c.unplanned.result
    c.plan_answer.new.self log
    (subst (λ (b : Board). InTurn config c.args.turn.now.main.turns.now c.args.turn.now.main.hand.now c.args.turn.now.main.entry_id b log) (sym c.in-Err-plan_answer.ensures.same) c.requires.begins.in_turn) asks lines
    (heard_by h ask (find_call h id)
    (λ of is. c.hear_answer-chosen_lines.ensures.heard config v (call_view h of) ask c.requires.begins.in_turn.shows
    (ap (λ (i : List ℕ). call_of_id v i) c.as_slice-2.ensures ∙ found_by_id config h id ∙ ap (λ (o : Option Call). option_map (call_view h) o) is) lines refl))
    (c.in-Err-plan_answer.ensures.plans config v c.requires.begins.in_turn.shows) c.unplanned.ensures.refuses

pub returns-in_default-clause-carries : goal.returns-in_default-clause-carries
returns-in_default-clause-carries g c pairs asking =
    is_short_carries c.args.turn.now.main.config.now c.args.turn.now.main.turns.now c.args.turn.now.main.hand.now c.args.turn.now.main.entry_id c.args.asked.now.request.now pairs c.short.result c.plan_answer.new.self (g.P.PortMaker.log c.args.turn.now.ports.now)
    (subst (λ (b : Board). InTurn c.args.turn.now.main.config.now c.args.turn.now.main.turns.now c.args.turn.now.main.hand.now c.args.turn.now.main.entry_id b (g.P.PortMaker.log c.args.turn.now.ports.now)) (sym c.in-Ok-plan_answer.ensures.same) c.requires.begins.in_turn)
    c.requires.anew c.short.ensures.is_short

pub returns-in_default-clause-closes : goal.returns-in_default-clause-closes
returns-in_default-clause-closes g c = gained_no_opening (g.P.PortMaker.log c.args.turn.now.ports.now)

pub write_described-requires-clause-small : goal.write_described-requires-clause-small
write_described-requires-clause-small g c =
    let is = ap (λ (bytes : List ℕ). length bytes) c.as_slice-3.ensures in
    let within = c.answer_act.ensures.within in
    let count = c.reply_len.ensures in
    let same = ap (λ (p : Plan). p.reply_len) c.planned-planned.ensures in
    let small = c.in-Ok-answer_room.ensures.small in
    omega (arith, is, within, count, same, small)

pub answer_act-requires-clause-contexts : goal.answer_act-requires-clause-contexts
answer_act-requires-clause-contexts g c =
    let said : c.signal.result.now ≡ c.in-Ok-plan_answer.plan.plan.signal = c.signal.ensures ∙ ap (λ (p : Plan). p.signal) c.planned-planned.ensures in
    let same = ap (λ (s : List SectionSignal). inbound_keys s) said in
    let room = c.in-Ok-answer_room.ensures.contexts in
    omega (arith, room, same)

pub answer_act-requires-clause-due : goal.answer_act-requires-clause-due
answer_act-requires-clause-due g c =
    let config = c.args.turn.now.main.config.now in
    let h = board_history (made_by c.args.turn.now.main.hand.now) c.args.turn.now.main.entry_id.number in
    let v = view_at_moment (view_of config h) c.args.turn.now.main.entry_id.moment in
    let request = c.args.asked.now.request.now in
    let input = c.args.asked.now.input.now in
    let id = input.call_id.list in
    let heard = c.hear_answer-chosen_lines.result in
    let ask = ask_of_answer input heard in
    let pairs = c.requires.asked.0 in
    let lines = lines_read input c.as_slice.result.now c.in-Ok.sdp c.in-Ok.ensures.lines c.as_slice.ensures in
    let asks = asks_for config h c.args.turn.now.main.entry_id.moment request pairs input c.as_slice.result.now c.requires.anew c.requires.asked.1 c.as_slice.ensures c.in-Ok.ensures.sound in
    let planned : IsPlanned config h input c.in-Ok.sdp heard c.in-Ok-plan_answer.plan = record {
      lines_are = lines;
      heard = heard_by h ask (find_call h id)
          (λ of is. c.hear_answer-chosen_lines.ensures.heard config v (call_view h of) ask c.requires.begins.in_turn.shows
          (ap (λ (i : List ℕ). call_of_id v i) c.as_slice-2.ensures ∙ found_by_id config h id ∙ ap (λ (o : Option Call). option_map (call_view h) o) is) lines refl);
      plans = c.in-Ok-plan_answer.ensures.plans config v c.requires.begins.in_turn.shows;
      writes = c.in-Ok-plan_answer.ensures.writes;
    } in
    let d = is_due config h input c.in-Ok.sdp heard c.in-Ok-plan_answer.plan planned in (
      entry_with c.args.turn.now.main.entry_id.moment (record_as request pairs heard Nothing) (due_of config h request pairs input c.in-Ok.sdp heard c.in-Ok-plan_answer.plan d),
      d.of,
      ask,
      planned_answer config h c.args.turn.now.main.entry_id.moment request pairs input c.in-Ok.sdp heard c.in-Ok-plan_answer.plan asks planned,
    )

pub returns-clause-carries : goal.returns-clause-carries
returns-clause-carries g c pairs asking =
    let config = c.args.turn.now.main.config.now in
    let h = board_history (made_by c.args.turn.now.main.hand.now) c.args.turn.now.main.entry_id.number in
    let v = view_at_moment (view_of config h) c.args.turn.now.main.entry_id.moment in
    let request = c.args.asked.now.request.now in
    let input = c.args.asked.now.input.now in
    let id = input.call_id.list in
    let heard = c.hear_answer-chosen_lines.result in
    let ask = ask_of_answer input heard in
    let lines = lines_read input c.as_slice.result.now c.in-Ok.sdp c.in-Ok.ensures.lines c.as_slice.ensures in
    let asks = asks_for config h c.args.turn.now.main.entry_id.moment request pairs input c.as_slice.result.now c.requires.anew asking c.as_slice.ensures c.in-Ok.ensures.sound in
    let planned : IsPlanned config h input c.in-Ok.sdp heard c.in-Ok-plan_answer.plan = record {
      lines_are = lines;
      heard = heard_by h ask (find_call h id)
          (λ of is. c.hear_answer-chosen_lines.ensures.heard config v (call_view h of) ask c.requires.begins.in_turn.shows
          (ap (λ (i : List ℕ). call_of_id v i) c.as_slice-2.ensures ∙ found_by_id config h id ∙ ap (λ (o : Option Call). option_map (call_view h) o) is) lines refl);
      plans = c.in-Ok-plan_answer.ensures.plans config v c.requires.begins.in_turn.shows;
      writes = c.in-Ok-plan_answer.ensures.writes;
    } in
    let d = is_due config h input c.in-Ok.sdp heard c.in-Ok-plan_answer.plan planned in
    let e = entry_with c.args.turn.now.main.entry_id.moment (record_as request pairs heard Nothing) (due_of config h request pairs input c.in-Ok.sdp heard c.in-Ok-plan_answer.plan d) in
    let is = planned_answer config h c.args.turn.now.main.entry_id.moment request pairs input c.in-Ok.sdp heard c.in-Ok-plan_answer.plan asks planned in
    answered_carries config c.args.turn.now.main.hand.now c.answer_act.new.turn.main.hand.now c.args.turn.now.main.entry_id request pairs input c.in-Ok.sdp heard c.in-Ok-plan_answer.plan c.write_described.new.out c.answer_act.new.turn.board.now
    (g.P.PortMaker.log c.answer_act.new.turn.ports.now) asks planned (c.answer_act.ensures.does e d.of ask is)
    (c.write_described.ensures config
    ∙ ap (λ (bytes : List ℕ). reply_datagram config request.cookie.now request.body.now (Described bytes)) (c.as_slice-3.ensures ∙ c.answer_act.ensures.text e d.of ask is))

pub returns-in-Err-clause-works : goal.returns-in-Err-clause-works
returns-in-Err-clause-works g c = works_none g.P.PortMaker.log g.P.PortMaker.faults c.args.turn.now c.requires.begins.in_turn.may c.requires.begins.empty

pub returns-in-Err-plan_answer-clause-works : goal.returns-in-Err-plan_answer-clause-works
returns-in-Err-plan_answer-clause-works g c = still g.P.PortMaker.log g.P.PortMaker.faults c.args.turn.now _ c.in-Err-plan_answer.ensures.same c.requires.begins.in_turn.may c.requires.begins.empty refl refl refl refl

pub returns-in_default-clause-works : goal.returns-in_default-clause-works
returns-in_default-clause-works g c = still g.P.PortMaker.log g.P.PortMaker.faults c.args.turn.now _ c.in-Ok-plan_answer.ensures.same c.requires.begins.in_turn.may c.requires.begins.empty refl refl refl refl

pub returns-clause-works : goal.returns-clause-works
returns-clause-works g c =
    works_both g.P.PortMaker.log g.P.PortMaker.faults c.args.turn.now _ c.answer_act.new.turn
    (still g.P.PortMaker.log g.P.PortMaker.faults c.args.turn.now _ c.in-Ok-plan_answer.ensures.same c.requires.begins.in_turn.may c.requires.begins.empty refl refl refl refl)
    c.answer_act.ensures.works
