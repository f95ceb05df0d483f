use Rattle.std.proofs.Common.{◌∷◌, ◌≡◌, ◌∙◌, refl, ap, sym, subst, ℕ, inr, List, [], filter, arith}
use Rattle.relay_outside.specs.declared.settings.Config.{Config}
use Rattle.relay_outside.specs.DeviceLogs.{Gained}
use Rattle.turn_table.specs.Hands.{entries}
use Rattle.port_pool.specs.declared.signal.SectionSignal.{SectionSignal}
use Rattle.port_pool.specs.Signals.{is_rejected}
use Rattle.call_cell.specs.Cells.{Commit, since_end}
use Rattle.call_cell.specs.Commits.{NamesKeys, inbound_keys}
use Rattle.offer_answer.specs.Rounds.{AnswerAsk}
use Rattle.offer_answer.specs.Rounds as round
use Rattle.call_board.specs.Boards.{BoardMatches, pairs_in}
use Rattle.call_board.specs.Pairs.{held}
use Rattle.call_board.specs.Views.{View, view_of, view_at_moment}
use Rattle.call_board.specs.Whole.{with_more}
use Rattle.call_board.specs.Shapes.{board_shape}
use Rattle.call_board.specs.declared.board_plan.BoardPlan.{BoardPlan}
use Rattle.call_board.proofs.Cells.{live_cell}
use Rattle.relay_core.specs.Entries.{Cell, board_history, cell_history}
use Rattle.relay_core.specs.KeptAfter.{IsWholeWith}
use Rattle.relay_core.specs.Turns.{IsAbove, GainsNested, made_by}
use Rattle.media_ports.specs.OpenPorts.{LogsHeld}
use Rattle.relay_core.proofs.Coming.{answer_names}
use Rattle.relay_core.proofs.Histories.{good_history}
use Rattle.relay_core.proofs.KeysOnce.{keys_once}
use Rattle.board_turns.specs.declared.board_turn.BoardEntryId.{BoardEntryId}
use Rattle.board_turns.specs.Closings.{CanClose, ClosesLegs, closings_of, leases_of_legs, pairs_left}
use Rattle.board_turns.specs.InCells.{in_cell_of}
use Rattle.board_turns.specs.Ties.{TiesTakes}
use Rattle.board_turns.proofs.Staying.{same_config, stays_both}
use Rattle.board_turns.specs.Departures.{legs_in}
use Rattle.board_turns.proofs.Nesting.{above_rows, gains_more}
use Rattle.board_turns.specs.CallEnds.{leg_pairs}
use Rattle.board_turns.proofs.CloseAfter.{can_close_after}
use Rattle.board_turns.proofs.Tying.{legs_leave, ties_gone}
use Rattle.board_turns.proofs.Unopened.{gone_open_none}
use Rattle.answer_command.specs.Due.{due_answer}
use Rattle.answer_command.proofs.Taken.{no_pairs, no_keys, may_apply, takes_in, taken_with}
use Rattle.answer_command.proofs.Done.{went_closed, closed_leased, does_answer}
use Rattle.answer_command.proofs.Wholeness.{takes_answer, answer_keeps_whole}
use Rattle.answer_command.proofs.act.answer_act.Goals as goal

pub write_answer-requires-clause-pairs : goal.write_answer-requires-clause-pairs
write_answer-requires-clause-pairs g c =
    let h = board_history (made_by c.args.turn.now.main.hand.now) c.args.turn.now.main.entry_id.number in
    no_pairs c.args.turn.now.main.config.now h c.requires.due.1 c.requires.due.2 c.args.answer.sdp.now c.args.answer.plan c.requires.due.3.plan_for

pub write_answer-requires-clause-keys : goal.write_answer-requires-clause-keys
write_answer-requires-clause-keys g c =
    let h = board_history (made_by c.args.turn.now.main.hand.now) c.args.turn.now.main.entry_id.number in
    no_keys c.args.turn.now.main.config.now h c.requires.due.1 c.requires.due.2 c.args.answer.sdp.now c.args.answer.plan c.requires.due.3.plan_for

pub commit_cell-requires-clause-cell : goal.commit_cell-requires-clause-cell
commit_cell-requires-clause-cell g c =
    let config = c.args.turn.now.main.config.now in
    let l = made_by c.args.turn.now.main.hand.now in
    let h = board_history l c.args.turn.now.main.entry_id.number in
    let of = c.requires.due.1 in
    let d = c.requires.due.3 in
    let at : c.cell-cell.result ≡ of.cell = c.cell-cell.ensures ∙ ap (λ (p : BoardPlan). p.cell) c.write_answer.ensures.rest ∙ d.plan_for.cell_is in
    let within = live_cell config h of (good_history config l c.requires.begins.in_turn.orderly c.args.turn.now.main.entry_id.number) d.alive in
    (omega (arith, at, within.0), omega (arith, at, within.1))

pub commit_cell-requires-clause-keys : goal.commit_cell-requires-clause-keys
commit_cell-requires-clause-keys g c n above =
    keys_once c.args.turn.now.main.config.now (made_by c.args.turn.now.main.hand.now) c.requires.begins.in_turn.orderly c.cell-cell.result n

pub commit_cell-requires-clause-names : goal.commit_cell-requires-clause-names
commit_cell-requires-clause-names g c n above =
    let config = c.args.turn.now.main.config.now in
    let l = made_by c.args.turn.now.main.hand.now in
    let h = board_history l c.args.turn.now.main.entry_id.number in
    let e = c.requires.due.0 in
    let of = c.requires.due.1 in
    let ask = c.requires.due.2 in
    let d = c.requires.due.3 in
    let a = due_answer h of ask in
    let at : c.cell-cell.result ≡ of.cell = c.cell-cell.ensures ∙ ap (λ (p : BoardPlan). p.cell) c.write_answer.ensures.rest ∙ d.plan_for.cell_is in
    let said : c.signal.result.now ≡ a.signal = c.signal.ensures ∙ ap (λ p. p.signal) c.planned.ensures ∙ c.write_answer.ensures.signal ∙ d.plan_for.plan_for.signal_is in
    let names = answer_names config l c.requires.begins.in_turn.orderly c.args.turn.now.main.entry_id.number n e a c.requires.begins.in_turn.above d.fits d.acts (subst (λ (k : ℕ). IsAbove l k n) at above) in
    subst (λ (k : ℕ). NamesKeys (since_end (cell_history l k n)) c.signal.result.now) (sym at)
    (subst (λ (s : List SectionSignal). NamesKeys (since_end (cell_history l of.cell n)) s) (sym said) names)

pub commit_cell-requires-clause-room : goal.commit_cell-requires-clause-room
commit_cell-requires-clause-room g c =
    let said : c.signal.result.now ≡ c.args.answer.plan.plan.signal = c.signal.ensures ∙ ap (λ p. p.signal) c.planned.ensures ∙ c.write_answer.ensures.signal in
    let same = ap (λ (s : List SectionSignal). inbound_keys s) said in
    let room = c.requires.contexts in
    inr (omega (arith, same, room))

pub apply-requires : goal.apply-requires
apply-requires g c =
    let config = c.args.turn.now.main.config.now in
    let l = made_by c.args.turn.now.main.hand.now in
    let d = c.requires.due.3 in
    may_apply config (board_history l c.args.turn.now.main.entry_id.number) c.args.turn.now.main.entry_id.moment c.requires.due.1 c.requires.due.2 c.args.answer.sdp.now c.args.answer.plan c.write_answer.new.plan
    (good_history config l c.requires.begins.in_turn.orderly c.args.turn.now.main.entry_id.number) d.alive d.plan_for c.write_answer.ensures.rest c.args.turn.now.board.now c.requires.begins.in_turn.shows

pub close_legs-requires-clause-can : goal.close_legs-requires-clause-can
close_legs-requires-clause-can g c =
    let main = c.args.turn.now.main in
    let mid = c.commit_cell.new.main in
    let nests = c.commit_cell.ensures.nests in
    let config = main.config.now in
    let n = main.entry_id.number in
    let moment = main.entry_id.moment in
    let l = made_by main.hand.now in
    let h = board_history l n in
    let v = view_at_moment (view_of config h) moment in
    let e = c.requires.due.0 in
    let of = c.requires.due.1 in
    let ask = c.requires.due.2 in
    let d = c.requires.due.3 in
    let turn = c.requires.begins.in_turn in
    let fits = good_history config l turn.orderly n in
    let rest = c.write_answer.ensures.rest in
    let q = c.write_answer.new.plan in
    let gone = c.commit_cell.new.gone in
    let cell = c.cell-cell.result in
    let signal = c.signal.result.now in
    let at : cell ≡ of.cell = c.cell-cell.ensures ∙ ap (λ (p : BoardPlan). p.cell) rest ∙ d.plan_for.cell_is in
    let said : signal ≡ (due_answer h of ask).signal = c.signal.ensures ∙ ap (λ p. p.signal) c.planned.ensures ∙ c.write_answer.ensures.signal ∙ d.plan_for.plan_for.signal_is in
    let was = c.commit_cell.ensures.committed.was in
    let are = went_closed config l n moment e of ask c.args.answer.sdp.now c.args.answer.plan cell was.number signal gone turn.orderly turn.above d at said c.commit_cell.ensures.went
    (above_rows (entries main.hand.now) cell was.number was.given.above) in
    let next = c.write_answer.ensures.next config _ ask d.plan_for.plan_for in
    let taken = subst (λ (w : View). BoardMatches config c.apply.new.self w)
    (taken_with config h moment of ask c.args.answer.sdp.now c.args.answer.plan q fits d.alive d.plan_for rest mid.entry_id.moment)
    (c.apply.ensures.taken config v of (round.Answered ask) turn.shows (takes_in config h moment of ask c.args.answer.sdp.now c.args.answer.plan q fits d.alive d.plan_for rest next)) in
    subst (λ (x : Config). CanClose x mid.hand.now c.apply.new.self (g.P.PortMaker.log c.args.turn.now.ports.now) gone) (sym (same_config main mid nests))
    (can_close_after config n moment main.hand.now mid.hand.now e of (in_cell_of cell (Commit signal)) c.args.turn.now.board.now c.apply.new.self (g.P.PortMaker.log c.args.turn.now.ports.now) v
    (with_more of (round.Answered ask) mid.entry_id.moment v) gone turn.orderly turn.whole turn.shows refl nests.same.1 c.commit_cell.ensures.gained at (live_cell config h of fits d.alive).1 are taken refl refl turn.opens)

pub returns-clause-does : goal.returns-clause-does
returns-clause-does g c e of ask d =
    let main = c.args.turn.now.main in
    let mid = c.commit_cell.new.main in
    let new = c.close_legs.new.turn in
    let nests = c.commit_cell.ensures.nests in
    let same = same_config main mid nests in
    let log = g.P.PortMaker.log new.ports.now in
    let config = main.config.now in
    let n = main.entry_id.number in
    let moment = main.entry_id.moment in
    let l = made_by main.hand.now in
    let h = board_history l n in
    let v = view_at_moment (view_of config h) moment in
    let turn = c.requires.begins.in_turn in
    let fits = good_history config l turn.orderly n in
    let rest = c.write_answer.ensures.rest in
    let q = c.write_answer.new.plan in
    let gone = c.commit_cell.new.gone in
    let cell = c.cell-cell.result in
    let signal = c.signal.result.now in
    let at : cell ≡ of.cell = c.cell-cell.ensures ∙ ap (λ (p : BoardPlan). p.cell) rest ∙ d.plan_for.cell_is in
    let said : signal ≡ (due_answer h of ask).signal = c.signal.ensures ∙ ap (λ p. p.signal) c.planned.ensures ∙ c.write_answer.ensures.signal ∙ d.plan_for.plan_for.signal_is in
    let was = c.commit_cell.ensures.committed.was in
    let are = went_closed config l n moment e of ask c.args.answer.sdp.now c.args.answer.plan cell was.number signal gone turn.orderly turn.above d at said c.commit_cell.ensures.went
    (above_rows (entries main.hand.now) cell was.number was.given.above) in
    let next = c.write_answer.ensures.next config _ ask d.plan_for.plan_for in
    let taken = subst (λ (w : View). BoardMatches config c.apply.new.self w)
    (taken_with config h moment of ask c.args.answer.sdp.now c.args.answer.plan q fits d.alive d.plan_for rest mid.entry_id.moment)
    (c.apply.ensures.taken config v of (round.Answered ask) turn.shows (takes_in config h moment of ask c.args.answer.sdp.now c.args.answer.plan q fits d.alive d.plan_for rest next)) in
    let shows = subst (λ (id : BoardEntryId). BoardMatches config c.apply.new.self (with_more of (round.Answered ask) id.moment v)) nests.entry_is taken in
    let closes = subst (λ (id : BoardEntryId). GainsNested id.number id.moment (closings_of config gone) mid.hand.now new.main.hand.now) nests.entry_is
    (subst (λ (x : Config). GainsNested mid.entry_id.number mid.entry_id.moment (closings_of x gone) mid.hand.now new.main.hand.now) same c.close_legs.ensures.gained) in
    let opens = subst (λ (x : Config). LogsHeld x log (pairs_left (pairs_in (leases_of_legs gone)) (leg_pairs (held h)))) same
    (c.close_legs.ensures.«open» (leg_pairs (held h))
    (subst (λ (x : Config). LogsHeld x (g.P.PortMaker.log c.args.turn.now.ports.now) (leg_pairs (held h))) (sym same) turn.opens)) in
    does_answer config main.hand.now mid.hand.now new.main.hand.now main.entry_id new.board.now log e of ask c.args.answer.sdp.now c.args.answer.plan cell signal gone turn.orderly d at said are
    c.commit_cell.ensures.gained closes (c.close_legs.ensures.returned config (with_more of (round.Answered ask) moment v) shows) opens

pub returns-clause-closes : goal.returns-clause-closes
returns-clause-closes g c =
    gone_open_none g.P.Out.OutEnd.log c.commit_cell.new.main.config.now c.commit_cell.new.gone (g.P.PortMaker.log c.args.turn.now.ports.now)
    (g.P.PortMaker.log c.close_legs.new.turn.ports.now) c.close_legs.ensures.closes

pub returns-clause-works : goal.returns-clause-works
returns-clause-works g c =
    let old = c.args.turn.now in
    let mid = c.commit_cell.new.main in
    let new = c.close_legs.new.turn in
    let config = old.main.config.now in
    let sent = g.P.Out.OutEnd.log in
    let before = g.P.PortMaker.log old.ports.now in
    let after = g.P.PortMaker.log new.ports.now in
    let same = same_config old.main mid c.commit_cell.ensures.nests in
    let gone = c.commit_cell.new.gone in
    let cell = c.cell-cell.result in
    let signal = c.signal.result.now in
    let rows = entries old.main.hand.now in
    let n = old.main.entry_id.number in
    let l = made_by old.main.hand.now in
    let e = c.requires.due.0 in
    let of = c.requires.due.1 in
    let ask = c.requires.due.2 in
    let d = c.requires.due.3 in
    let turn = c.requires.begins.in_turn in
    let at : cell ≡ of.cell = c.cell-cell.ensures ∙ ap (λ (p : BoardPlan). p.cell) c.write_answer.ensures.rest ∙ d.plan_for.cell_is in
    let said : signal ≡ (due_answer (board_history l n) of ask).signal = c.signal.ensures ∙ ap (λ p. p.signal) c.planned.ensures ∙ c.write_answer.ensures.signal ∙ d.plan_for.plan_for.signal_is in
    let was = c.commit_cell.ensures.committed.was in
    let are = went_closed config l n old.main.entry_id.moment e of ask c.args.answer.sdp.now c.args.answer.plan cell was.number signal gone turn.orderly turn.above d at said c.commit_cell.ensures.went
    (above_rows rows cell was.number was.given.above) in
    let takes = subst (λ (x : Config). TiesTakes x before after (entries mid.hand.now) (entries new.main.hand.now)) same c.close_legs.ensures.takes in
    let closes = subst (λ (x : Config). Gained before after (ClosesLegs sent x gone)) same c.close_legs.ensures.closes in
    let stays = stays_both g.P.PortMaker.log g.P.PortMaker.faults old _ new
    (record {
      nests = c.commit_cell.ensures.nests;
      devices = record { board_is = refl; ports_are = refl; gone_is = refl };
      replies = c.apply.ensures.replies;
      later = omega arith;
    })
    c.close_legs.ensures.stays in
    let p = c.args.answer.plan in
    let plan = c.write_answer.new.plan in
    let names : cell ≡ p.cell = c.cell-cell.ensures ∙ ap (λ (x : BoardPlan). x.cell) c.write_answer.ensures.rest in
    let says : signal ≡ p.plan.signal = c.signal.ensures ∙ ap (λ x. x.signal) c.planned.ensures ∙ c.write_answer.ensures.signal in
    let taken = takes_answer p plan old.board.now c.apply.new.self c.requires.plans c.write_answer.ensures.rest c.write_answer.ensures.signal
    c.write_answer.ensures.shapes c.write_answer.ensures.counts c.apply.ensures.shape in
    let moment = old.main.entry_id.moment in
    let closed = subst (λ (id : BoardEntryId). GainsNested id.number id.moment (closings_of config gone) mid.hand.now new.main.hand.now) c.commit_cell.ensures.nests.entry_is
    (subst (λ (x : Config). GainsNested mid.entry_id.number mid.entry_id.moment (closings_of x gone) mid.hand.now new.main.hand.now) same c.close_legs.ensures.gained) in
    let gained = gains_more n moment (in_cell_of cell (Commit signal) ∷ []) (closings_of config gone) old.main.hand.now mid.hand.now new.main.hand.now c.commit_cell.ensures.gained closed in
    record {
      stays = stays;
      ties = ties_gone sent config before after rows (entries mid.hand.now) (entries new.main.hand.now) gone
          turn.may.parts.families (closed_leased config (board_history l n) e of gone (good_history config l turn.orderly n) are)
          (legs_leave sent gone cell (Cell (Commit signal)) old.main.hand.now mid.hand.now refl c.commit_cell.ensures.row) takes closes;
      empty = c.close_legs.ensures.empty;
      whole = λ whole. subst (λ (x : Config). IsWholeWith x new.main.hand.now (board_shape new.board.now)) (sym (same_config old.main new.main stays.nests))
          (answer_keeps_whole config n moment old.main.hand.now new.main.hand.now stays.nests.same.1 p old.board.now c.apply.new.self (board_shape new.board.now) cell signal gone
          names says taken gained c.commit_cell.ensures.left c.close_legs.ensures.pool whole);
    }
