use Rattle.std.proofs.Common.{◌≡◌, ◌∙◌, refl, sym, subst, ap, length, le_refl}
use Rattle.relay_outside.specs.DeviceLogs.{is_done}
use Rattle.turn_table.specs.Hands.{IsSameHand, entries}
use Rattle.relay_core.specs.Turns.{made_by}
use Rattle.relay_core.specs.Safe.{BoardSafe}
use Rattle.relay_core.proofs.Safety.{board_is_safe}
use Rattle.board_turns.specs.Between.{IsBetween}
use Rattle.board_turns.specs.Ties.{PortsFollowRows}
use Rattle.ng_server.specs.Servers.{OpensJust, history_of}
use Rattle.ng_server.specs.ControlTurns.{Turned}
use Rattle.ng_server.proofs.Resting.{rested_between, rested_opens}
use Rattle.board_turns.proofs.Tying.{ties_none}
use Rattle.ng_server.specs.declared.control_turn.ControlTurn.TheVariants as turn
use Rattle.ng_server.proofs.Taken.{is_request, none_replies, reply_reads, reply_rose, responded, silent, took_none, took_seen}
use Rattle.ng_server.proofs.server.Server.control_turn.Goals as goal

pub take_datagram-requires : goal.take_datagram-requires
take_datagram-requires g c = ap length c.as_mut_slice.ensures.value ∙ c.desk.invariant.0

pub returns-in-Err-clause-same : goal.returns-in-Err-clause-same
returns-in-Err-clause-same g c = (refl, refl, refl, refl)

pub returns-in-Err-clause-between : goal.returns-in-Err-clause-between
returns-in-Err-clause-between g c = c.requires.between

pub returns-in-Err-clause-safe : goal.returns-in-Err-clause-safe
returns-in-Err-clause-safe g c = board_is_safe c.args.self.now.config (made_by c.args.hand.now) c.requires.between.orderly

pub returns-in-Err-clause-open : goal.returns-in-Err-clause-open
returns-in-Err-clause-open g c = c.requires.«open»

pub returns-in-Err-clause-ties : goal.returns-in-Err-clause-ties
returns-in-Err-clause-ties g c = ties_none c.args.self.now.config (g.P.PortMaker.log c.args.ports.now) (entries c.args.hand.now)

pub returns-in-Err-clause-later : goal.returns-in-Err-clause-later
returns-in-Err-clause-later g c = (c.take_datagram.ensures.later, le_refl _, le_refl _)

pub returns-in-Err-clause-turned : goal.returns-in-Err-clause-turned
returns-in-Err-clause-turned g c =
    took_none c.args.self.now.config c.args.hand.now c.args.now c.in-Err.turn (g.P.PortMaker.faults c.args.ports.now) (g.P.PortMaker.faults c.args.ports.now) (g.K.KeySource.faults c.args.keys.now)
    (g.K.KeySource.faults c.args.keys.now) (g.P.PortMaker.log c.args.ports.now) (g.K.KeySource.log c.args.keys.now) (g.N.ControlLink.log c.args.link.now) (g.N.ControlLink.log c.take_datagram.new.link) c.in-Err.ensures.none

pub returns-in-Err-clause-read_fault : goal.returns-in-Err-clause-read_fault
returns-in-Err-clause-read_fault g c = c.in-Err.ensures.read_fault

pub returns-in-Err-clause-reply_fault : goal.returns-in-Err-clause-reply_fault
returns-in-Err-clause-reply_fault g c is = none_replies c.in-Err.ensures.none.gave c.in-Err.turn c.in-Err.ensures.none.ends is

pub returns-in_default-clause-same : goal.returns-in_default-clause-same
returns-in_default-clause-same g c = (refl, refl, refl, refl)

pub returns-in_default-clause-between : goal.returns-in_default-clause-between
returns-in_default-clause-between g c = c.requires.between

pub returns-in_default-clause-safe : goal.returns-in_default-clause-safe
returns-in_default-clause-safe g c = board_is_safe c.args.self.now.config (made_by c.args.hand.now) c.requires.between.orderly

pub returns-in_default-clause-open : goal.returns-in_default-clause-open
returns-in_default-clause-open g c = c.requires.«open»

pub returns-in_default-clause-ties : goal.returns-in_default-clause-ties
returns-in_default-clause-ties g c = ties_none c.args.self.now.config (g.P.PortMaker.log c.args.ports.now) (entries c.args.hand.now)

pub returns-in_default-clause-later : goal.returns-in_default-clause-later
returns-in_default-clause-later g c = (c.take_datagram.ensures.later, le_refl _, le_refl _)

pub returns-in_default-clause-turned : goal.returns-in_default-clause-turned
returns-in_default-clause-turned g c =
    took_seen c.args.self.now.config c.args.hand.now c.args.hand.now c.args.now turn.Silent _ _ _ _ _ _ _ _ _ _ _ c.take_datagram.new.room _ _ _ c.in-Ok.from c.in-Ok.len c.as_slice.ensures.value
    (c.take_datagram.auto.room ∙ ap length c.as_mut_slice.ensures.value ∙ sym c.desk.inside.datagram.ok.0) c.in-Ok.ensures.taken
    (silent c.args.self.now.config c.args.hand.now c.args.now c.in-Ok.from _ _ _ _ _ _ _ (g.N.ControlLink.log c.take_datagram.new.link) c.in_default.ensures.frame)

pub answer_datagram-requires-clause-rests : goal.answer_datagram-requires-clause-rests
answer_datagram-requires-clause-rests g c = record { between = c.requires.between; opens = c.requires.«open»; empty = c.desk.invariant.1 }

pub answer_datagram-requires-clause-request : goal.answer_datagram-requires-clause-request
answer_datagram-requires-clause-request g c = is_request _ _ c.in-Some.ensures.found c.in-Some.ensures.frame refl

pub returns-clause-same : goal.returns-clause-same
returns-clause-same g c =
    let rests = c.answer_datagram.ensures.rests in
    let new = c.answer_datagram.new.at in
    let left : new.hand.now ≡ c.hand-1.given.0 = sym (c.hand-1.given.1 (sym rests.hand_is)) in
    let ports : new.ports.now ≡ c.ports-1.given.0 = sym (c.ports-1.given.1 (sym rests.ports_are)) in
    subst (λ hand. IsSameHand c.args.hand.now hand) left rests.same

pub returns-clause-between : goal.returns-clause-between
returns-clause-between g c =
    let rests = c.answer_datagram.ensures.rests in
    let new = c.answer_datagram.new.at in
    let left : new.hand.now ≡ c.hand-1.given.0 = sym (c.hand-1.given.1 (sym rests.hand_is)) in
    let ports : new.ports.now ≡ c.ports-1.given.0 = sym (c.ports-1.given.1 (sym rests.ports_are)) in
    subst (λ hand. IsBetween c.args.self.now.config c.args.self.now.turns hand) left (rested_between g.P.PortMaker.log g.P.PortMaker.faults _ new rests)

pub returns-clause-safe : goal.returns-clause-safe
returns-clause-safe g c =
    let rests = c.answer_datagram.ensures.rests in
    let new = c.answer_datagram.new.at in
    let left : new.hand.now ≡ c.hand-1.given.0 = sym (c.hand-1.given.1 (sym rests.hand_is)) in
    let ports : new.ports.now ≡ c.ports-1.given.0 = sym (c.ports-1.given.1 (sym rests.ports_are)) in
    subst (λ hand. BoardSafe c.args.self.now.config (made_by hand)) left
    (board_is_safe c.args.self.now.config (made_by new.hand.now) (rested_between g.P.PortMaker.log g.P.PortMaker.faults _ new rests).orderly)

pub returns-clause-open : goal.returns-clause-open
returns-clause-open g c =
    let rests = c.answer_datagram.ensures.rests in
    let new = c.answer_datagram.new.at in
    let left : new.hand.now ≡ c.hand-1.given.0 = sym (c.hand-1.given.1 (sym rests.hand_is)) in
    let ports : new.ports.now ≡ c.ports-1.given.0 = sym (c.ports-1.given.1 (sym rests.ports_are)) in
    let config = c.args.self.now.config in
    subst (λ hand. OpensJust config (history_of hand) (g.P.PortMaker.log c.ports-1.given.0)) left
    (subst (λ p. OpensJust config (history_of new.hand.now) (g.P.PortMaker.log p)) ports (rested_opens g.P.PortMaker.log g.P.PortMaker.faults _ new rests))

pub returns-clause-ties : goal.returns-clause-ties
returns-clause-ties g c =
    let rests = c.answer_datagram.ensures.rests in
    let new = c.answer_datagram.new.at in
    let left : new.hand.now ≡ c.hand-1.given.0 = sym (c.hand-1.given.1 (sym rests.hand_is)) in
    let ports : new.ports.now ≡ c.ports-1.given.0 = sym (c.ports-1.given.1 (sym rests.ports_are)) in
    let config = c.args.self.now.config in
    subst (λ hand. PortsFollowRows config (g.P.PortMaker.log c.args.ports.now) (g.P.PortMaker.log c.ports-1.given.0) (entries c.args.hand.now) (entries hand)) left
    (subst (λ p. PortsFollowRows config (g.P.PortMaker.log c.args.ports.now) (g.P.PortMaker.log p) (entries c.args.hand.now) (entries new.hand.now)) ports rests.ties)

pub returns-clause-turned : goal.returns-clause-turned
returns-clause-turned g c =
    let rests = c.answer_datagram.ensures.rests in
    let new = c.answer_datagram.new.at in
    let left : new.hand.now ≡ c.hand-1.given.0 = sym (c.hand-1.given.1 (sym rests.hand_is)) in
    let ports : new.ports.now ≡ c.ports-1.given.0 = sym (c.ports-1.given.1 (sym rests.ports_are)) in
    let turned =
    took_seen c.args.self.now.config c.args.hand.now new.hand.now c.args.now c.turn_after.result _ _ _ _ _ _ _ _ _ _ _ c.take_datagram.new.room _ _ _ c.in-Ok.from c.in-Ok.len c.as_slice.ensures.value
    (c.take_datagram.auto.room ∙ ap length c.as_mut_slice.ensures.value ∙ sym c.desk.inside.datagram.ok.0) c.in-Ok.ensures.taken
    (responded c.args.self.now.config c.args.hand.now new.hand.now c.args.now c.in-Ok.from _ _ c.turn_after.result c.answer_datagram.result _ _ _ _ _ _ _ _
    (g.N.ControlLink.log c.take_datagram.new.link) (g.N.ControlLink.log c.answer_datagram.new.link) c.in-Some.ensures.frame refl refl c.turn_after.ensures c.answer_datagram.ensures.answers) in
    subst (λ hand. Turned c.args.self.now.config c.args.hand.now hand c.args.now c.turn_after.result (g.P.PortMaker.faults c.args.ports.now) (g.P.PortMaker.faults c.ports-1.given.0)
    (g.K.KeySource.faults c.args.keys.now) (g.K.KeySource.faults c.answer_datagram.new.keys) (g.P.PortMaker.log c.args.ports.now) (g.P.PortMaker.log c.ports-1.given.0)
    (g.K.KeySource.log c.args.keys.now) (g.K.KeySource.log c.answer_datagram.new.keys) (g.N.ControlLink.log c.args.link.now) (g.N.ControlLink.log c.answer_datagram.new.link)) left
    (subst (λ p. Turned c.args.self.now.config c.args.hand.now new.hand.now c.args.now c.turn_after.result (g.P.PortMaker.faults c.args.ports.now) (g.P.PortMaker.faults p)
    (g.K.KeySource.faults c.args.keys.now) (g.K.KeySource.faults c.answer_datagram.new.keys) (g.P.PortMaker.log c.args.ports.now) (g.P.PortMaker.log p)
    (g.K.KeySource.log c.args.keys.now) (g.K.KeySource.log c.answer_datagram.new.keys) (g.N.ControlLink.log c.args.link.now) (g.N.ControlLink.log c.answer_datagram.new.link)) ports turned)

pub returns-clause-read_fault : goal.returns-clause-read_fault
returns-clause-read_fault g c is = reply_reads (is_done c.answer_datagram.result) c.turn_after.result c.turn_after.ensures is

pub returns-clause-reply_fault : goal.returns-clause-reply_fault
returns-clause-reply_fault g c =
    reply_rose (g.N.ControlLink.faults c.args.link.now) (g.N.ControlLink.faults c.take_datagram.new.link) (g.N.ControlLink.faults c.answer_datagram.new.link) c.answer_datagram.result c.turn_after.result
    c.take_datagram.ensures.later c.answer_datagram.ensures.cause c.turn_after.ensures
