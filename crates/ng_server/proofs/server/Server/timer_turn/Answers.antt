use Rattle.std.proofs.Common.{◌≡◌, ◌≤◌, sym, subst}
use Rattle.relay_outside.specs.DeviceLogs.{Gained}
use Rattle.turn_table.specs.Hands.{IsSameHand, entries}
use Rattle.media_ports.specs.Openings.{NoneOpened}
use Rattle.relay_core.specs.Turns.{made_by}
use Rattle.board_turns.specs.Between.{IsBetween}
use Rattle.board_turns.specs.Ties.{PortsFollowRows}
use Rattle.board_turns.specs.Ticks.{Ticks}
use Rattle.relay_core.specs.Safe.{BoardSafe}
use Rattle.relay_core.proofs.Safety.{board_is_safe}
use Rattle.ng_server.specs.Servers.{OpensJust, history_of}
use Rattle.ng_server.proofs.Resting.{rested_between, rested_opens}
use Rattle.ng_server.proofs.server.Server.timer_turn.Goals as goal

pub tick_turn-requires : goal.tick_turn-requires
tick_turn-requires g c = record { rests = record { between = c.requires.between; opens = c.requires.«open»; empty = c.desk.invariant.1 } }

pub returns-clause-same : goal.returns-clause-same
returns-clause-same g c =
    let rests = c.tick_turn.ensures.rests in
    let new = c.tick_turn.new.at in
    let left : new.hand.now ≡ c.hand-1.given.0 = sym (c.hand-1.given.1 (sym rests.hand_is)) in
    let ports : new.ports.now ≡ c.ports-1.given.0 = sym (c.ports-1.given.1 (sym rests.ports_are)) in
    subst (λ hand. IsSameHand c.args.hand.now hand) left rests.same

pub returns-clause-between : goal.returns-clause-between
returns-clause-between g c =
    let rests = c.tick_turn.ensures.rests in
    let new = c.tick_turn.new.at in
    let left : new.hand.now ≡ c.hand-1.given.0 = sym (c.hand-1.given.1 (sym rests.hand_is)) in
    let ports : new.ports.now ≡ c.ports-1.given.0 = sym (c.ports-1.given.1 (sym rests.ports_are)) in
    subst (λ hand. IsBetween c.args.self.now.config c.args.self.now.turns hand) left (rested_between g.P.PortMaker.log g.P.PortMaker.faults _ new rests)

pub returns-clause-closes : goal.returns-clause-closes
returns-clause-closes g c =
    let rests = c.tick_turn.ensures.rests in
    let new = c.tick_turn.new.at in
    let left : new.hand.now ≡ c.hand-1.given.0 = sym (c.hand-1.given.1 (sym rests.hand_is)) in
    let ports : new.ports.now ≡ c.ports-1.given.0 = sym (c.ports-1.given.1 (sym rests.ports_are)) in
    subst (λ p. Gained (g.P.PortMaker.log c.args.ports.now) (g.P.PortMaker.log p) NoneOpened) ports c.tick_turn.ensures.closes

pub returns-clause-ties : goal.returns-clause-ties
returns-clause-ties g c =
    let rests = c.tick_turn.ensures.rests in
    let new = c.tick_turn.new.at in
    let left : new.hand.now ≡ c.hand-1.given.0 = sym (c.hand-1.given.1 (sym rests.hand_is)) in
    let ports : new.ports.now ≡ c.ports-1.given.0 = sym (c.ports-1.given.1 (sym rests.ports_are)) in
    let config = c.args.self.now.config in
    subst (λ hand. PortsFollowRows config (g.P.PortMaker.log c.args.ports.now) (g.P.PortMaker.log c.ports-1.given.0) (entries c.args.hand.now) (entries hand)) left
    (subst (λ p. PortsFollowRows config (g.P.PortMaker.log c.args.ports.now) (g.P.PortMaker.log p) (entries c.args.hand.now) (entries new.hand.now)) ports rests.ties)

pub returns-clause-later : goal.returns-clause-later
returns-clause-later g c =
    let rests = c.tick_turn.ensures.rests in
    let new = c.tick_turn.new.at in
    let left : new.hand.now ≡ c.hand-1.given.0 = sym (c.hand-1.given.1 (sym rests.hand_is)) in
    let ports : new.ports.now ≡ c.ports-1.given.0 = sym (c.ports-1.given.1 (sym rests.ports_are)) in
    subst (λ p. g.P.PortMaker.faults c.args.ports.now ≤ g.P.PortMaker.faults p) ports rests.later

pub returns-clause-safe : goal.returns-clause-safe
returns-clause-safe g c =
    let rests = c.tick_turn.ensures.rests in
    let new = c.tick_turn.new.at in
    let left : new.hand.now ≡ c.hand-1.given.0 = sym (c.hand-1.given.1 (sym rests.hand_is)) in
    let ports : new.ports.now ≡ c.ports-1.given.0 = sym (c.ports-1.given.1 (sym rests.ports_are)) in
    subst (λ hand. BoardSafe c.args.self.now.config (made_by hand)) left
    (board_is_safe c.args.self.now.config (made_by new.hand.now) (rested_between g.P.PortMaker.log g.P.PortMaker.faults _ new rests).orderly)

pub returns-clause-open : goal.returns-clause-open
returns-clause-open g c =
    let rests = c.tick_turn.ensures.rests in
    let new = c.tick_turn.new.at in
    let left : new.hand.now ≡ c.hand-1.given.0 = sym (c.hand-1.given.1 (sym rests.hand_is)) in
    let ports : new.ports.now ≡ c.ports-1.given.0 = sym (c.ports-1.given.1 (sym rests.ports_are)) in
    let config = c.args.self.now.config in
    subst (λ hand. OpensJust config (history_of hand) (g.P.PortMaker.log c.ports-1.given.0)) left
    (subst (λ p. OpensJust config (history_of new.hand.now) (g.P.PortMaker.log p)) ports (rested_opens g.P.PortMaker.log g.P.PortMaker.faults _ new rests))

pub returns-clause-ticks : goal.returns-clause-ticks
returns-clause-ticks g c =
    let rests = c.tick_turn.ensures.rests in
    let new = c.tick_turn.new.at in
    let left : new.hand.now ≡ c.hand-1.given.0 = sym (c.hand-1.given.1 (sym rests.hand_is)) in
    let ports : new.ports.now ≡ c.ports-1.given.0 = sym (c.ports-1.given.1 (sym rests.ports_are)) in
    subst (λ hand. Ticks c.args.self.now.config c.args.hand.now hand c.args.now c.tick_turn.result) left c.tick_turn.ensures.ticks
