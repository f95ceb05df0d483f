use Rattle.std.proofs.Common.{◌≡◌, ◌≤◌, sym, subst, []}
use Rattle.relay_outside.specs.DeviceLogs.{Gained}
use Rattle.turn_table.specs.Hands.{IsSameHand, entries}
use Rattle.media_ports.specs.Openings.{NoneOpened}
use Rattle.media_ports.specs.OpenPorts.{LogsHeld}
use Rattle.relay_core.specs.Turns.{made_by}
use Rattle.board_turns.specs.Between.{IsBetween, MakesTurn, board_of}
use Rattle.board_turns.specs.Ties.{PortsFollowRows}
use Rattle.board_turns.specs.Stops.{stop_entry}
use Rattle.ng_server.proofs.Resting.{rested_between}
use Rattle.ng_server.proofs.server.Server.stop.Goals as goal

pub stop_turn-requires : goal.stop_turn-requires
stop_turn-requires g c = record { rests = record { between = c.requires.between; opens = c.requires.«open»; empty = c.desk.invariant.1 } }

pub returns-clause-same : goal.returns-clause-same
returns-clause-same g c =
    let rests = c.stop_turn.ensures.rests in
    let new = c.stop_turn.new.at in
    let left : new.hand.now ≡ c.hand-1.given.0 = sym (c.hand-1.given.1 (sym rests.hand_is)) in
    let ports : new.ports.now ≡ c.ports-1.given.0 = sym (c.ports-1.given.1 (sym rests.ports_are)) in
    subst (λ hand. IsSameHand c.args.hand.now hand) left rests.same

pub returns-clause-between : goal.returns-clause-between
returns-clause-between g c =
    let rests = c.stop_turn.ensures.rests in
    let new = c.stop_turn.new.at in
    let left : new.hand.now ≡ c.hand-1.given.0 = sym (c.hand-1.given.1 (sym rests.hand_is)) in
    let ports : new.ports.now ≡ c.ports-1.given.0 = sym (c.ports-1.given.1 (sym rests.ports_are)) in
    subst (λ hand. IsBetween c.args.self.now.config c.args.self.now.turns hand) left (rested_between g.P.PortMaker.log g.P.PortMaker.faults _ new rests)

pub returns-clause-closes : goal.returns-clause-closes
returns-clause-closes g c =
    let rests = c.stop_turn.ensures.rests in
    let new = c.stop_turn.new.at in
    let left : new.hand.now ≡ c.hand-1.given.0 = sym (c.hand-1.given.1 (sym rests.hand_is)) in
    let ports : new.ports.now ≡ c.ports-1.given.0 = sym (c.ports-1.given.1 (sym rests.ports_are)) in
    subst (λ p. Gained (g.P.PortMaker.log c.args.ports.now) (g.P.PortMaker.log p) NoneOpened) ports c.stop_turn.ensures.closes

pub returns-clause-ties : goal.returns-clause-ties
returns-clause-ties g c =
    let rests = c.stop_turn.ensures.rests in
    let new = c.stop_turn.new.at in
    let left : new.hand.now ≡ c.hand-1.given.0 = sym (c.hand-1.given.1 (sym rests.hand_is)) in
    let ports : new.ports.now ≡ c.ports-1.given.0 = sym (c.ports-1.given.1 (sym rests.ports_are)) in
    let config = c.args.self.now.config in
    subst (λ hand. PortsFollowRows config (g.P.PortMaker.log c.args.ports.now) (g.P.PortMaker.log c.ports-1.given.0) (entries c.args.hand.now) (entries hand)) left
    (subst (λ p. PortsFollowRows config (g.P.PortMaker.log c.args.ports.now) (g.P.PortMaker.log p) (entries c.args.hand.now) (entries new.hand.now)) ports rests.ties)

pub returns-clause-later : goal.returns-clause-later
returns-clause-later g c =
    let rests = c.stop_turn.ensures.rests in
    let new = c.stop_turn.new.at in
    let left : new.hand.now ≡ c.hand-1.given.0 = sym (c.hand-1.given.1 (sym rests.hand_is)) in
    let ports : new.ports.now ≡ c.ports-1.given.0 = sym (c.ports-1.given.1 (sym rests.ports_are)) in
    subst (λ p. g.P.PortMaker.faults c.args.ports.now ≤ g.P.PortMaker.faults p) ports rests.later

pub returns-clause-makes : goal.returns-clause-makes
returns-clause-makes g c =
    let rests = c.stop_turn.ensures.rests in
    let new = c.stop_turn.new.at in
    let left : new.hand.now ≡ c.hand-1.given.0 = sym (c.hand-1.given.1 (sym rests.hand_is)) in
    let ports : new.ports.now ≡ c.ports-1.given.0 = sym (c.ports-1.given.1 (sym rests.ports_are)) in
    subst (λ hand. MakesTurn c.args.self.now.config c.args.hand.now hand (stop_entry (board_of (made_by c.args.hand.now)))) left c.stop_turn.ensures.makes

pub returns-clause-count : goal.returns-clause-count
returns-clause-count g c = c.stop_turn.ensures.count

pub returns-clause-shut : goal.returns-clause-shut
returns-clause-shut g c =
    let rests = c.stop_turn.ensures.rests in
    let new = c.stop_turn.new.at in
    let left : new.hand.now ≡ c.hand-1.given.0 = sym (c.hand-1.given.1 (sym rests.hand_is)) in
    let ports : new.ports.now ≡ c.ports-1.given.0 = sym (c.ports-1.given.1 (sym rests.ports_are)) in
    subst (λ p. LogsHeld c.args.self.now.config (g.P.PortMaker.log p) []) ports c.stop_turn.ensures.shut
