use Rattle.std.proofs.Common.{◌≡◌, ◌∙◌, ◌++◌, refl, sym, ap, subst, ℕ, List, [], ◌∷◌, append_assoc, append-nil}
use Rattle.relay_outside.specs.declared.ports.PortCall.{PortCall}
use Rattle.relay_outside.specs.DeviceLogs.{WhereLogged, Gained}
use Rattle.relay_outside.proofs.Telling.{gained_none, gained_both}
use Rattle.histories.specs.Words.{has, there}
use Rattle.histories.proofs.Lists.{in_left}
use Rattle.relay_core.specs.PlaceHistories.{GoneHome}
use Rattle.turn_table.specs.Hands.{entries}
use Rattle.port_pool.specs.declared.pairs.Lease.{Lease}
use Rattle.call_board.specs.Views.{with_returned}
use Rattle.call_board.specs.Shapes.{board_shape, shape_returns}
use Rattle.call_board.specs.Boards.{BoardMatches, pairs_in}
use Rattle.call_board.proofs.Entries.{returned_more, returned_none}
use Rattle.relay_core.specs.Scripts.{Owed}
use Rattle.relay_core.specs.Turns.{GainsNested}
use Rattle.relay_outside.specs.declared.settings.Config.{Config}
use Rattle.board_turns.specs.BoardTurns.{MakesNested}
use Rattle.board_turns.specs.Ties.{TiesTakes}
use Rattle.media_ports.specs.OpenPorts.{OpensHeld}
use Rattle.board_turns.proofs.Staying.{may_again, same_config, stays_none, stays_both, makes_both}
use Rattle.board_turns.specs.Closings.{CanClose, ClosesLegs, leases_of_legs, closings_of, pairs_left}
use Rattle.board_turns.proofs.KeptPools.{none_returned, more_returned}
use Rattle.board_turns.proofs.Lefts.{left_none, left_twice, told_alike}
use Rattle.board_turns.proofs.Closed.{gains_nothing, first_can, rest_can, closings_more, pairs_more, closes_more}
use Rattle.board_turns.proofs.Tying.{ties_takes_none, ties_takes_both}
use Rattle.board_turns.proofs.gone_legs.close_legs.Goals as goal

pub loop-leg-init : goal.loop-leg-init
loop-leg-init g c =
    let turn = c.args.turn.now in
    let config = turn.main.config.now in
    let log = g.P.PortMaker.log turn.ports.now in
    record {
      closed = [];
      split = refl;
      stays = stays_none g.P.PortMaker.log g.P.PortMaker.faults turn c.requires.may;
      can = c.requires.can;
      home = c.requires.home;
      gained = gains_nothing turn.main.entry_id.number turn.main.entry_id.moment turn.main.hand.now;
      returned = λ config v shows. subst (λ w. BoardMatches config turn.board.now w) (sym (returned_none v)) shows;
      calls = record { calls_are = refl; begun_is = refl };
      pool = none_returned (board_shape turn.board.now);
      closes = gained_none log (ClosesLegs g.P.Out.OutEnd.log config []) refl;
      opens = λ held opens. told_alike config log held (pairs_left [] held) (left_none held) opens;
      takes = ties_takes_none config log (entries turn.main.hand.now);
    }

pub close_leg-requires-clause-may : goal.close_leg-requires-clause-may
close_leg-requires-clause-may g c =
    let was = c.loop-leg.invariant in
    may_again c.args.turn.now.main c.loop-leg.turn.main was.stays.nests

pub close_leg-requires-clause-can : goal.close_leg-requires-clause-can
close_leg-requires-clause-can g c =
    let was = c.loop-leg.invariant in
    let turn = c.loop-leg.turn in
    let config = c.args.turn.now.main.config.now in
    let log = g.P.PortMaker.log turn.ports.now in
    let hand = turn.main.hand.now in
    subst (λ (k : Config). CanClose k hand turn.board.now log (c.in-Some.leg ∷ [])) (sym (same_config c.args.turn.now.main turn.main was.stays.nests))
    (first_can config hand turn.board.now log c.in-Some.leg c.pop.new.self
    (subst (λ gone. CanClose config hand turn.board.now log gone) c.in-Some.ensures.takes was.can))

pub close_leg-requires-clause-home : goal.close_leg-requires-clause-home
close_leg-requires-clause-home g c =
    let was = c.loop-leg.invariant in
    let config = c.args.turn.now.main.config.now in
    let all = subst (λ gone. GoneHome g.P.Out.OutEnd.log config gone) c.in-Some.ensures.takes was.home in
    subst (λ (k : Config). GoneHome g.P.Out.OutEnd.log k (c.in-Some.leg ∷ [])) (sym (same_config c.args.turn.now.main c.loop-leg.turn.main was.stays.nests))
    (λ leg i. all leg (in_left (c.in-Some.leg ∷ []) c.pop.new.self i))

pub loop-leg-preserved : goal.loop-leg-preserved
loop-leg-preserved g c =
    let old = c.args.turn.now in
    let turn = c.loop-leg.turn in
    let new = c.close_leg.new.turn in
    let config = old.main.config.now in
    let number = old.main.entry_id.number in
    let moment = old.main.entry_id.moment in
    let before = g.P.PortMaker.log old.ports.now in
    let log = g.P.PortMaker.log turn.ports.now in
    let after = g.P.PortMaker.log new.ports.now in
    let sent = g.P.Out.OutEnd.log in
    let was = c.loop-leg.invariant in
    let now = c.close_leg.ensures in
    let leg = c.in-Some.leg in
    let some = was.closed in
    let one : List (Lease × g.row.P-Out.Denot × g.row.P-Out.Denot) = leg ∷ [] in
    let pairs = pairs_in (leases_of_legs some) in
    let rest = now.rest in
    let same = same_config old.main turn.main was.stays.nests in
    let gained = subst (λ (k : Config). MakesNested (closings_of k one) turn.main new.main) same now.gained in
    let closes = subst (λ (k : Config). Gained log after (ClosesLegs sent k one)) same now.closes in
    let opens = subst (λ (k : Config). (held : List ℕ) → WhereLogged log (λ calls. OpensHeld k calls held) → WhereLogged after (λ calls. OpensHeld k calls (pairs_left (leg.0.pair ∷ []) held))) same now.«open» in
    let takes = subst (λ (k : Config). TiesTakes k log after (entries turn.main.hand.now) (entries new.main.hand.now)) same now.takes in
    let all_gained = makes_both (closings_of config some) (closings_of config one) old.main turn.main new.main was.stays.nests was.gained gained in
    record {
      closed = some ++ one;
      split = was.split ∙ ap (λ legs. some ++ legs) c.in-Some.ensures.takes ∙ sym (append_assoc some one c.pop.new.self) ∙ ap (λ legs. (some ++ one) ++ legs) (sym rest);
      stays = stays_both g.P.PortMaker.log g.P.PortMaker.faults old turn new was.stays (record {
        nests = now.stays.nests;
        devices = record { board_is = now.stays.devices.board_is; ports_are = now.stays.devices.ports_are; gone_is = now.stays.devices.gone_is };
        replies = now.stays.replies;
        later = now.stays.later;
      });
      can = subst (λ gone. CanClose config new.main.hand.now new.board.now after gone) (sym rest)
          (rest_can config turn.main.entry_id.number turn.main.entry_id.moment turn.main.hand.now new.main.hand.now turn.board.now new.board.now log after leg c.pop.new.self
          (subst (λ gone. CanClose config turn.main.hand.now turn.board.now log gone) c.in-Some.ensures.takes was.can) now.stays.nests.same.1 gained now.pool opens);
      home = subst (λ gone. GoneHome sent config gone) (sym rest)
          (λ other i. subst (λ gone. GoneHome sent config gone) c.in-Some.ensures.takes was.home other (there i));
      gained = subst (λ (ws : List Owed). MakesNested ws old.main new.main) (sym (closings_more config some one)) all_gained;
      returned = λ other v shows. subst (λ w. BoardMatches other new.board.now w)
          (returned_more v pairs (leg.0.pair ∷ []) ∙ ap (with_returned v) (sym (pairs_more some one)))
          (now.returned other (with_returned v pairs) (was.returned other v shows));
      calls = record { calls_are = now.calls.calls_are ∙ was.calls.calls_are; begun_is = now.calls.begun_is ∙ was.calls.begun_is };
      pool = now.pool ∙ ap (shape_returns (leg.0.pair ∷ [])) was.pool ∙ more_returned (board_shape old.board.now) pairs leg.0.pair
          ∙ ap (λ (ps : List ℕ). shape_returns ps (board_shape old.board.now)) (sym (pairs_more some one));
      closes = gained_both before log after (ClosesLegs sent config some) (ClosesLegs sent config one) (ClosesLegs sent config (some ++ one))
          (λ xs ys. closes_more sent config some one xs ys) was.closes closes;
      opens = λ held before_open. told_alike config after (pairs_left (leg.0.pair ∷ []) (pairs_left pairs held)) (pairs_left (pairs_in (leases_of_legs (some ++ one))) held)
          (λ q. left_twice pairs (leg.0.pair ∷ []) held q ∙ ap (λ (ps : List ℕ). has (pairs_left ps held) q) (sym (pairs_more some one)))
          (opens (pairs_left pairs held) (was.opens held before_open));
      takes = ties_takes_both config before log after (entries old.main.hand.now) (entries turn.main.hand.now) (entries new.main.hand.now) was.takes takes;
    }

pub returns-clause-stays : goal.returns-clause-stays
returns-clause-stays g c =
    let was = c.loop-leg.invariant in
    record {
      nests = was.stays.nests;
      devices = record { board_is = was.stays.devices.board_is; ports_are = was.stays.devices.ports_are; gone_is = was.stays.devices.gone_is };
      replies = was.stays.replies;
      later = was.stays.later;
    }

pub returns-clause-open : goal.returns-clause-open
returns-clause-open g c held opens =
    let was = c.loop-leg.invariant in
    let none = c.in_default.ensures.takes ∙ c.in_default.ensures.none refl in
    let all = was.split ∙ ap (λ legs. was.closed ++ legs) none ∙ append-nil was.closed in
    subst (λ gone. WhereLogged (g.P.PortMaker.log c.loop-leg.turn.ports.now) (λ (calls : List PortCall). OpensHeld c.args.turn.now.main.config.now calls (pairs_left (pairs_in (leases_of_legs gone)) held))) (sym all)
    (was.opens held opens)

pub returns-clause-calls : goal.returns-clause-calls
returns-clause-calls g c =
    c.loop-leg.invariant.calls

pub returns-clause-pool : goal.returns-clause-pool
returns-clause-pool g c =
    let was = c.loop-leg.invariant in
    let none = c.in_default.ensures.takes ∙ c.in_default.ensures.none refl in
    let all = was.split ∙ ap (λ legs. was.closed ++ legs) none ∙ append-nil was.closed in
    subst (λ gone. board_shape c.loop-leg.turn.board.now ≡ shape_returns (pairs_in (leases_of_legs gone)) (board_shape c.args.turn.now.board.now)) (sym all) was.pool

pub returns-clause-takes : goal.returns-clause-takes
returns-clause-takes g c =
    c.loop-leg.invariant.takes

pub returns-clause-gained : goal.returns-clause-gained
returns-clause-gained g c =
    let was = c.loop-leg.invariant in
    let none = c.in_default.ensures.takes ∙ c.in_default.ensures.none refl in
    let all = was.split ∙ ap (λ legs. was.closed ++ legs) none ∙ append-nil was.closed in
    subst (λ gone. GainsNested c.args.turn.now.main.entry_id.number c.args.turn.now.main.entry_id.moment (closings_of c.args.turn.now.main.config.now gone) c.args.turn.now.main.hand.now c.loop-leg.turn.main.hand.now) (sym all) was.gained

pub returns-clause-returned : goal.returns-clause-returned
returns-clause-returned g c config v shows =
    let was = c.loop-leg.invariant in
    let none = c.in_default.ensures.takes ∙ c.in_default.ensures.none refl in
    let all = was.split ∙ ap (λ legs. was.closed ++ legs) none ∙ append-nil was.closed in
    subst (λ gone. BoardMatches config c.loop-leg.turn.board.now (with_returned v (pairs_in (leases_of_legs gone)))) (sym all) (was.returned config v shows)

pub returns-clause-closes : goal.returns-clause-closes
returns-clause-closes g c =
    let was = c.loop-leg.invariant in
    let none = c.in_default.ensures.takes ∙ c.in_default.ensures.none refl in
    let all = was.split ∙ ap (λ legs. was.closed ++ legs) none ∙ append-nil was.closed in
    subst (λ gone. Gained (g.P.PortMaker.log c.args.turn.now.ports.now) (g.P.PortMaker.log c.loop-leg.turn.ports.now) (ClosesLegs g.P.Out.OutEnd.log c.args.turn.now.main.config.now gone)) (sym all) was.closes

pub returns-clause-empty : goal.returns-clause-empty
returns-clause-empty g c =
    c.in_default.ensures.none refl
