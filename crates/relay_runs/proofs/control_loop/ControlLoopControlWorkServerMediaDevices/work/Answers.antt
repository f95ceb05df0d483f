use Rattle.std.proofs.Common.{◌≡◌, ◌∙◌, ap, arith, refl, sym, Some}
use Rattle.board_turns.proofs.Nesting.{same_again}
use Rattle.relay_core.specs.Turns.{made_by}
use Rattle.media_lane.proofs.Gates.{gated_none, gated_more}
use Rattle.board_turns.proofs.Firsts.{first_board}
use Rattle.relay_runs.proofs.Gates.{follows_gated, ticked_gated}
use Rattle.relay_runs.proofs.Loops.{begins, turn_goes, turn_ends, turns_spent}
use Rattle.relay_runs.proofs.Rounds.{follows_totals}
use Rattle.relay_runs.proofs.Wholes.{did_work, first_totals, may_turn, opens_again}
use Rattle.relay_runs.specs.declared.status.Status.{Status}
use Rattle.relay_runs.specs.declared.status.Status.TheVariants as status
use Rattle.relay_runs.proofs.control_loop.ControlLoopControlWorkServerMediaDevices.work.Goals as goal

pub turns-init : goal.turns-init
turns-init g c =
    let may = may_turn c.args.self.now.settings c.args.server.now.config c.args.server.now.turns (g.P.PortMaker.log c.args.devices.now.ports.now) c.args.self.now.hand c.in-Some.hand
    (sym c.take.ensures.value ∙ c.in-Some.is) c.requires in
    record {
      devices = (refl, refl, refl, refl);
      same = (refl, refl, refl, refl);
      between = may.between;
      opens = may.opens;
      running = begins _ _ _ _ _ may.nothing (first_board _ may.nothing) refl refl refl refl;
      gated = gated_none (g.G.Gate.passed c.args.media.now.gate.now) _ may.nothing;
      totals = first_totals _ _ may.nothing c.no_totals-totals.ensures;
      later = omega arith;
      port_later = omega arith;
      key_later = omega arith;
      replies = omega arith;
      datagrams = omega arith;
      below = omega arith;
      limit = may.limit;
      config = may.config_is;
    }

pub tick_when_due-next-requires-clause-open : goal.tick_when_due-next-requires-clause-open
tick_when_due-next-requires-clause-open g c = opens_again _ _ _ _ c.sweep_alone-hand.ensures.history c.control_turn-turn.ensures.open

pub turns-preserved : goal.turns-preserved
turns-preserved g c = record {
  devices = c.turns.invariant.devices;
  same =
      same_again c.in-Some.hand c.sweep_alone-hand.result c.tick_when_due-next.new.hand
      (same_again c.in-Some.hand c.control_turn-turn.new.hand c.sweep_alone-hand.result
      (same_again c.in-Some.hand c.turns.hand c.control_turn-turn.new.hand c.turns.invariant.same c.control_turn-turn.ensures.same) c.sweep_alone-hand.ensures.same)
      c.tick_when_due-next.ensures.same;
  between = c.tick_when_due-next.ensures.between;
  opens = c.tick_when_due-next.ensures.open;
  running =
      turn_goes _ _ _ _ c.turns.hand c.control_turn-turn.new.hand c.turns.counts c.with-counts.result _ c.control_turn-turn.result _ _ _ _ _ _ _ _ _ _ _ _ _ _ _ _ _ _ _
      c.with-counts.ensures.sum c.turns.invariant.between c.control_turn-turn.ensures.between c.turns.invariant.running c.now-now.ensures c.control_turn-turn.ensures.turned c.control_turn-turn.ensures.ties
      c.turns.invariant.port_later c.turns.invariant.key_later c.control_turn-turn.ensures.later.1 c.control_turn-turn.ensures.later.2
      c.tick_when_due-next.result c.sweep_alone-hand.result c.tick_when_due-next.new.hand _ _ c.in_default-find_status.ensures.answer c.sweep_alone-hand.ensures.history c.sweep_alone-hand.ensures.swept
      c.sweep_alone-hand.ensures.between c.tick_when_due-next.ensures.between c.tick_when_due-next.ensures.ticks c.tick_when_due-next.ensures.since c.tick_when_due-next.ensures.closes
      c.tick_when_due-next.ensures.ties c.tick_when_due-next.ensures.later;
  gated =
      ticked_gated (g.G.Gate.passed c.args.media.now.gate.now) c.args.server.now.config c.sweep_alone-hand.result c.tick_when_due-next.new.hand _ c.tick_when_due-next.ensures.ticks.ticked
      c.sweep_alone-hand.ensures.between.orderly c.tick_when_due-next.ensures.ticks.did
      (gated_more (g.G.Gate.passed c.args.media.now.gate.now) (made_by c.control_turn-turn.new.hand) (made_by c.sweep_alone-hand.result)
      (follows_gated (g.G.Gate.passed c.args.media.now.gate.now) c.args.server.now.config c.turns.hand c.control_turn-turn.new.hand _ c.control_turn-turn.result
      c.control_turn-turn.ensures.turned.made c.turns.invariant.between.orderly c.control_turn-turn.ensures.turned.follows c.turns.invariant.gated)
      c.sweep_alone-hand.ensures.gated);
  totals =
      c.tick_when_due-next.ensures.totals _
      (c.sweep_alone-hand.ensures.totals
      (follows_totals c.args.server.now.config c.args.server.now.turns c.turns.hand c.control_turn-turn.new.hand _ c.control_turn-turn.result
      c.control_turn-turn.ensures.turned.made c.turns.totals c.turns.invariant.between c.control_turn-turn.ensures.turned.follows c.turns.invariant.totals));
  later = omega (arith, c.turns.invariant.later, c.control_turn-turn.ensures.later.0);
  port_later = omega (arith, c.turns.invariant.port_later, c.control_turn-turn.ensures.later.1, c.tick_when_due-next.ensures.later);
  key_later = omega (arith, c.turns.invariant.key_later, c.control_turn-turn.ensures.later.2);
  replies = omega arith;
  datagrams = omega arith;
  below = omega arith;
  limit = c.turns.invariant.limit;
  config = c.turns.invariant.config;
}

pub returns-in-Some-find_status : goal.returns-in-Some-find_status
returns-in-Some-find_status g c = (
  c.turns.invariant.devices,
  did_work c.args.self.now.settings c.args.server.now.config c.args.server.now.turns (g.C.Clock.range c.args.media.now.clock.now) (g.G.Gate.passed c.args.media.now.gate.now) _ _ _
      c.args.self.now.hand c.in-Some.hand c.control_turn-turn.new.hand _ (sym c.take.ensures.value ∙ c.in-Some.is)
      (record {
        same = same_again c.in-Some.hand c.turns.hand c.control_turn-turn.new.hand c.turns.invariant.same c.control_turn-turn.ensures.same;
        between = c.control_turn-turn.ensures.between;
        opens = c.control_turn-turn.ensures.«open»;
        did =
            turn_ends _ _ _ _ c.turns.hand c.control_turn-turn.new.hand c.turns.counts c.with-counts.result _ c.control_turn-turn.result _ _ _ _ _ _ _ _ _ _ _ _ _ _ _ _ _ _ _
            c.with-counts.ensures.sum c.turns.invariant.between c.control_turn-turn.ensures.between c.turns.invariant.running c.now-now.ensures c.control_turn-turn.ensures.turned
            c.control_turn-turn.ensures.ties c.turns.invariant.port_later c.turns.invariant.key_later c.control_turn-turn.ensures.later.1 c.control_turn-turn.ensures.later.2
            c.args.self.now.settings.turns c.in-Some-find_status.status c.in-Some-find_status.ensures.answer c.turns-test.true;
        gated =
            follows_gated (g.G.Gate.passed c.args.media.now.gate.now) c.args.server.now.config c.turns.hand c.control_turn-turn.new.hand _ c.control_turn-turn.result
            c.control_turn-turn.ensures.turned.made c.turns.invariant.between.orderly c.control_turn-turn.ensures.turned.follows c.turns.invariant.gated;
        totals =
            follows_totals c.args.server.now.config c.args.server.now.turns c.turns.hand c.control_turn-turn.new.hand _ c.control_turn-turn.result
            c.control_turn-turn.ensures.turned.made c.turns.totals c.turns.invariant.between c.control_turn-turn.ensures.turned.follows c.turns.invariant.totals;
        later = (
          omega (arith, c.turns.invariant.later, c.control_turn-turn.ensures.later.0),
          omega (arith, c.turns.invariant.port_later, c.control_turn-turn.ensures.later.1),
          omega (arith, c.turns.invariant.key_later, c.control_turn-turn.ensures.later.2),
        );
        cause = λ fault.
            (let rose = c.control_turn-turn.ensures.read_fault (c.in-Some-find_status.ensures.fault (ap (λ (ended : Status). Some ended) fault)) in
            omega (arith, c.turns.invariant.later, rose));
        ends = c.in-Some-find_status.ensures.ends;
      }),
)

pub returns : goal.returns
returns g c = (
  c.turns.invariant.devices,
  did_work c.args.self.now.settings c.args.server.now.config c.args.server.now.turns (g.C.Clock.range c.args.media.now.clock.now) (g.G.Gate.passed c.args.media.now.gate.now) _ _ _
      c.args.self.now.hand c.in-Some.hand c.turns.hand _ (sym c.take.ensures.value ∙ c.in-Some.is)
      (record {
        same = c.turns.invariant.same;
        between = c.turns.invariant.between;
        opens = c.turns.invariant.opens;
        did = turns_spent _ _ _ _ c.turns.counts _ _ c.args.self.now.settings.turns (omega (arith, c.turns-test.false, c.turns.invariant.below)) c.turns.invariant.running;
        gated = c.turns.invariant.gated;
        totals = c.turns.invariant.totals;
        later = (c.turns.invariant.later, c.turns.invariant.port_later, c.turns.invariant.key_later);
        cause = λ fault. absurd (let no : status.TurnsSpent ≡ status.ControlFault = fault in cc);
        ends = tt;
      }),
)
