use Rattle.std.proofs.Common.{Some}
use Rattle.media_lane.proofs.Counts.{turn_totals}
use Rattle.media_ports.proofs.Asked.{gained_no_opening}
use Rattle.relay_runs.proofs.control_loop.tick_when_due.Goals as goal

pub returns-clause-ticks : goal.returns-clause-ticks
returns-clause-ticks g c =
    record { ticked = Some c.timer_turn.ensures.ticks.calls; when_due = c.if-not-is_over.ensures; did = c.timer_turn.ensures.ticks.makes }

pub returns-clause-totals : goal.returns-clause-totals
returns-clause-totals g c = λ totals counts.
    turn_totals c.args.server.now.config c.args.hand.now c.timer_turn.new.hand _ totals c.requires.between.orderly c.timer_turn.ensures.ticks.makes counts

pub returns-then-not-is_over-clause-closes : goal.returns-then-not-is_over-clause-closes
returns-then-not-is_over-clause-closes g c = gained_no_opening (g.P.PortMaker.log c.args.ports.now)
