use Rattle.std.proofs.Common.{sym, subst, arith}
use Rattle.turn_table.specs.Hands.{entries}
use Rattle.relay_runs.specs.RunStates.{AddsSweep}
use Rattle.relay_runs.proofs.Rounds.{sweep_rows}
use Rattle.relay_runs.proofs.Wholes.{moved_between}
use Rattle.relay_runs.proofs.control_loop.sweep_alone.Goals as goal

pub sweep_between-requires : goal.sweep_between-requires
sweep_between-requires g c =
    record { between = moved_between c.args.server.now.config c.args.settings.now.config c.args.server.now.turns c.turns.result.now c.args.hand c.requires.config (sym c.turns.ensures) c.requires.between }

pub returns-clause-between : goal.returns-clause-between
returns-clause-between g c =
    moved_between c.args.settings.now.config c.args.server.now.config c.turns.result.now c.args.server.now.turns c.sweep_between.result (sym c.requires.config) c.turns.ensures c.sweep_between.ensures.between

pub returns-clause-swept : goal.returns-clause-swept
returns-clause-swept g c =
    let none = c.if-settings-gt0.false in
    subst (λ k. AddsSweep k c.args.settings.now.threads (g.C.Clock.range c.args.media.now.clock.now) (entries c.args.hand) (entries c.sweep_between.result)) (sym c.requires.config)
    (sweep_rows c.args.settings.now.config c.args.settings.now.threads (g.C.Clock.range c.args.media.now.clock.now) c.args.hand c.sweep_between.result (omega (arith, none))
    c.sweep_between.ensures.swept)
