use Rattle.std.proofs.Common.{◌∙◌, ◌*◌, refl, arith}
use Rattle.relay_runs.specs.declared.load_end.LoadEnd.TheVariants as end
use Rattle.relay_runs.proofs.Loaded.{took_line, left_line}
use Rattle.relay_runs.proofs.load_command.load.Goals as goal

pub returns-in-Ok-write-clause-ends : goal.returns-in-Ok-write-clause-ends
returns-in-Ok-write-clause-ends g c =
    took_line c.args.settings.now (g.G.Gate.passed c.args.gate.now) c.in-Ok-run_load.totals c.in-Ok-run_load.ensures.whole _ _ c.as_slice.result.now (c.as_slice.ensures ∙ c.put_load_line.ensures)
    c.in-Ok-write.ensures.log

pub returns-clause-ends : goal.returns-clause-ends
returns-clause-ends g c =
    left_line c.args.settings.now (g.G.Gate.passed c.args.gate.now) c.in-Ok-run_load.totals c.in-Ok-run_load.ensures.whole _ _ c.as_slice.result.now (c.as_slice.ensures ∙ c.put_load_line.ensures)
    c.in-Err-write.ensures.log

pub run_load-requires-clause-due : goal.run_load-requires-clause-due
run_load-requires-clause-due g c lifetimes within =
    let least = c.requires.limits.least_lanes in
    let same = c.one_each-share.ensures.0 in
    c.in-Ok-reserve.ensures.due (record { pairs = 2 * c.args.settings.now.calls; packets = c.args.settings.now.packets }) refl (omega (arith, least, same))

pub returns-in-Ok-write-clause-loads : goal.returns-in-Ok-write-clause-loads
returns-in-Ok-write-clause-loads g c = (end.Finished, refl, returns-in-Ok-write-clause-ends g c)

pub returns-clause-loads : goal.returns-clause-loads
returns-clause-loads g c = (end.PrintFault, refl, returns-clause-ends g c)
