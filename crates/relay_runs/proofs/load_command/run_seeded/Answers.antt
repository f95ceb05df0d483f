use Rattle.std.proofs.Common.{rules, ap, sym, subst, []}
use Rattle.media_ports.specs.OpenPorts.{LogsHeld}
use Rattle.media_ports.proofs.Held.{held_at_first}
use Rattle.relay_runs.specs.Loads.{packets_of}
use Rattle.relay_runs.proofs.Loaded.{serve_as, drew_none, whole_load, short_load}
use Rattle.relay_runs.proofs.load_command.run_seeded.Goals as goal

pub load_turns-looped-requires-clause-open : goal.load_turns-looped-requires-clause-open
load_turns-looped-requires-clause-open g c lifetimes within =
    subst (λ ports. LogsHeld c.args.prepared.server.config ports.maker.log []) (sym c.new-ports.ensures) (held_at_first c.args.prepared.server.config)

pub returns-clause-whole : goal.returns-clause-whole
returns-clause-whole g c =
    let settings = c.args.settings.now in
    let gate = g.G.Gate.passed c.args.gate.now in
    let looped = c.load_turns-looped.result in
    let found = c.whole_totals.ensures in
    whole_load settings gate looped.totals _ looped.counts looped.status
    (serve_as settings gate c.run_settings.result.turns c.args.prepared.server.config c.run_settings.result.threads c.new-clock.result _ looped.status looped.counts looped.totals
    c.run_settings.ensures.turns c.requires.prepared.config_is c.run_settings.ensures.threads c.new-clock.ensures c.load_turns-looped.ensures.did)
    _ _ _ _ (ap (λ link. link.log) c.new-link.ensures, ap (λ ports. ports.maker.log) c.new-ports.ensures, c.new-timer.ensures, drew_none _ settings.seed c.new-keys.ensures)
    (search rules) (search rules) (search rules) (search rules)
    c.whole_totals.result _ _ _ found.seeded c.requires.seed found.went found.taken found.spent found.log found.heard.log found.gave found.zero

pub returns-clause-short : goal.returns-clause-short
returns-clause-short g c =
    let settings = c.args.settings.now in
    let gate = g.G.Gate.passed c.args.gate.now in
    let looped = c.load_turns-looped.result in
    let found = c.whole_totals.ensures in
    short_load settings gate looped.totals _ looped.counts looped.status
    (serve_as settings gate c.run_settings.result.turns c.args.prepared.server.config c.run_settings.result.threads c.new-clock.result _ looped.status looped.counts looped.totals
    c.run_settings.ensures.turns c.requires.prepared.config_is c.run_settings.ensures.threads c.new-clock.ensures c.load_turns-looped.ensures.did)
    _ _ _ _ (ap (λ link. link.log) c.new-link.ensures, ap (λ ports. ports.maker.log) c.new-ports.ensures, c.new-timer.ensures, drew_none _ settings.seed c.new-keys.ensures)
    (search rules) (search rules) (search rules) (search rules)
    c.whole_totals.result (λ ok. c.load_turns-looped.ensures.took ok (packets_of settings) (search rules) (search rules)) found.short
