use Rattle.turn_table.specs.Hands.{starts, entries}
use Rattle.relay_core.proofs.Closed.{closed_numbered, sound_legal, sound_timed, closed_parts, whole_of}
use Rattle.relay_core.proofs.Continuing.{sound_goes_on}
use Rattle.relay_core.proofs.Closings.{sound_ins}
use Rattle.relay_core.proofs.Partings.{sound_outs}
use Rattle.relay_core.proofs.Filling.{filled_in}
use Rattle.relay_core.specs.Records.{list_of}
use Rattle.relay_core.proofs.WholeClosed.{closed_whole}
use Rattle.relay_core.proofs.HomesGiven.{closed_home}
use Rattle.relay_core.proofs.table_close.close_relay.Goals as goal

pub returns-clause-numbered : goal.returns-clause-numbered
returns-clause-numbered g c =
    closed_numbered g.I.InEnd.log g.I.InEnd.faults g.O.OutEnd.log g.O.OutEnd.faults (starts c.args.hand) (entries c.args.hand) c.close.ensures.range
    (whole_of g.I.InEnd.log g.I.InEnd.faults g.O.OutEnd.log g.O.OutEnd.faults (starts c.args.hand) (entries c.args.hand) c.close.result.items c.close.ensures.states)

pub returns-clause-states : goal.returns-clause-states
returns-clause-states g c = λ config are orderly returned.
    closed_parts g.I.InEnd.log g.I.InEnd.faults g.O.OutEnd.log g.O.OutEnd.faults config (starts c.args.hand) (entries c.args.hand) c.close.result.items
    are c.close.ensures.range c.close.ensures.states c.close.ensures.length orderly returned

pub returns-clause-legal : goal.returns-clause-legal
returns-clause-legal g c = λ config are sound.
    let whole = whole_of g.I.InEnd.log g.I.InEnd.faults g.O.OutEnd.log g.O.OutEnd.faults (starts c.args.hand) (entries c.args.hand) c.close.result.items c.close.ensures.states in
    let legal = sound_legal g.I.InEnd.log g.I.InEnd.faults g.O.OutEnd.log g.O.OutEnd.faults (starts c.args.hand) (entries c.args.hand) c.close.ensures.range whole config are sound in
    let outs = sound_outs g.I.InEnd.log g.I.InEnd.faults g.O.OutEnd.log g.O.OutEnd.faults (starts c.args.hand) (entries c.args.hand) c.close.ensures.range whole config are sound in
    (filled_in config (list_of (entries c.args.hand)), legal.0, legal.1, legal.2, outs)

pub returns-clause-timed : goal.returns-clause-timed
returns-clause-timed g c = λ config are sound.
    sound_timed g.I.InEnd.log g.I.InEnd.faults g.O.OutEnd.log g.O.OutEnd.faults (starts c.args.hand) (entries c.args.hand) c.close.ensures.range
    (whole_of g.I.InEnd.log g.I.InEnd.faults g.O.OutEnd.log g.O.OutEnd.faults (starts c.args.hand) (entries c.args.hand) c.close.result.items c.close.ensures.states)
    config are sound

pub returns-clause-ins : goal.returns-clause-ins
returns-clause-ins g c = λ config are sound ordered.
    sound_ins g.I.InEnd.log g.I.InEnd.faults g.O.OutEnd.log g.O.OutEnd.faults (starts c.args.hand) (entries c.args.hand) c.close.ensures.range
    (whole_of g.I.InEnd.log g.I.InEnd.faults g.O.OutEnd.log g.O.OutEnd.faults (starts c.args.hand) (entries c.args.hand) c.close.result.items c.close.ensures.states)
    config are sound ordered

pub returns-clause-continued : goal.returns-clause-continued
returns-clause-continued g c = λ config before left sound.
    sound_goes_on g.I.InEnd.log g.I.InEnd.faults g.O.OutEnd.log g.O.OutEnd.faults config before (starts c.args.hand) (entries c.args.hand) c.close.result.items
    left c.close.ensures.range c.close.ensures.states c.close.ensures.length sound

pub returns-clause-whole : goal.returns-clause-whole
returns-clause-whole g c = λ config parts now.
    closed_whole g.I.InEnd.log g.I.InEnd.faults g.O.OutEnd.log g.O.OutEnd.faults config (starts c.args.hand) (entries c.args.hand) c.close.result.items now.shape
    parts c.close.ensures.range c.close.ensures.states c.close.ensures.length now.kept now.whole

pub returns-clause-homes : goal.returns-clause-homes
returns-clause-homes g c = λ config homes.
    closed_home g.I.InEnd.log g.I.InEnd.faults g.O.OutEnd.log g.O.OutEnd.faults config (starts c.args.hand) (entries c.args.hand) c.close.result.items
    c.close.ensures.states c.close.ensures.length homes
