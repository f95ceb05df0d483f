use Rattle.std.proofs.Common.{ap}
use Rattle.relay_core.specs.Records.{list_of}
use Rattle.board_turns.proofs.Firsts.{first_between}
use Rattle.ng_server.proofs.server.start_table.Goals as goal

pub returns-in-Ok-clause-between : goal.returns-in-Ok-clause-between
returns-in-Ok-clause-between g c =
    first_between c.args.config.now c.in-Ok.started.0 c.in-Ok.started.1 c.in_ok-states.states.items c.in-Ok.ensures.0 c.in-Ok.ensures.1 c.in_ok-states.ensures.begins c.in_ok-states.ensures.whole

pub returns-in-Ok-clause-nothing : goal.returns-in-Ok-clause-nothing
returns-in-Ok-clause-nothing g c = ap list_of c.in-Ok.ensures.1.1

pub returns-in-Ok-clause-all : goal.returns-in-Ok-clause-all
returns-in-Ok-clause-all g c = c.in-Ok.ensures.1.2
