use Rattle.std.proofs.Common.{◌∙◌, sym, subst}
use Rattle.relay_app.specs.Run.{IsReplayed}
use Rattle.relay_app.proofs.Replayed.{told_status, told_read, told_print, told_control}
use Rattle.relay_app.proofs.replay_command.replay_script.Goals as goal

pub returns-clause-status : goal.returns-clause-status
returns-clause-status g c = subst IsReplayed (sym c.status_of.ensures) (told_status c.replay.result)

pub returns-clause-replayed : goal.returns-clause-replayed
returns-clause-replayed g c = record { end = c.replay.result; answer_is = c.status_of.ensures; replays = c.replay.ensures.replayed }

pub returns-clause-script_read : goal.returns-clause-script_read
returns-clause-script_read g c is = c.replay.ensures.script_read (told_read c.replay.result (sym is ∙ c.status_of.ensures))

pub returns-clause-print_fault : goal.returns-clause-print_fault
returns-clause-print_fault g c is = c.replay.ensures.print_fault (told_print c.replay.result (sym is ∙ c.status_of.ensures))

pub returns-clause-control_fault : goal.returns-clause-control_fault
returns-clause-control_fault g c is = told_control c.replay.result (sym is ∙ c.status_of.ensures)
