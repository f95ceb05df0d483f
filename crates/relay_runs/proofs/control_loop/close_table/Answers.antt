use Rattle.relay_runs.proofs.control_loop.close_table.Goals as goal

pub returns-clause-legal : goal.returns-clause-legal
returns-clause-legal g c = c.close.ensures.legal c.requires.starts c.requires.sound

pub returns-clause-ins : goal.returns-clause-ins
returns-clause-ins g c = c.close.ensures.ins c.requires.starts c.requires.sound

pub returns-clause-timed : goal.returns-clause-timed
returns-clause-timed g c = c.close.ensures.timed c.requires.starts c.requires.sound
