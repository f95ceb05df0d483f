use Rattle.relay_core.proofs.Joins.{joined}
use Rattle.relay_core.proofs.LaterJoins.{joined_after}
use Rattle.relay_core.proofs.laws.joined_lists_are_sound.Goals as goal

pub returns-clause-fresh : goal.returns-clause-fresh
returns-clause-fresh c = λ config rows others sound lane. joined config rows others sound lane

pub returns-clause-continued : goal.returns-clause-continued
returns-clause-continued c = λ config before rows others sound lane. joined_after config before rows others sound lane
