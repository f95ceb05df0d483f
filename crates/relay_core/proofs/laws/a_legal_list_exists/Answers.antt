use Rattle.relay_core.proofs.laws.a_legal_list_exists.Goals as goal
use Rattle.relay_core.proofs.Example.Datagrams.{config}
use Rattle.relay_core.proofs.Example.Entries.{entries}
use Rattle.relay_core.proofs.Example.Legal.{legal}
use Rattle.relay_core.proofs.Example.Carried.{carries}

pub returns : goal.returns
returns c = (config, entries, legal, carries)
