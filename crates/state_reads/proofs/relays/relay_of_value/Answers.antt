use Rattle.std.proofs.lemmas.Bool.{false≢true}
use Rattle.state_values.specs.RelayTrees.{relay_tree, FitsRelaySaved}
use Rattle.state_values.proofs.RelayLaws.{same_relays}
use Rattle.state_reads.specs.Texts.{RelayStands}
use Rattle.state_reads.proofs.OneTree.{told_of_read}
use Rattle.state_reads.proofs.relays.relay_of_value.Goals as goal

pub returns-else-relay_stands-clause-none : goal.returns-else-relay_stands-clause-none
returns-else-relay_stands-clause-none c = λ saved fits is stands.
    absurd (false≢true (c.if-relay_stands.ensures.1
    (told_of_read relay_tree FitsRelaySaved (RelayStands c.args.config.now) same_relays _ _ saved c.relay_fits.ensures fits c.in_ok-saved.ensures.some is stands)))
