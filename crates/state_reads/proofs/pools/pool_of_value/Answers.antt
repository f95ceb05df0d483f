use Rattle.std.proofs.Common.{◌∙◌, sym, subst}
use Rattle.std.proofs.lemmas.Bool.{false≢true}
use Rattle.state_values.specs.PoolTrees.{IsReadPool}
use Rattle.state_values.proofs.PoolLaws.{same_pools}
use Rattle.state_reads.specs.Texts.{PoolStands}
use Rattle.state_reads.proofs.OneTree.{from_some}
use Rattle.state_reads.proofs.pools.pool_of_value.Goals as goal

pub returns-else-branch-clause-none : goal.returns-else-branch-clause-none
returns-else-branch-clause-none c = λ saved fits is both.
    let read = c.in-Some.saved in
    let made = from_some _ (λ it. IsReadPool c.first_port.result c.range_pairs.result _ it) read c.in_ok-saved.ensures.some c.in-Some.is in
    let same = same_pools saved read fits c.pool_fits.ensures
    (both.0.first_is ∙ sym c.first_port.ensures ∙ sym made.first_port_is) (both.0.per_is ∙ sym c.range_pairs.ensures.count ∙ sym made.per_family_is) (sym is ∙ made.written) in
    absurd (false≢true (sym c.if-branch.false ∙ c.in_ok-pool_stands.ensures.1 (subst (PoolStands c.args.config.now) same both.1)))
