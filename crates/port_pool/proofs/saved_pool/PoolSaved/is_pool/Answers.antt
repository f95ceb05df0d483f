use Rattle.std.proofs.Common.{◌∙◌, ℕ, List, sym, subst}
use Rattle.std.proofs.lemmas.Bool.{false≢true}
use Rattle.port_pool.specs.Pools.{AreFree, AreFrom}
use Rattle.port_pool.proofs.SavedQueues.{all_from_zero}
use Rattle.port_pool.proofs.saved_pool.PoolSaved.is_pool.Goals as goal

pub returns-else-first : goal.returns-else-first
returns-else-first c = (
  λ t. absurd (false≢true (sym c.if-first.false ∙ t)),
  λ fits. c.in_ok-first.ensures.1 (subst (λ (s : List ℕ). AreFree c.args.self.now.per_family s × AreFrom 0 s) (sym c.deref.ensures.value) (fits.free4, all_from_zero c.args.self.now.free4.items)),
)
