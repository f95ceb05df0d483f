use Rattle.std.proofs.Common.{sym, subst, refl}
use Rattle.load_maker.specs.Moments.{AreZero}
use Rattle.load_maker.proofs.timer.LoadTimer.new.Goals as goal

pub invariant_of-result : goal.invariant_of-result
invariant_of-result c = subst (λ log. AreZero log) (sym c.new.ensures) refl
