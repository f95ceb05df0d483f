use Rattle.std.proofs.Common.{rules, sym, subst, true}
use Rattle.relay_outside.specs.DeviceLogs.{WhereLogged}
use Rattle.load_maker.specs.Links.{LogsLoad}
use Rattle.load_maker.proofs.Links.{tells_nothing}
use Rattle.load_maker.proofs.link.LoadLink.new.Goals as goal

pub invariant_of-result : goal.invariant_of-result
invariant_of-result c = record {
  few = c.requires;
  left = search rules;
  log = subst (λ t. WhereLogged t (LogsLoad 0 true)) (sym c.new.ensures) tells_nothing;
}
