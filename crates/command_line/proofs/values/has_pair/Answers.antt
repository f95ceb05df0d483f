use Rattle.std.proofs.Common.{◌≡◌, ◌↔◌, ℕ, ◌+◌, ◌%◌, ◌<◌, IsTrue, arith}
use Rattle.std.specs.Prelude.{nat_lt}
use Rattle.std.proofs.lemmas.Bool.{ltb-true, lt-ltb}
use Rattle.relay_outside.specs.declared.settings.Config.{Config}
use Rattle.relay_outside.specs.Settings.{range_pairs}
use Rattle.command_line.specs.Values.{IsPair}
use Rattle.command_line.proofs.values.has_pair.Goals as goal

module _ (config : Config) (count : ℕ) (count_is : count ≡ range_pairs config) where
  first_pair : 0 < count → (port : ℕ) × IsPair config port
  unfolding range_pairs
  first_pair some = (config.port_min + config.port_min % 2, (omega arith, omega arith, omega (arith, some, count_is)))

  no_later : (port : ℕ) × IsPair config port → 0 < count
  unfolding range_pairs
  no_later (port, is) = omega (arith, is.0, is.1, is.2, count_is)

  pair_test : IsTrue (nat_lt 0 count) ↔ ((port : ℕ) × IsPair config port)
  pair_test = (λ e. first_pair (ltb-true _ _ e), λ pair. lt-ltb _ _ (no_later pair))

pub returns-clause-pair : goal.returns-clause-pair
returns-clause-pair c = pair_test c.args.config.now _ c.range_pairs.ensures.count
