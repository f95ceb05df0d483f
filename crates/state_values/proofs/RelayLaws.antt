-- Relays whose configurations and counts are written alike, and that each is spelled.
use Rattle.std.proofs.Common.{◌≡◌, refl, arith}
use Rattle.ng_bencode.specs.Spells.{spelling, Spells}
use Rattle.state_values.specs.declared.relays.RelaySaved.{RelaySaved}
use Rattle.state_values.specs.RelayTrees.{relay_tree, FitsRelaySaved}
use Rattle.state_values.proofs.NumberTrees.{same_number}
use Rattle.state_values.proofs.KeyedTrees.{same_entries, same_value, same_rest}
use Rattle.state_values.proofs.ConfigLaws.{same_configs, config_deep}
use Rattle.state_values.proofs.Spelled.{number_spelled}

pub same_relays : (a b : RelaySaved) → FitsRelaySaved a → FitsRelaySaved b → relay_tree a ≡ relay_tree b → a ≡ b
same_relays a b fits_a fits_b same =
    let first = same_entries same in
    let second = same_rest first in
    let third = same_rest second in
    let fourth = same_rest third in
    let begun = same_number a.begun b.begun fits_a.begun fits_b.begun (same_value first) in
    let config = same_configs a.config b.config fits_a.config fits_b.config (same_value second) in
    let drawn = same_number a.drawn b.drawn fits_a.drawn fits_b.drawn (same_value third) in
    let moment = same_number a.moment b.moment fits_a.moment fits_b.moment (same_value fourth) in
    λ i. record { config = config i; moment = moment i; begun = begun i; drawn = drawn i }

pub relay_spelled : (saved : RelaySaved) → Spells (spelling (relay_tree saved)) (relay_tree saved)
relay_spelled saved =
    let begun = number_spelled saved.begun in
    let config = config_deep saved.config in
    let drawn = number_spelled saved.drawn in
    let moment = number_spelled saved.moment in
    record {
      ints = (begun.ints, (config.ints, (drawn.ints, (moment.ints, tt))));
      deep = omega (arith, begun.deep, config.deep, drawn.deep, moment.deep);
      spelled = refl;
    }
