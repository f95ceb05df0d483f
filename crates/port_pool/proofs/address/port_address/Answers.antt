use Rattle.std.proofs.Common.{◌≡◌, ◌∙◌, ◌<◌, ◌≤◌, ◌+◌, ◌*◌, ℕ, refl, ap, arith}
use Rattle.relay_outside.specs.declared.settings.Config.{Config}
use Rattle.relay_outside.specs.Settings.{range_pairs, first_port}
use Rattle.port_pool.specs.Ports.{pair_count, place_in_family}
use Rattle.port_pool.proofs.Addresses.{below_end, place_within, at_most_twice}
use Rattle.port_pool.proofs.address.port_address.Goals as goal
use Rattle.port_pool.proofs.address.port_address.Goals.{in-Rtp, in-Rtcp}

within : (config : Config) (pair per place first : ℕ) → per ≡ range_pairs config → place ≡ place_in_family per pair → first ≡ first_port config → pair < pair_count config
    → (place < range_pairs config) × (first + 2 * place < config.port_max)
within config pair per place first per_is place_is first_is below =
    let is : place ≡ place_in_family (range_pairs config) pair = place_is ∙ ap (λ n. place_in_family n pair) per_is in
    let twice = at_most_twice config in
    let low = place_within (range_pairs config) pair (omega (arith, twice, below)) in
    let end = below_end config pair below in
    (omega (arith, is, low), omega (arith, is, end, first_is))

pub overflow_mul-even : goal.overflow_mul-even
overflow_mul-even c =
    let these = within c.args.config.now c.args.pair c.range_pairs.result c.place_in_family-place.result (first_port c.args.config.now) c.range_pairs.ensures.count c.place_in_family-place.ensures refl c.requires in
    omega (arith, these.0, c.range_pairs.ensures.within, c.range_pairs.ensures.count)

pub overflow_add-even : goal.overflow_add-even
overflow_add-even c =
    let these = within c.args.config.now c.args.pair c.range_pairs.result c.place_in_family-place.result c.first_port.result c.range_pairs.ensures.count c.place_in_family-place.ensures c.first_port.ensures c.requires in
    let most : c.args.config.now.port_max ≤ 65535 = omega (arith, c.if-prove.false) in
    omega (arith, these.1, most)

pub overflow_add-port : goal.overflow_add-port
overflow_add-port c =
    let these = within c.args.config.now c.args.pair c.range_pairs.result c.place_in_family-place.result c.first_port.result c.range_pairs.ensures.count c.place_in_family-place.ensures c.first_port.ensures c.requires in
    let most : c.args.config.now.port_max ≤ 65535 = omega (arith, c.if-prove.false) in
    omega (arith, these.1, most)

pub overflow_cast-result : goal.overflow_cast-result
overflow_cast-result c =
    let these = within c.args.config.now c.args.pair c.range_pairs.result c.place_in_family-place.result c.first_port.result c.range_pairs.ensures.count c.place_in_family-place.ensures c.first_port.ensures c.requires in
    let most : c.args.config.now.port_max ≤ 65535 = omega (arith, c.if-prove.false) in
    elim c.match-half.branch [ in-Rtp w ↦ omega (arith, these.1, most, w.port-is) | in-Rtcp w ↦ omega (arith, these.1, most, w.port-is) ]
