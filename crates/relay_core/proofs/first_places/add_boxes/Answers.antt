use Rattle.std.proofs.Common.{◌≡◌, ◌∙◌, ap, ℕ, ◌+◌, arith}
use Rattle.rtp_packet.specs.declared.head.Half.TheVariants.{Rtp}
use Rattle.port_pool.specs.Ports.{port_address}
use Rattle.relay_core.specs.declared.part.Part.TheVariants as part
use Rattle.relay_core.specs.FirstPlaces.{pair_at}
use Rattle.relay_core.proofs.Beginnings.{one_more_box}
use Rattle.relay_core.proofs.first_places.add_boxes.Goals as goal

pub loop-pair-preserved : goal.loop-pair-preserved
loop-pair-preserved g c =
    let config = c.args.config.now in
    let there : c.loop-pair.pair ≡ pair_at config (c.loop-pair.pair + (config.max_sessions + 1)) = omega arith in
    one_more_box config c.args.parts.now.items c.loop-pair.parts.items c.push.new.self.items c.loop-pair.pair (part.Pair c.empty.result) c.loop-pair.invariant
    (c.empty.ensures.history, c.empty.ensures.ends, c.empty.ensures.cells, c.empty.ensures.at ∙ c.port_address-at.ensures ∙ ap (λ (n : ℕ). port_address config n Rtp) there)
    c.in_ok-push.ensures.items
