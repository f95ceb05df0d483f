use Rattle.std.proofs.Common.{map}
use Rattle.offer_answer.specs.Offers.{leg_asked}
use Rattle.port_pool.specs.declared.holder.Side.TheVariants.{A, B}
use Rattle.offer_answer.proofs.NextLegs.{two-sides, leg-ported}
use Rattle.offer_answer.proofs.Shapes.{both-legs, leg-with-port}
use Rattle.offer_answer.proofs.ports_and_keys.section_with_ports.Goals as goal

pub returns-clause-next : goal.returns-clause-next
returns-clause-next c = λ config rounds ask keys l n. record {
  pairs_are = n.pairs_are;
  committed_is = n.committed_is;
  legs_are = two-sides config rounds ask c.args.ports.now keys c.args.section
      (record { has_pairs = c.args.kept.has_pairs; is_committed = c.args.kept.is_committed; a = c.leg_with_port.result; b = c.leg_with_port-2.result })
      (leg-ported config rounds ask (map leg_asked c.args.legs.now) c.args.ports.now keys c.args.section A c.args.kept.a c.leg_with_port.result c.port_of.result l (n.legs_are A)
      c.port_of.ensures c.leg_with_port.ensures)
      (leg-ported config rounds ask (map leg_asked c.args.legs.now) c.args.ports.now keys c.args.section B c.args.kept.b c.leg_with_port-2.result c.port_of-2.result l (n.legs_are B)
      c.port_of-2.ensures c.leg_with_port-2.ensures);
}

pub returns-clause-shape : goal.returns-clause-shape
returns-clause-shape c =
    both-legs _ _ _ _ _ _
    (leg-with-port (map leg_asked c.args.legs.now) c.args.ports.now c.args.section A c.args.kept.a c.leg_with_port.result c.port_of.result c.port_of.ensures c.leg_with_port.ensures)
    (leg-with-port (map leg_asked c.args.legs.now) c.args.ports.now c.args.section B c.args.kept.b c.leg_with_port-2.result c.port_of-2.result c.port_of-2.ensures c.leg_with_port-2.ensures)
