use Rattle.std.proofs.Common.{map}
use Rattle.port_pool.specs.declared.holder.Side.TheVariants.{A, B}
use Rattle.offer_answer.specs.Offers.{key_asked}
use Rattle.offer_answer.specs.Nexts.{numbered_keys}
use Rattle.offer_answer.proofs.NextLegs.{two-sides}
use Rattle.offer_answer.proofs.Shapes.{both-legs}
use Rattle.offer_answer.proofs.ports_and_keys.section_with_keys.Goals as goal

pub returns-clause-next : goal.returns-clause-next
returns-clause-next c = λ config rounds ask ports n. record {
  pairs_are = n.pairs_are;
  committed_is = n.committed_is;
  legs_are = two-sides config rounds ask ports (numbered_keys c.args.first_key c.args.keys.now (map key_asked c.args.places.now)) c.args.section
      (record { has_pairs = c.args.kept.has_pairs; is_committed = c.args.kept.is_committed; a = c.leg_with_keys.result; b = c.leg_with_keys-2.result })
      (c.leg_with_keys.ensures.next config rounds ask ports (n.legs_are A)) (c.leg_with_keys-2.ensures.next config rounds ask ports (n.legs_are B));
}

pub returns-clause-shape : goal.returns-clause-shape
returns-clause-shape c = both-legs _ _ _ _ _ _ c.leg_with_keys.ensures.shape c.leg_with_keys-2.ensures.shape
