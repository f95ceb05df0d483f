use Rattle.std.proofs.Common.{map}
use Rattle.offer_answer.specs.Offers.{key_asked}
use Rattle.offer_answer.specs.Nexts.{numbered_keys}
use Rattle.offer_answer.proofs.NextLegs.{leg-keyed}
use Rattle.offer_answer.proofs.Shapes.{leg-with-keys}
use Rattle.offer_answer.proofs.ports_and_keys.leg_with_keys.Goals as goal

pub returns-clause-next : goal.returns-clause-next
returns-clause-next c = λ config rounds ask ports n.
    leg-keyed config rounds ask ports (numbered_keys c.args.first_key c.args.keys.now (map key_asked c.args.places.now)) c.args.section c.args.side c.args.leg
    c.key_of-long.result c.key_of-short.result c.newer.result c.newer-2.result n c.key_of-long.ensures c.key_of-short.ensures c.newer.ensures c.newer-2.ensures

pub returns-clause-shape : goal.returns-clause-shape
returns-clause-shape c =
    leg-with-keys (numbered_keys c.args.first_key c.args.keys.now (map key_asked c.args.places.now)) c.args.section c.args.side c.args.leg
    c.key_of-long.result c.key_of-short.result c.newer.result c.newer-2.result c.key_of-long.ensures c.key_of-short.ensures c.newer.ensures c.newer-2.ensures
