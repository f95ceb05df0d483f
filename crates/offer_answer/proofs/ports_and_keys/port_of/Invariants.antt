use Rattle.std.proofs.Common.{◌≡◌, map}
use Rattle.offer_answer.specs.Offers.{leg_asked}
use Rattle.offer_answer.specs.Texts.{new_port}
use Rattle.offer_answer.proofs.NextLegs.{port_left}
use Rattle.offer_answer.proofs.ports_and_keys.port_of.Given as goal

-- no leg so far is the one that is looked for
abbrev pub invariant-loop-index : goal.invariant-loop-index
invariant-loop-index l = new_port (map leg_asked l.legs) l.ports l.section l.side ≡ port_left l.legs l.ports l.index l.section l.side
