use Rattle.std.proofs.Common.{◌≡◌, map, filter}
use Rattle.offer_answer.specs.Keys.{is_for, key_among}
use Rattle.offer_answer.specs.Offers.{key_asked}
use Rattle.offer_answer.specs.Nexts.{numbered_keys}
use Rattle.offer_answer.proofs.NextLegs.{key_left}
use Rattle.offer_answer.proofs.ports_and_keys.key_of.Given as goal

-- no key so far is the one that is looked for
abbrev pub invariant-loop-index : goal.invariant-loop-index
invariant-loop-index l =
    key_among (filter (is_for l.section l.side) (numbered_keys l.first_key l.keys (map key_asked l.places))) l.suite
    ≡ key_left l.places l.first_key l.keys l.index l.section l.side l.suite
