use Rattle.std.proofs.Common.{◌≡◌, ◌∙◌, [], ◌∷◌, ap, sym, subst, refl, length, arith, lit<}
use Rattle.std.proofs.lemmas.List.{length-map}
use Rattle.port_pool.specs.Ports.{pair_count, range_pairs}
use Rattle.port_pool.specs.Pools.{AreFree}
use Rattle.media_ports.proofs.Leased.{pair_within}
use Rattle.tests_turns.specs.declared.media_ports_tests.TheConstants.{CONFIG}
use Rattle.tests_turns.proofs.media_ports_tests.close_two.Goals as goal

two_pairs : AreFree (pair_count CONFIG) (2 ∷ 0 ∷ [])
unfolding pair_count range_pairs
two_pairs = (lit< tt, refl, (lit< tt, refl, tt))

pub close_pair-requires-clause-pair : goal.close_pair-requires-clause-pair
close_pair-requires-clause-pair c =
    pair_within CONFIG c.args.leases.now.list 0 c.get.result.now c.get.ensures (subst (AreFree (pair_count CONFIG)) (sym c.requires.two) two_pairs)

pub get-requires-2 : goal.get-requires-2
get-requires-2 c =
    let two = sym (length-map c.args.leases.now.list _) ∙ ap length c.requires.two in
    omega (arith, two)

pub close_pair-requires-2-clause-pair : goal.close_pair-requires-2-clause-pair
close_pair-requires-2-clause-pair c =
    pair_within CONFIG c.args.leases.now.list 1 c.get-2.result.now c.get-2.ensures (subst (AreFree (pair_count CONFIG)) (sym c.requires.two) two_pairs)

pub close_pair-requires-clause-ends : goal.close_pair-requires-clause-ends
close_pair-requires-clause-ends c = c.requires.first _ c.get.ensures

pub close_pair-requires-2-clause-ends : goal.close_pair-requires-2-clause-ends
close_pair-requires-2-clause-ends c = c.requires.second _ c.get-2.ensures
