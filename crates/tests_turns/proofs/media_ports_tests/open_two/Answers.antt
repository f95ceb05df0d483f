use Rattle.std.proofs.Common.{◌≡◌, ◌∙◌, [], ◌∷◌, ap, sym, subst, refl, length, arith, lit<}
use Rattle.std.proofs.lemmas.List.{length-map}
use Rattle.std.proofs.lemmas.Result.{on_ok_weaker}
use Rattle.port_pool.specs.Ports.{pair_count, range_pairs}
use Rattle.port_pool.specs.Pools.{AreFree}
use Rattle.tests_turns.specs.declared.media_ports_tests.TheConstants.{CONFIG}
use Rattle.tests_turns.proofs.media_ports_tests.open_two.Goals as goal

two_pairs : AreFree (pair_count CONFIG) (2 ∷ 0 ∷ [])
unfolding pair_count range_pairs
two_pairs = (lit< tt, refl, (lit< tt, refl, tt))

pub open_pairs-requires-clause-room : goal.open_pairs-requires-clause-room
open_pairs-requires-clause-room c =
    let two = sym (length-map c.args.leases.now.list _) ∙ ap length c.requires.two in
    omega (arith, two)

pub open_pairs-requires-clause-leased : goal.open_pairs-requires-clause-leased
open_pairs-requires-clause-leased c = record { differ = subst (AreFree (pair_count CONFIG)) (sym c.requires.two) two_pairs }

pub returns-clause-pairs : goal.returns-clause-pairs
returns-clause-pairs c =
    let two = sym (length-map c.args.leases.now.list _) ∙ ap length c.requires.two in
    on_ok_weaker c.open_pairs.result (λ many. many ∙ (let e : length c.args.leases.now.list ≡ 2 = omega (arith, two) in e)) c.open_pairs.ensures.pairs
