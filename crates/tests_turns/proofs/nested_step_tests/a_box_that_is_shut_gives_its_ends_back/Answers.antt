use Rattle.std.proofs.Common.{◌≡◌, refl, lit<, sym, subst, ℕ, List, [], ◌∷◌}
use Rattle.std.specs.Prelude.{Option, IsSome}
use Rattle.relay_outside.specs.declared.settings.Config.{Config}
use Rattle.turn_table.specs.declared.hands.Turns.{Turns}
use Rattle.turn_table.specs.declared.hands.Hand.{Hand}
use Rattle.turn_table.specs.Hands.{starts}
use Rattle.port_pool.specs.declared.holder.Holder.{Holder}
use Rattle.port_pool.specs.Ports.{pair_count, range_pairs}
use Rattle.relay_core.specs.declared.part.Part.{Part}
use Rattle.relay_core.specs.Records.{Made}
use Rattle.relay_core.specs.Scripts.{open_owed}
use Rattle.relay_core.specs.Turns.{GainsNested}
use Rattle.board_turns.specs.NestedSteps.{MayNest, IsTurnOpen}
use Rattle.board_turns.proofs.First.{first_shut, opened_now}
use Rattle.tests_turns.specs.declared.nested_step_tests.TheConstants.{HOLDER}
use Rattle.tests_turns.proofs.nested_step_tests.a_box_that_is_shut_gives_its_ends_back.Goals as goal

-- a box that was opened for a leg is open for it, in the hand that is left
still_open : {M I O T : Type 0} {g : _} {config : Config} {turns : Turns M (Part I O) Made T} {old : Hand M (Part I O) Made T g} (leg : Holder) (mid new : Hand M (Part I O) Made T g)
    → MayNest config turns old → starts mid ≡ starts old → GainsNested 0 5 (open_owed config leg ∷ []) old mid → mid ≡ new → IsTurnOpen config new leg.pair
still_open {config = config} {old = old} leg mid new may same gains left =
    subst (λ (hand : Hand _ (Part _ _) Made _ _). IsTurnOpen config hand leg.pair) left
    (subst (λ (o : Option Holder). IsSome o) (sym (opened_now config 0 5 leg old mid same gains)) refl)

pub open_box-requires-clause-pair : goal.open_box-requires-clause-pair
unfolding pair_count range_pairs
open_box-requires-clause-pair g c = lit< tt

pub open_box-requires-clause-shut : goal.open_box-requires-clause-shut
unfolding pair_count range_pairs
open_box-requires-clause-shut g c = first_shut _ c.in-Some.hand 1 c.in-Some.ensures.may.parts c.in-Some.ensures.may.whole_parts c.in-Some.ensures.hand.0 (lit< tt)

pub shut_box-requires-clause-pair : goal.shut_box-requires-clause-pair
unfolding pair_count range_pairs
shut_box-requires-clause-pair g c = lit< tt

pub shut_box-requires-clause-open : goal.shut_box-requires-clause-open
shut_box-requires-clause-open g c =
    let mid = c.open_box.new.main.hand.now in
    let left : mid ≡ c.hand-2-1.given.0 = sym (c.hand-2-1.given.1 (sym c.open_box.ensures.nests.hand_is)) in
    still_open HOLDER mid c.hand-2-1.given.0 c.in-Some.ensures.may c.open_box.ensures.nests.same.1 c.open_box.ensures.gained left

pub open_box-requires-clause-ends : goal.open_box-requires-clause-ends
open_box-requires-clause-ends g c = (record { at_is = c.quiet-rtp.ensures; uncalled = tt }, record { at_is = c.quiet-rtcp.ensures; uncalled = tt })
