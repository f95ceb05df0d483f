use Rattle.std.proofs.Common.{◌≡◌, ◌∙◌, ◌+◌, ℕ, refl, ap, sym, Bool, true, false, cond, take, List, ◌++◌, ◌∷◌, [], arith}
use Rattle.std.specs.Prelude.{count_by}
use Rattle.std.proofs.lemmas.List.Sums.{sum_by-append}
use Rattle.relay_outside.specs.declared.address.Family.{Family}
use Rattle.relay_outside.specs.declared.address.Family.TheVariants.{V4, V6}
use Rattle.relay_outside.specs.contracts.address.Family.{the_type}
use Rattle.port_pool.specs.Ports.{family_eq}
use Rattle.offer_answer.specs.Rounds.{NewLeg}
use Rattle.offer_answer.specs.Offers.{legs_demanded}
use Rattle.call_board.proofs.Leased.{leg_at_place}
use Rattle.call_board.proofs.offer_plan.pairs_of.Goals as goal
use Rattle.call_board.proofs.offer_plan.pairs_of.Goals.{then-eq, else-eq}

test_is : (a b : Family) → denote.Enum.Bare.sameb the_type a b ≡ family_eq a b
test_is V4 V4 = refl
test_is V4 V6 = refl
test_is V6 V4 = refl
test_is V6 V6 = refl

-- the count goes up where the leg is of the family
one_more : (legs : List NewLeg) (k : ℕ) (leg : NewLeg) (is family : Family) (b : Bool) → take (k + 1) legs ≡ take k legs ++ leg ∷ [] → leg.family ≡ is → family_eq is family ≡ b
    → count_by (λ (l : NewLeg). family_eq l.family family) (take (k + 1) legs) ≡ count_by (λ (l : NewLeg). family_eq l.family family) (take k legs) + cond b 1 0
one_more legs k leg is family b more same test =
    let sum = sum_by-append (λ (l : NewLeg). cond (family_eq l.family family) 1 0) (take k legs) (leg ∷ []) in
    let whole = ap (count_by (λ (l : NewLeg). family_eq l.family family)) more in
    let one : cond (family_eq leg.family family) 1 0 ≡ cond b 1 0 = ap {B = ℕ} (λ f. cond (family_eq f family) 1 0) same ∙ ap {B = ℕ} (λ c. cond c 1 0) test in
    omega (arith, sum, whole, one)

pub loop-index-preserved : goal.loop-index-preserved
loop-index-preserved c =
    let legs = legs_demanded c.args.plan.now in
    let k : ℕ = c.loop-index.index in
    let here = leg_at_place legs k c.pair_family.result c.pair_family.ensures.own in
    let test : c.eq.result ≡ family_eq c.pair_family.result c.args.family = c.eq.ensures ∙ test_is c.pair_family.result c.args.family in
    elim c.if-eq.branch [
      | then-eq w ↦
          let more = one_more legs k here.0 c.pair_family.result c.args.family true here.2 here.3 (sym test ∙ w.if-eq.true) in
          record { counted = omega (arith, more, w.count-is, c.loop-index.invariant.counted); few = omega (arith, w.count-is, c.loop-index.invariant.few) }
      | else-eq w ↦
          let more = one_more legs k here.0 c.pair_family.result c.args.family false here.2 here.3 (sym test ∙ w.if-eq.false) in
          record { counted = omega (arith, more, w.count-is, c.loop-index.invariant.counted); few = omega (arith, w.count-is, c.loop-index.invariant.few) }
    ]
