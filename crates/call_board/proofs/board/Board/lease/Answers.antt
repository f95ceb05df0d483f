use Rattle.std.proofs.Common.{refl, ap, sym, subst, ◌∙◌, arith, ℕ, ◌≡◌, ◌≤◌, ◌<◌, ◌+◌, List, [], ◌∷◌, ◌++◌, length, take, drop, cond, Some}
use Rattle.relay_outside.specs.declared.address.Family.{Family}
use Rattle.std.proofs.lemmas.List.{length-map}
use Rattle.port_pool.specs.Ports.{pair_count, pairs_of_family, family_eq}
use Rattle.port_pool.specs.Pools.{free_pairs}
use Rattle.port_pool.specs.LeaseLists.{LeaseList}
use Rattle.offer_answer.specs.Rounds.{NewLeg}
use Rattle.offer_answer.specs.Offers.{pairs_demanded, legs_demanded, leg_asked}
use Rattle.call_board.specs.Pairs.{without_front}
use Rattle.call_board.specs.Views.{with_leases}
use Rattle.call_board.specs.Boards.{BoardMatches, fronts_for, leases_at}
use Rattle.call_board.proofs.Demands.{AreEnough, count_of, count_next, enough_of, enough_next}
use Rattle.call_board.proofs.Leased.{none_leased, one_more_leased, one_more_lease, front_of, front_after, room_had, leg_at_place, free_left, once_free, eq_itself}
use Rattle.port_pool.specs.declared.pairs.Lease.{Lease}
use Rattle.port_pool.specs.Leases.{LeasesFront}
use Rattle.call_board.specs.Shapes.{LeasesLegs, with_pool}
use Rattle.call_board.proofs.ShapedPools.{no_leg_leased, one_leg_more}
use Rattle.call_board.proofs.board.Board.lease.Goals as goal

-- the first of the legs that are left has a pair
first_has : (lists : Family → List ℕ) (legs rest : List NewLeg) (leg : NewLeg) (family : Family) → AreEnough lists legs → legs ≡ leg ∷ rest → leg.family ≡ family → 0 < length (lists family)
first_has lists legs rest leg family enough is same =
    let here : count_of family (leg ∷ rest) ≤ length (lists family) = subst (λ ls. count_of family ls ≤ length (lists family)) is (enough family) in
    let next = count_next family leg rest in
    let one : cond (family_eq leg.family family) 1 0 ≡ 1 = ap {B = ℕ} (λ f. cond (family_eq f family) 1 0) same ∙ ap {B = ℕ} (λ b. cond b 1 0) (eq_itself family) in
    omega (arith, here, next, one)

-- each family has enough pairs for the others
others_have : (lists now : Family → List ℕ) (legs rest : List NewLeg) (leg : NewLeg) (family : Family) → AreEnough lists legs → legs ≡ leg ∷ rest → leg.family ≡ family
    → ((other : Family) → now other ≡ without_front lists family other) → AreEnough now rest
others_have lists now legs rest leg family enough is same left other =
    let more : AreEnough (without_front lists leg.family) rest = enough_next lists leg rest (subst (AreEnough lists) is enough) in
    subst (λ ps. count_of other rest ≤ length ps) (sym (left other))
    (subst (λ f. count_of other rest ≤ length (without_front lists f other)) same (more other))

pub loop-index-init : goal.loop-index-init
loop-index-init c =
    let room = room_had (pairs_demanded c.args.plan.now.plan) c.args.plan.now.leases c.take.result c.unwrap-leases.result c.requires.room.leases c.take.ensures.value c.unwrap-leases.ensures in record {
      leases = λ config v s free. (none_leased config c.args.self.now v s, room.0);
      plan = refl;
      enough = enough_of (free_pairs c.args.self.now.pool) (legs_demanded c.args.plan.now.plan) c.requires.room.pairs;
      count = ap length room.0;
      calls = record { calls_are = refl; begun_is = refl };
      replies = refl;
      room = room.1 ∙ sym c.pairs-index-end.ensures.count;
      shape = no_leg_leased c.args.self.now.pool c.unwrap-leases.result.list room.0;
      rest = refl;
      rises = λ pair. omega arith;
    }

pub lease_one-requires-clause-some : goal.lease_one-requires-clause-some
lease_one-requires-clause-some c =
    let legs = legs_demanded c.args.plan.now.plan in
    let k : ℕ = c.loop-index.index in
    let here = leg_at_place legs k c.pair_family.result c.pair_family.ensures.own in
    first_has (free_pairs c.loop-index.self.pool) (drop k legs) (drop (k + 1) legs) here.0 c.pair_family.result c.loop-index.invariant.enough here.1 here.3

pub lease_one-requires-clause-room : goal.lease_one-requires-clause-room
lease_one-requires-clause-room c = omega (arith, c.loop-index-test.true, c.loop-index.invariant.count, c.loop-index.invariant.room)

pub lease_one-requires-clause-generations : goal.lease_one-requires-clause-generations
lease_one-requires-clause-generations c = λ pair.
    let rises = c.loop-index.invariant.rises pair in
    let low = c.requires.generations pair in
    omega (arith, rises, low, c.loop-index-test.true, c.pairs-index-end.ensures.count)

pub loop-index-preserved : goal.loop-index-preserved
loop-index-preserved c =
    let legs = legs_demanded c.args.plan.now.plan in
    let k : ℕ = c.loop-index.index in
    let inv = c.loop-index.invariant in
    let here = leg_at_place legs k c.pair_family.result c.pair_family.ensures.own in
    let some = first_has (free_pairs c.loop-index.self.pool) (drop k legs) (drop (k + 1) legs) here.0 c.pair_family.result inv.enough here.1 here.3 in record {
      leases = λ config v s free.
          let former = inv.leases config v s free in
          let taken : List ℕ = fronts_for config v (take k legs) in
          let mid = with_leases v taken in
          let many : 0 < length (pairs_of_family config mid.free c.pair_family.result) = subst (λ (xs : List ℕ). 0 < length xs) (former.0.pool_for.free_is c.pair_family.result) some in
          let f = front_of (pairs_of_family config mid.free c.pair_family.result) many in
          let now = c.lease_one.ensures.leases config mid f.0 f.1 former.0 (free_left (pair_count config) taken v.free free) f.2 in
          let more : fronts_for config v (take (k + 1) legs) ≡ taken ++ f.0 ∷ [] =
          ap (fronts_for config v) here.2
          ∙ front_after config v (take k legs) here.0 f.0 f.1 (once_free (pair_count config) v.free free) (ap (pairs_of_family config mid.free) here.3 ∙ f.2) in (
            subst (λ pairs. BoardMatches config c.lease_one.new.self (with_leases v pairs)) (sym more) (one_more_leased config c.lease_one.new.self v taken f.0 now.0),
            ap (λ (those : LeaseList). those.list) now.1
                ∙ one_more_lease config v taken c.pair_family.result f.0 f.1 c.loop-index.leases.list f.2 former.1
                ∙ ap (leases_at config v) (sym more),
          );
      plan = inv.plan;
      enough = others_have (free_pairs c.loop-index.self.pool) (free_pairs c.lease_one.new.self.pool) (drop k legs) (drop (k + 1) legs) here.0 c.pair_family.result inv.enough here.1 here.3
          c.lease_one.ensures.left;
      count = omega (arith, c.lease_one.ensures.longer, inv.count);
      calls = record { calls_are = c.lease_one.ensures.calls.calls_are ∙ inv.calls.calls_are; begun_is = c.lease_one.ensures.calls.begun_is ∙ inv.calls.begun_is };
      replies = c.lease_one.ensures.replies ∙ inv.replies;
      room = c.lease_one.ensures.room ∙ inv.room;
      shape =
          let front = c.lease_one.ensures.front in
          let mid = c.loop-index.self.pool in
          let now = c.lease_one.new.self.pool in
          subst (λ (ls : List NewLeg). LeasesLegs c.args.self.now.pool ls c.lease_one.new.leases.list now) (sym here.2)
          (subst (λ (those : List Lease). LeasesLegs c.args.self.now.pool (take k legs ++ here.0 ∷ []) those now) (ap (λ (those : LeaseList). those.list) (sym front.2))
          (one_leg_more c.args.self.now.pool mid now (take k legs) c.loop-index.leases.list here.0 front.0 inv.shape
          (subst (λ (f : Family). LeasesFront mid f (free_pairs mid f) (Some front.0) now) (sym here.3) front.1)));
      rest = c.lease_one.ensures.shape ∙ ap (with_pool c.lease_one.new.self.pool) inv.rest;
      rises = λ pair. let a = c.lease_one.ensures.rises pair in let b = inv.rises pair in omega (arith, a, b);
    }

take_all : (n : ℕ) (legs : List NewLeg) → n ≡ length legs → take n legs ≡ legs
take_all n legs is = ap (λ k. take k legs) is ∙ take_whole legs
  where
    take_whole : (legs : List NewLeg) → take (length legs) legs ≡ legs
    take_whole [] = refl
    take_whole (leg ∷ legs) = ap (λ more. leg ∷ more) (take_whole legs)

pub returns-clause-leases : goal.returns-clause-leases
returns-clause-leases c = λ config v s free.
    let legs = legs_demanded c.args.plan.now.plan in
    let count : length legs ≡ pairs_demanded c.args.plan.now.plan = length-map c.args.plan.now.plan.legs.items leg_asked in
    let all : c.loop-index.index ≡ length legs = omega (arith, c.loop-index-test.false, c.loop-index.auto.index-end, c.pairs-index-end.ensures.count, count) in
    let done = c.loop-index.invariant.leases config v s free in
    let whole = take_all c.loop-index.index legs all in (
      subst (λ ls. BoardMatches config c.loop-index.self (with_leases v (fronts_for config v ls))) whole done.0,
      done.1 ∙ ap (λ ls. leases_at config v (fronts_for config v ls)) whole,
    )

pub returns-clause-shape : goal.returns-clause-shape
returns-clause-shape c =
    let legs = legs_demanded c.args.plan.now.plan in
    let count : length legs ≡ pairs_demanded c.args.plan.now.plan = length-map c.args.plan.now.plan.legs.items leg_asked in
    let all : c.loop-index.index ≡ length legs = omega (arith, c.loop-index-test.false, c.loop-index.auto.index-end, c.pairs-index-end.ensures.count, count) in record {
      leases_are = subst (λ (ls : List NewLeg). LeasesLegs c.args.self.now.pool ls c.loop-index.leases.list c.loop-index.self.pool) (take_all c.loop-index.index legs all)
          c.loop-index.invariant.shape;
      shape_is = c.loop-index.invariant.rest;
    }
