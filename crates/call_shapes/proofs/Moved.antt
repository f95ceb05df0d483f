-- What comes and goes among the legs, and what it makes of the pool and of the boxes.
use Rattle.std.proofs.Common.{◌≡◌, ◌∙◌, refl, sym, ap, subst, ℕ, ◌+◌, ◌<◌, ◌≤◌, ◌⊎◌, inl, inr, Bool, true, false, not, List, ◌++◌, filter, Option, Some, arith}
use Rattle.relay_outside.specs.declared.settings.Config.{Config}
use Rattle.histories.specs.Words.{In, has}
use Rattle.histories.proofs.Lists.{in_append, in_left, in_right, filtered}
use Rattle.port_pool.specs.declared.holder.Holder.{Holder}
use Rattle.port_pool.specs.Ports.{pair_count}
use Rattle.port_pool.specs.Pools.{Pairs}
use Rattle.call_shapes.specs.WholeRelay.{PoolHolds, holder_among}
use Rattle.call_shapes.specs.Turns.{pairs_held, LegsLeased, PoolMoves, LegsMove, BoxesMove}
use Rattle.call_shapes.proofs.Times.{times, times_parts, none_times, some_times}
use Rattle.call_shapes.proofs.Holders.{leg_with, found_among, none_among, same_leg}
use Rattle.call_shapes.proofs.Pools.{once_times, reordered, pairs_times, leases_hold, come_back}

-- the new legs and those that went are the old ones and those that came
pub record Moved (came gone old new : List Holder) : Type 0 where
  pub from : (leg : Holder) → In leg new → In leg (came ++ old)
  pub went : (leg : Holder) → In leg gone → In leg (came ++ old)
  pub counts : (pair : ℕ) → times pair (pairs_held gone) + times pair (pairs_held new) ≡ times pair (pairs_held came) + times pair (pairs_held old)

stays_by : (leg : Holder) (p : Holder → Bool) (came old : List Holder) → In leg (filter p old) ⊎ In leg came → In leg (came ++ old)
stays_by leg p came old (inl i) = in_right came old (filtered p old i).0
stays_by leg p came old (inr i) = in_left came old i

pub legs_moved : (goes : Holder → Bool) (came gone old new : List Holder) → LegsMove goes came gone old new → Moved came gone old new
legs_moved goes came gone old new m =
    let stay = λ (leg : Holder). not (goes leg) in
    record {
      from = λ leg i. stays_by leg stay came old (in_append (filter stay old) came (subst (λ (l : List Holder). In leg l) m.stay i));
      went = λ leg i. in_right came old (filtered goes old (subst (λ (l : List Holder). In leg l) m.went i)).0;
      counts = λ pair.
          (let parts = times_parts (λ (leg : Holder). leg.pair) pair goes old in
          let stayed = ap (λ (l : List Holder). times pair (pairs_held l)) m.stay ∙ pairs_times pair (filter stay old) came in
          let left = ap (λ (l : List Holder). times pair (pairs_held l)) m.went in
          omega (arith, parts, stayed, left));
    }

around_by : (leg : Holder) (came front old back : List Holder) → In leg came ⊎ In leg old → In leg (came ++ (front ++ (old ++ back)))
around_by leg came front old back (inl i) = in_left came (front ++ (old ++ back)) i
around_by leg came front old back (inr i) = in_right came (front ++ (old ++ back)) (in_right front (old ++ back) (in_left old back i))

middle_by : (leg : Holder) (came front old new back : List Holder) → (In leg new → In leg (came ++ old)) → In leg new ⊎ In leg back → In leg (came ++ (front ++ (old ++ back)))
middle_by leg came front old new back from (inl i) = around_by leg came front old back (in_append came old (from i))
middle_by leg came front old new back from (inr i) = in_right came (front ++ (old ++ back)) (in_right front (old ++ back) (in_right old back i))

whole_by : (leg : Holder) (came front old new back : List Holder) → (In leg new → In leg (came ++ old)) → In leg front ⊎ In leg (new ++ back) → In leg (came ++ (front ++ (old ++ back)))
whole_by leg came front old new back from (inl i) = in_right came (front ++ (old ++ back)) (in_left front (old ++ back) i)
whole_by leg came front old new back from (inr i) = middle_by leg came front old new back from (in_append new back i)

-- the same with others around them
pub moved_around : (front back came gone old new : List Holder) → Moved came gone old new → Moved came gone (front ++ (old ++ back)) (front ++ (new ++ back))
moved_around front back came gone old new m = record {
  from = λ leg i. whole_by leg came front old new back (m.from leg) (in_append front (new ++ back) i);
  went = λ leg i. around_by leg came front old back (in_append came old (m.went leg i));
  counts = λ pair.
      (let a = pairs_times pair front (old ++ back) in let b = pairs_times pair old back in
      let c = pairs_times pair front (new ++ back) in let d = pairs_times pair new back in
      let here_ = m.counts pair in omega (arith, a, b, c, d, here_));
}

joined_by : (leg : Holder) (came gone old new : List Holder) → Moved came gone old new → In leg gone ⊎ In leg new → In leg (came ++ old)
joined_by leg came gone old new m (inl i) = m.went leg i
joined_by leg came gone old new m (inr i) = m.from leg i

-- between the leases and the returns the pool holds for all of them
pub holds_between : (config : Config) (pool between : Pairs) (came gone old new : List Holder) → PoolHolds config pool old → LegsLeased pool came between
    → Moved came gone old new → PoolHolds config between (gone ++ new)
holds_between config pool between came gone old new h leases m =
    reordered config between (came ++ old) (gone ++ new) (leases_hold config pool between came old h leases)
    (λ leg i. joined_by leg came gone old new m (in_append gone new i))
    (λ pair. (let a = pairs_times pair gone new in let b = pairs_times pair came old in let c = m.counts pair in omega (arith, a, b, c)))

pub moved_pool : (config : Config) (pool after : Pairs) (came gone old new : List Holder) → PoolHolds config pool old → PoolMoves came gone pool after
    → Moved came gone old new → PoolHolds config after new
moved_pool config pool after came gone old new h moves m =
    subst (λ (p : Pairs). PoolHolds config p new) (sym moves.returns)
    (come_back config moves.between gone new (holds_between config pool moves.between came gone old new h moves.leases m))

-- The boxes.

-- no pair is held twice, with those that came
pub once_held : (config : Config) (pool between : Pairs) (came old : List Holder) → PoolHolds config pool old → LegsLeased pool came between
    → (pair : ℕ) → pair < pair_count config → times pair (pairs_held (came ++ old)) ≤ 1
once_held config pool between came old h leases pair below =
    let all = once_times config between (came ++ old) (leases_hold config pool between came old h leases) pair below in omega (arith, all)

box_stays : (pair : ℕ) (came old new : List Holder) (now : Option Holder) → ((leg : Holder) → In leg new → In leg (came ++ old)) → times pair (pairs_held (came ++ old)) ≤ 1
    → times pair (pairs_held came) ≡ 0 → times pair (pairs_held new) ≡ times pair (pairs_held old) → now ≡ holder_among old pair → now ≡ holder_among new pair
box_stays pair came old new now from most none same was = by (has (pairs_held old) pair) refl
  where
    by : (b : Bool) → has (pairs_held old) pair ≡ b → now ≡ holder_among new pair
    by false is =
        let zero_ = none_times pair (pairs_held old) is in
        was ∙ none_among pair old zero_ ∙ sym (none_among pair new (same ∙ zero_))
    by true is =
        let some = some_times pair (pairs_held old) is in
        let one = pairs_times pair came old in
        let new_leg = leg_with pair new (omega (arith, some, same)) in
        let old_leg = leg_with pair old some in
        let equal_ = same_leg pair (came ++ old) new_leg.leg old_leg.leg (from new_leg.leg new_leg.is_in) (in_right came old old_leg.is_in) new_leg.pair_is old_leg.pair_is most in
        was ∙ found_among pair old old_leg.leg old_leg.is_in old_leg.pair_is (omega (arith, one, most))
        ∙ ap Some (sym equal_) ∙ sym (found_among pair new new_leg.leg new_leg.is_in new_leg.pair_is (omega (arith, one, most, same)))

box_by : (pair : ℕ) (came gone old new : List Holder) (was now : ℕ → Option Holder) → Moved came gone old new → BoxesMove came gone was now
    → times pair (pairs_held (came ++ old)) ≤ 1 → was pair ≡ holder_among old pair
    → (g c : Bool) → has (pairs_held gone) pair ≡ g → has (pairs_held came) pair ≡ c → now pair ≡ holder_among new pair
box_by pair came gone old new was now m boxes most held true c g_is c_is =
    let some = some_times pair (pairs_held gone) g_is in
    let leg = leg_with pair gone some in
    let counts = m.counts pair in
    let all = pairs_times pair came old in
    ap now (sym leg.pair_is) ∙ boxes.shut leg.leg leg.is_in ∙ sym (none_among pair new (omega (arith, some, counts, all, most)))
box_by pair came gone old new was now m boxes most held false true g_is c_is =
    let none = none_times pair (pairs_held gone) g_is in
    let some = some_times pair (pairs_held came) c_is in
    let leg = leg_with pair came some in
    let counts = m.counts pair in
    let all = pairs_times pair came old in
    let kept = leg_with pair new (omega (arith, some, counts, none)) in
    let same = same_leg pair (came ++ old) kept.leg leg.leg (m.from kept.leg kept.is_in) (in_left came old leg.is_in) kept.pair_is leg.pair_is most in
    ap now (sym leg.pair_is) ∙ boxes.opened leg.leg leg.is_in ∙ ap Some (sym same)
    ∙ sym (found_among pair new kept.leg kept.is_in kept.pair_is (omega (arith, counts, all, most, none)))
box_by pair came gone old new was now m boxes most held false false g_is c_is =
    let went = none_times pair (pairs_held gone) g_is in
    let none = none_times pair (pairs_held came) c_is in
    let counts = m.counts pair in
    box_stays pair came old new (now pair) m.from most none (omega (arith, went, none, counts)) (boxes.others pair c_is g_is ∙ held)

pub moved_boxes : (config : Config) (pool after : Pairs) (came gone old new : List Holder) (was now : ℕ → Option Holder) → PoolHolds config pool old
    → PoolMoves came gone pool after → Moved came gone old new → BoxesMove came gone was now
    → ((pair : ℕ) → pair < pair_count config → was pair ≡ holder_among old pair)
    → (pair : ℕ) → pair < pair_count config → now pair ≡ holder_among new pair
moved_boxes config pool after came gone old new was now h moves m boxes held pair below =
    box_by pair came gone old new was now m boxes (once_held config pool moves.between came old h moves.leases pair below) (held pair below)
    (has (pairs_held gone) pair) (has (pairs_held came) pair) refl refl
