-- The live call with a number, and legs with the leases that a board made.
use Rattle.std.proofs.Common.{◌≡◌, ◌∙◌, refl, sym, ap, subst, ℕ, ◌+◌, Bool, true, false, cond, ◌==◌, List, [], ◌∷◌, filter, Some}
use Rattle.std.specs.List.{AllZip}
use Rattle.relay_outside.specs.declared.settings.Config.{Config}
use Rattle.relay_outside.specs.declared.address.Family.{Family}
use Rattle.histories.specs.Words.{first}
use Rattle.histories.proofs.Lists.{equal_if}
use Rattle.port_pool.specs.declared.holder.Holder.{Holder}
use Rattle.port_pool.specs.declared.pairs.Lease.{Lease}
use Rattle.port_pool.specs.Pools.{Pairs, generation, free_pairs, after_lease}
use Rattle.port_pool.specs.Leases.{lease_of, LeasesFront}
use Rattle.offer_answer.specs.Rounds.{NewLeg}
use Rattle.call_board.specs.Returns.{leg_lease}
use Rattle.call_shapes.specs.WholeRelay.{PoolHolds}
use Rattle.offer_answer.specs.Shapes.{DialogShape}
use Rattle.call_board.specs.Shapes.{LiveShape, with_dialog_of, without_live, LeasesLegs}
use Rattle.call_shapes.specs.Turns.{PlaceOfNumber, HoldsBy, LegsLeased}

some_is : {A : Type 0} (a b : A) → Some a ≡ Some b → a ≡ b
some_is a b e = cc

found_later : (number : ℕ) (dialog : DialogShape) (other : LiveShape) (calls : List LiveShape) (call : LiveShape) → (other.number == number) ≡ false → PlaceOfNumber number dialog calls call
    → PlaceOfNumber number dialog (other ∷ calls) call
found_later number dialog other calls call differs is = record {
  number_is = is.number_is;
  front = other ∷ is.front;
  back = is.back;
  calls_are = ap (λ (l : List LiveShape). other ∷ l) is.calls_are;
  changed = ap (λ b. cond b (record other { dialog = dialog } ∷ calls) (other ∷ with_dialog_of number dialog calls)) differs ∙ ap (λ (l : List LiveShape). other ∷ l) is.changed;
  without = ap (λ b. cond b calls (other ∷ without_live number calls)) differs ∙ ap (λ (l : List LiveShape). other ∷ l) is.without;
}

found_here : (number : ℕ) (dialog : DialogShape) (call : LiveShape) (calls : List LiveShape) → (call.number == number) ≡ true → PlaceOfNumber number dialog (call ∷ calls) call
found_here number dialog call calls is = record {
  number_is = equal_if call.number number is;
  front = [];
  back = calls;
  calls_are = refl;
  changed = ap (λ b. cond b (record call { dialog = dialog } ∷ calls) (call ∷ with_dialog_of number dialog calls)) is;
  without = ap (λ b. cond b calls (call ∷ without_live number calls)) is;
}

numbered_by : (number : ℕ) (dialog : DialogShape) (other : LiveShape) (calls : List LiveShape) (call : LiveShape)
    → (first (filter (λ (c : LiveShape). c.number == number) calls) ≡ Some call → PlaceOfNumber number dialog calls call) → (b : Bool) → (other.number == number) ≡ b
    → first (cond b (other ∷ filter (λ (c : LiveShape). c.number == number) calls) (filter (λ (c : LiveShape). c.number == number) calls)) ≡ Some call
    → PlaceOfNumber number dialog (other ∷ calls) call
numbered_by number dialog other calls call rest true is found =
    subst (PlaceOfNumber number dialog (other ∷ calls)) (some_is other call found) (found_here number dialog other calls is)
numbered_by number dialog other calls call rest false is found = found_later number dialog other calls call is (rest found)

pub numbered : (number : ℕ) (dialog : DialogShape) (calls : List LiveShape) (call : LiveShape)
    → first (filter (λ (c : LiveShape). c.number == number) calls) ≡ Some call → PlaceOfNumber number dialog calls call
numbered number dialog [] call found = absurd (let e = found in cc)
numbered number dialog (other ∷ calls) call found =
    numbered_by number dialog other calls call (numbered number dialog calls call) (other.number == number) refl found

-- Leases.

pub record FrontLeased (old next : Pairs) (family : Family) (leg : Holder) (lease : Lease) : Type 0 where
  pub rest : List ℕ
  pub front : free_pairs old family ≡ leg.pair ∷ rest
  pub generation_is : leg.generation ≡ generation old leg.pair + 1
  pub lease_is : lease ≡ lease_of old leg.pair
  pub next_is : next ≡ after_lease old family leg.pair rest

pub front_leased : (old next : Pairs) (family : Family) (free : List ℕ) (leg : Holder) (lease : Lease) → free_pairs old family ≡ free → LeasesFront old family free (Some lease) next
    → HoldsBy leg lease → FrontLeased old next family leg lease
front_leased old next family [] leg lease is given by = absurd (let e = given.0 in cc)
front_leased old next family (pair ∷ rest) leg lease is given by =
    let lease_is = some_is lease (lease_of old pair) given.0 in
    let pair_is : leg.pair ≡ pair = by.pair_is ∙ ap (λ (l : Lease). l.pair) lease_is in
    record {
      rest = rest;
      front = is ∙ ap (λ p. p ∷ rest) (sym pair_is);
      generation_is = by.generation_is ∙ ap (λ (l : Lease). l.generation) lease_is ∙ ap (λ p. generation old p + 1) (sym pair_is);
      lease_is = lease_is ∙ ap (lease_of old) (sym pair_is);
      next_is = given.1 ∙ ap (λ p. after_lease old family p rest) (sym pair_is);
    }

-- legs that hold their pairs by the leases that a board made for an offer
pub legs_leased : (old new : Pairs) (legs : List NewLeg) (leases : List Lease) (came : List Holder) → LeasesLegs old legs leases new → AllZip HoldsBy came leases → LegsLeased old came new
legs_leased old new [] [] [] leased by = leased
legs_leased old new [] [] (leg ∷ came) leased by = absurd by
legs_leased old new [] (lease ∷ leases) came leased by = absurd leased
legs_leased old new (asked ∷ legs) [] came leased by = absurd leased
legs_leased old new (asked ∷ legs) (lease ∷ leases) [] leased by = absurd by
legs_leased old new (asked ∷ legs) (lease ∷ leases) (leg ∷ came) (next, first_, more) by =
    let front = front_leased old next asked.family (free_pairs old asked.family) leg lease refl first_ by.0 in (
      asked.family,
      front.rest,
      front.front,
      front.generation_is,
      legs_leased (after_lease old asked.family leg.pair front.rest) new legs leases came (subst (λ (p : Pairs). LeasesLegs p legs leases new) front.next_is more) by.1,
    )

-- the next lease of a pair is the one by which the leg holds it
pub lease_follows : (config : Config) (pool : Pairs) (held : List Holder) (leg : Holder) → PoolHolds config pool held → leg.generation ≡ generation pool leg.pair + 1
    → lease_of pool leg.pair ≡ leg_lease config leg
lease_follows config pool held leg h next = let first_is = h.first_is in let per_is = h.per_is in simp (first_is, per_is, next)
