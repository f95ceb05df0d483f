-- Leases and returns of a board's pool, one after the other.
use Rattle.std.proofs.Common.{◌≡◌, ◌∙◌, refl, ap, sym, subst, ℕ, suc, cond, length, List, [], ◌∷◌, ◌++◌, Some, append_assoc, append-nil}
use Rattle.std.proofs.lemmas.List.Elements.{filter-append}
use Rattle.relay_outside.specs.declared.address.Family.{Family}
use Rattle.relay_outside.specs.declared.address.Family.TheVariants.{V4, V6}
use Rattle.port_pool.specs.Ports.{family_eq}
use Rattle.port_pool.specs.Pools.{Pairs, free_pairs, family_in, with_free, after_return}
use Rattle.port_pool.specs.Leases.{LeasesFront}
use Rattle.port_pool.specs.declared.pairs.Lease.{Lease}
use Rattle.offer_answer.specs.Rounds.{NewLeg}
use Rattle.call_board.specs.Shapes.{LeasesLegs, pairs_returned, after_returns}

pub no_leg_leased : (pool : Pairs) (leases : List Lease) → leases ≡ [] → LeasesLegs pool [] leases pool
no_leg_leased pool leases none = subst (λ (those : List Lease). LeasesLegs pool [] those pool) (sym none) refl

-- one leg more gets a lease
pub one_leg_more : (old middle new : Pairs) (legs : List NewLeg) (leases : List Lease) (leg : NewLeg) (lease : Lease) → LeasesLegs old legs leases middle →
    LeasesFront middle leg.family (free_pairs middle leg.family) (Some lease) new → LeasesLegs old (legs ++ leg ∷ []) (leases ++ lease ∷ []) new
one_leg_more old middle new [] [] leg lease former front =
    (new, subst (λ (pool : Pairs). LeasesFront pool leg.family (free_pairs pool leg.family) (Some lease) new) former front, refl)
one_leg_more old middle new [] (one ∷ leases) leg lease former front = elim former [ ]
one_leg_more old middle new (other ∷ legs) [] leg lease former front = elim former [ ]
one_leg_more old middle new (other ∷ legs) (one ∷ leases) leg lease former front =
    (former.0, former.1, one_leg_more former.0 middle new legs leases leg lease former.2 front)

-- the leases are as many as the legs
pub as_many : (old new : Pairs) (legs : List NewLeg) (leases : List Lease) → LeasesLegs old legs leases new → length leases ≡ length legs
as_many old new [] [] leased = refl
as_many old new [] (lease ∷ leases) leased = elim leased [ ]
as_many old new (leg ∷ legs) [] leased = elim leased [ ]
as_many old new (leg ∷ legs) (lease ∷ leases) leased = ap suc (as_many leased.0 new legs leases leased.2)

pub none_back : (pool : Pairs) → pool ≡ after_returns pool []
none_back pool = λ i. record {
  first_port = pool.first_port;
  per_family = pool.per_family;
  free4 = sym (append-nil pool.free4) i;
  free6 = sym (append-nil pool.free6) i;
  generations = pool.generations;
}

-- those of a family, with one more that is or isn't of it
one_more_of : (pool : Pairs) (pairs : List ℕ) (pair : ℕ) (family of : Family) (queue : List ℕ) → family_in pool pair ≡ of →
    (queue ++ pairs_returned pool pairs family) ++ cond (family_eq of family) (pair ∷ []) [] ≡ queue ++ pairs_returned pool (pairs ++ pair ∷ []) family
one_more_of pool pairs pair family of queue is =
    append_assoc queue (pairs_returned pool pairs family) (cond (family_eq of family) (pair ∷ []) [])
    ∙ ap (λ (more : List ℕ). queue ++ more) (
    ap (λ (f : Family). pairs_returned pool pairs family ++ cond (family_eq f family) (pair ∷ []) []) (sym is)
    ∙ sym (filter-append (λ (p : ℕ). family_eq (family_in pool p) family) pairs (pair ∷ [])))

-- one pair more comes back
pub one_more_back : (pool : Pairs) (pairs : List ℕ) (pair : ℕ) → after_return (after_returns pool pairs) pair ≡ after_returns pool (pairs ++ pair ∷ [])
one_more_back pool pairs pair = go (family_in pool pair) refl
  where
    go : (family : Family) → family_in pool pair ≡ family →
        with_free (after_returns pool pairs) family (free_pairs (after_returns pool pairs) family ++ pair ∷ []) ≡ after_returns pool (pairs ++ pair ∷ [])
    go V4 is = λ i. record {
      first_port = pool.first_port;
      per_family = pool.per_family;
      free4 = one_more_of pool pairs pair V4 V4 pool.free4 is i;
      free6 = (sym (append-nil (pool.free6 ++ pairs_returned pool pairs V6)) ∙ one_more_of pool pairs pair V6 V4 pool.free6 is) i;
      generations = pool.generations;
    }
    go V6 is = λ i. record {
      first_port = pool.first_port;
      per_family = pool.per_family;
      free4 = (sym (append-nil (pool.free4 ++ pairs_returned pool pairs V4)) ∙ one_more_of pool pairs pair V4 V6 pool.free4 is) i;
      free6 = one_more_of pool pairs pair V6 V6 pool.free6 is i;
      generations = pool.generations;
    }
