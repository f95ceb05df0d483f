-- The leg that holds a pair, among legs of which no two have one pair.
use Rattle.std.proofs.Common.{◌≡◌, ◌∙◌, refl, sym, ap, subst, ℕ, ◌+◌, ◌≤◌, Bool, true, false, cond, List, [], ◌∷◌, filter, Option, Some, None, ◌==◌, arith}
use Rattle.histories.specs.Words.{In, here, there, first}
use Rattle.histories.proofs.Lists.{equal, maps, mapped}
use Rattle.port_pool.specs.declared.holder.Holder.{Holder}
use Rattle.call_shapes.specs.WholeRelay.{holder_among}
use Rattle.call_shapes.specs.Turns.{pairs_held}
use Rattle.call_shapes.proofs.Times.{times, one_if, stands, stands_in}

-- the pair of a leg stands in the pairs
pub leg_stands : (pair : ℕ) (legs : List Holder) (leg : Holder) → In leg legs → leg.pair ≡ pair → 1 ≤ times pair (pairs_held legs)
leg_stands pair legs leg i is = subst (λ p. 1 ≤ times p (pairs_held legs)) is (stands leg.pair (pairs_held legs) (maps (λ (l : Holder). l.pair) legs i))

-- a leg with this pair
pub record WithPair (pair : ℕ) (legs : List Holder) : Type 0 where
  pub leg : Holder
  pub is_in : In leg legs
  pub pair_is : leg.pair ≡ pair

pub leg_with : (pair : ℕ) (legs : List Holder) → 1 ≤ times pair (pairs_held legs) → WithPair pair legs
leg_with pair legs h = let m = mapped (λ (l : Holder). l.pair) legs (stands_in pair (pairs_held legs) h) in record { leg = m.from; is_in = m.is_in; pair_is = m.makes }

abbrev has_pair : ℕ → Holder → Bool
has_pair pair leg = leg.pair == pair

found_here : (pair : ℕ) (leg x : Holder) (rest : List Holder) → leg ≡ x → leg.pair ≡ pair → (b : Bool) → (x.pair == pair) ≡ b → first (cond b (x ∷ rest) rest) ≡ Some leg
found_here pair leg x rest e is true t = ap Some (sym e)
found_here pair leg x rest e is false t =
    absurd (let yes = equal x.pair pair (sym (ap (λ (l : Holder). l.pair) e) ∙ is) in let wrong : true ≡ false = sym yes ∙ t in cc)

found_later : (pair : ℕ) (leg x : Holder) (xs : List Holder) → In leg xs → leg.pair ≡ pair → (b : Bool) → one_if b + times pair (pairs_held xs) ≤ 1
    → (times pair (pairs_held xs) ≤ 1 → first (filter (has_pair pair) xs) ≡ Some leg) → first (cond b (x ∷ filter (has_pair pair) xs) (filter (has_pair pair) xs)) ≡ Some leg
found_later pair leg x xs i is true most rest = absurd (let at = leg_stands pair xs leg i is in omega (arith, at, most))
found_later pair leg x xs i is false most rest = rest (omega (arith, most))

pub found_among : (pair : ℕ) (legs : List Holder) (leg : Holder) → In leg legs → leg.pair ≡ pair → times pair (pairs_held legs) ≤ 1 → holder_among legs pair ≡ Some leg
found_among pair [] leg i is most = elim i [ ]
found_among pair (x ∷ xs) leg (here e) is most = found_here pair leg x (filter (has_pair pair) xs) e is (x.pair == pair) refl
found_among pair (x ∷ xs) leg (there i) is most =
    found_later pair leg x xs i is (x.pair == pair) most (found_among pair xs leg i is)

none_case : (pair : ℕ) (x : Holder) (xs : List Holder) → (times pair (pairs_held xs) ≡ 0 → first (filter (has_pair pair) xs) ≡ None) → (b : Bool)
    → one_if b + times pair (pairs_held xs) ≡ 0 → first (cond b (x ∷ filter (has_pair pair) xs) (filter (has_pair pair) xs)) ≡ None
none_case pair x xs rest true h = absurd (omega (arith, h))
none_case pair x xs rest false h = rest (omega (arith, h))

pub none_among : (pair : ℕ) (legs : List Holder) → times pair (pairs_held legs) ≡ 0 → holder_among legs pair ≡ None
none_among pair [] h = refl
none_among pair (x ∷ xs) h = none_case pair x xs (none_among pair xs) (x.pair == pair) h

some_is : (a b : Holder) (o : Option Holder) → o ≡ Some a → o ≡ Some b → a ≡ b
some_is a b o e f = cc

-- two of them with one pair are one
pub same_leg : (pair : ℕ) (legs : List Holder) (a b : Holder) → In a legs → In b legs → a.pair ≡ pair → b.pair ≡ pair → times pair (pairs_held legs) ≤ 1 → a ≡ b
same_leg pair legs a b i j e f most =
    some_is a b (holder_among legs pair) (found_among pair legs a i e most) (found_among pair legs b j f most)
