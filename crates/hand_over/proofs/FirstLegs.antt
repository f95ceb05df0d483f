-- The first leg of a cell that has its ends, and what the closing of its ports leaves to be closed.
use Rattle.std.proofs.Common.{◌≡◌, ◌∙◌, sym, ap, subst, refl, ◌<◌, ℕ, Bool, true, false, cond, ◌⊎◌, inl, inr, List, [], ◌∷◌, ◌++◌, length, Option, Some, None, arith}
use Rattle.std.specs.Prelude.{is_some}
use Rattle.std.proofs.lemmas.Grind.{flat_map-append}
use Rattle.std.proofs.lemmas.List.Elements.{filter-append}
use Rattle.relay_outside.specs.declared.address.Addr.{Addr}
use Rattle.relay_outside.specs.declared.ports.InCall.{InCall}
use Rattle.relay_outside.specs.declared.ports.OutCall.{OutCall}
use Rattle.relay_outside.specs.declared.ports.PortCall.{PortCall}
use Rattle.relay_outside.specs.declared.settings.Config.{Config}
use Rattle.relay_outside.specs.DeviceLogs.{EndLog}
use Rattle.histories.specs.Words.{In, here, there, or_else, has}
use Rattle.histories.proofs.Lists.{in_right, it_has, maps}
use Rattle.port_pool.specs.Pools.{AreFree}
use Rattle.call_cell.specs.declared.leg.Leg.{Leg}
use Rattle.call_cell.specs.TakenEnds.{leased_address, ends_by_address, without_ends, first_ends, without_first}
use Rattle.relay_core.specs.declared.part.Part.{Part}
use Rattle.hand_over.specs.Closings.{box_ends_at, pair_closings, leg_closings, cell_closings}
use Rattle.hand_over.specs.ClosingSteps.{pairs_of_legs, legs_with_ends}

twice : (b : Bool) → b ≡ true → b ≡ false → ⊥
twice b h n = absurd (let f = sym h ∙ n in cc)

module _ {O : Type 0} where
  -- the first leg with ends, with those before it and behind it
  pub record IsFirstLeg (config : Config) (those : List (Leg O)) (at : Addr) (a b : O) : Type 0 where
    pub leg : Leg O
    pub front : List (Leg O)
    pub back : List (Leg O)
    pub legs_are : those ≡ front ++ leg ∷ back
    pub after_are : without_first those ≡ front ++ without_ends leg ∷ back
    pub none : legs_with_ends front ≡ []
    pub ends_are : leg.sending.ends ≡ Some (a, b)
    pub at_is : at ≡ leased_address config leg.lease

  same_at : (at from : Addr) (ends : O × O) (a b : O) → ends_by_address from (Some ends) ≡ Some (at, a, b) → (Some ends ≡ Some (a, b)) × (at ≡ from)
  same_at at from ends a b is =
      let e : (from, ends.0, ends.1) ≡ (at, a, b) = cc in
      (ap (λ (t : Addr × O × O). Some (t.1, t.2)) e, sym (ap (λ (t : Addr × O × O). t.0) e))

  pub first_leg : (config : Config) (those : List (Leg O)) (at : Addr) (a b : O) → first_ends config those ≡ Some (at, a, b) → IsFirstLeg config those at a b
  first_leg config [] at a b e = absurd (let q = e in cc)
  first_leg config (leg ∷ legs) at a b e = by leg.sending.ends refl e (λ q. first_leg config legs at a b q)
    where
      by : (o : Option (O × O)) → leg.sending.ends ≡ o → or_else (ends_by_address (leased_address config leg.lease) o) (first_ends config legs) ≡ Some (at, a, b)
          → (first_ends config legs ≡ Some (at, a, b) → IsFirstLeg config legs at a b) → IsFirstLeg config (leg ∷ legs) at a b
      by (Some ends) is q rest =
          let same = same_at at (leased_address config leg.lease) ends a b q in
          record {
            leg = leg;
            front = [];
            back = legs;
            legs_are = refl;
            after_are = ap (λ (o : Option (O × O)). cond (is_some o) (without_ends leg ∷ legs) (leg ∷ without_first legs)) is;
            none = refl;
            ends_are = is ∙ same.0;
            at_is = same.1;
          }
      by None is q rest =
          let more = rest q in
          record {
            leg = more.leg;
            front = leg ∷ more.front;
            back = more.back;
            legs_are = ap (λ (l : List (Leg O)). leg ∷ l) more.legs_are;
            after_are = ap (λ (o : Option (O × O)). cond (is_some o) (without_ends leg ∷ legs) (leg ∷ without_first legs)) is ∙ ap (λ (l : List (Leg O)). leg ∷ l) more.after_are;
            none = ap (λ (o : Option (O × O)). cond (is_some o) (leg ∷ legs_with_ends more.front) (legs_with_ends more.front)) is ∙ more.none;
            ends_are = more.ends_are;
            at_is = more.at_is;
          }

  -- where no leg has any, none changes
  pub no_first : (config : Config) (those : List (Leg O)) → first_ends config those ≡ None → (without_first those ≡ those) × (legs_with_ends those ≡ [])
  no_first config [] e = (refl, refl)
  no_first config (leg ∷ legs) e = by leg.sending.ends refl e (λ q. no_first config legs q)
    where
      by : (o : Option (O × O)) → leg.sending.ends ≡ o → or_else (ends_by_address (leased_address config leg.lease) o) (first_ends config legs) ≡ None
          → (first_ends config legs ≡ None → (without_first legs ≡ legs) × (legs_with_ends legs ≡ [])) → (without_first (leg ∷ legs) ≡ leg ∷ legs) × (legs_with_ends (leg ∷ legs) ≡ [])
      by (Some ends) is q rest = absurd (let h = q in cc)
      by None is q rest =
          let more = rest q in (
            ap (λ (o : Option (O × O)). cond (is_some o) (without_ends leg ∷ legs) (leg ∷ without_first legs)) is ∙ ap (λ (l : List (Leg O)). leg ∷ l) more.0,
            ap (λ (o : Option (O × O)). cond (is_some o) (leg ∷ legs_with_ends legs) (legs_with_ends legs)) is ∙ more.1,
          )

  pub unended : (leg : Leg O) (legs : List (Leg O)) → legs_with_ends (leg ∷ legs) ≡ [] → (leg.sending.ends ≡ None) × (legs_with_ends legs ≡ [])
  unended leg legs e = by leg.sending.ends refl e
    where
      by : (o : Option (O × O)) → leg.sending.ends ≡ o → cond (is_some o) (leg ∷ legs_with_ends legs) (legs_with_ends legs) ≡ [] → (leg.sending.ends ≡ None) × (legs_with_ends legs ≡ [])
      by None is h = (is, h)
      by (Some ends) is h = absurd (let q = h in cc)

  -- each of the legs has none
  pub all_unended : (those : List (Leg O)) → legs_with_ends those ≡ [] → (leg : Leg O) → In leg those → leg.sending.ends ≡ None
  all_unended [] e leg among = elim among [ ]
  all_unended (x ∷ those) e leg (here same) = ap (λ (l : Leg O). l.sending.ends) same ∙ (unended x those e).0
  all_unended (x ∷ those) e leg (there more) = all_unended those (unended x those e).1 leg more

  ended_first : (leg : Leg O) (legs : List (Leg O)) (ends : O × O) → leg.sending.ends ≡ Some ends → legs_with_ends (leg ∷ legs) ≡ leg ∷ legs_with_ends legs
  ended_first leg legs ends is = ap (λ (o : Option (O × O)). cond (is_some o) (leg ∷ legs_with_ends legs) (legs_with_ends legs)) is

  -- one leg fewer has ends then
  pub one_fewer : (config : Config) (those : List (Leg O)) (at : Addr) (a b : O) → IsFirstLeg config those at a b → length (legs_with_ends (without_first those)) < length (legs_with_ends those)
  one_fewer config those at a b first =
      let p : Leg O → Bool = λ (leg : Leg O). is_some leg.sending.ends in
      let after : legs_with_ends (without_first those) ≡ legs_with_ends first.back =
      ap (λ (l : List (Leg O)). legs_with_ends l) first.after_are ∙ filter-append p first.front (without_ends first.leg ∷ first.back)
      ∙ ap (λ (l : List (Leg O)). l ++ legs_with_ends (without_ends first.leg ∷ first.back)) first.none in
      let before : legs_with_ends those ≡ first.leg ∷ legs_with_ends first.back =
      ap (λ (l : List (Leg O)). legs_with_ends l) first.legs_are ∙ filter-append p first.front (first.leg ∷ first.back)
      ∙ ap (λ (l : List (Leg O)). l ++ legs_with_ends (first.leg ∷ first.back)) first.none ∙ ended_first first.leg first.back (a, b) first.ends_are in
      let x = ap (λ (l : List (Leg O)). length l) after in
      let y = ap (λ (l : List (Leg O)). length l) before in
      omega (arith, x, y)

  has_pair : (those : List (Leg O)) (leg : Leg O) → In leg those → has (pairs_of_legs those) leg.holder.pair ≡ true
  has_pair those leg among = it_has leg.holder.pair (pairs_of_legs those) (maps (λ (l : Leg O). l.holder.pair) those among)

  -- the others have other pairs
  pub other_pairs : (count : ℕ) (front : List (Leg O)) (leg : Leg O) (back : List (Leg O)) → AreFree count (pairs_of_legs (front ++ leg ∷ back)) → (other : Leg O)
      → In other front ⊎ In other back → other.holder.pair ≡ leg.holder.pair → ⊥
  other_pairs count [] leg back free other (inl among) same = elim among [ ]
  other_pairs count [] leg back free other (inr among) same =
      twice (has (pairs_of_legs back) leg.holder.pair) (subst (λ (p : ℕ). has (pairs_of_legs back) p ≡ true) same (has_pair back other among)) free.1
  other_pairs count (x ∷ front) leg back free other (inl (here is)) same =
      let p : x.holder.pair ≡ leg.holder.pair = sym (ap (λ (l : Leg O). l.holder.pair) is) ∙ same in
      twice (has (pairs_of_legs (front ++ leg ∷ back)) x.holder.pair)
      (subst (λ (q : ℕ). has (pairs_of_legs (front ++ leg ∷ back)) q ≡ true) (sym p) (has_pair (front ++ leg ∷ back) leg (in_right front (leg ∷ back) (here refl)))) free.1
  other_pairs count (x ∷ front) leg back free other (inl (there more)) same = other_pairs count front leg back free.2 other (inl more) same
  other_pairs count (x ∷ front) leg back free other (inr among) same = other_pairs count front leg back free.2 other (inr among) same

module _ {I O : Type 0} (taken : I → EndLog InCall) (sent : O → EndLog OutCall) where
  pub none_closed : (config : Config) (parts : List (Part I O)) (those : List (Leg O)) → legs_with_ends those ≡ [] → cell_closings taken sent config parts those ≡ []
  none_closed config parts [] e = refl
  none_closed config parts (leg ∷ legs) e =
      let un = unended leg legs e in
      ap (λ (o : Option (O × O)). pair_closings taken sent config leg.holder.pair o (box_ends_at config parts leg.holder.pair) ++ cell_closings taken sent config parts legs) un.0
      ∙ none_closed config parts legs un.1

  pub same_closings : (config : Config) (new old : List (Part I O)) (those : List (Leg O))
      → ((leg : Leg O) → In leg those → box_ends_at config new leg.holder.pair ≡ box_ends_at config old leg.holder.pair) → cell_closings taken sent config new those ≡ cell_closings taken sent config old those
  same_closings config new old [] same = refl
  same_closings config new old (leg ∷ legs) same =
      ap (λ (i : Option (I × I)). pair_closings taken sent config leg.holder.pair leg.sending.ends i ++ cell_closings taken sent config new legs) (same leg (here refl))
      ∙ ap (λ (cs : List PortCall). leg_closings taken sent config old leg ++ cs) (same_closings config new old legs (λ other among. same other (there among)))

  -- what is left to close is all but the all_closings of the first leg
  pub closed_first : (config : Config) (old new : List (Part I O)) (those : List (Leg O)) (at : Addr) (a b : O) (ins : I × I) (first : IsFirstLeg config those at a b)
      → box_ends_at config old first.leg.holder.pair ≡ Some ins
      → ((leg : Leg O) → In leg first.back → box_ends_at config new leg.holder.pair ≡ box_ends_at config old leg.holder.pair)
      → pair_closings taken sent config first.leg.holder.pair (Some (a, b)) (Some ins) ++ cell_closings taken sent config new (without_first those) ≡ cell_closings taken sent config old those
  closed_first config old new those at a b ins first ins_are same =
      let p = first.leg.holder.pair in
      let now = pair_closings taken sent config p (Some (a, b)) (Some ins) in
      let rest : cell_closings taken sent config new (without_first those) ≡ cell_closings taken sent config old first.back =
      ap (λ (l : List (Leg O)). cell_closings taken sent config new l) first.after_are
      ∙ flat_map-append (leg_closings taken sent config new) first.front (without_ends first.leg ∷ first.back)
      ∙ ap (λ (cs : List PortCall). cs ++ cell_closings taken sent config new (without_ends first.leg ∷ first.back)) (none_closed config new first.front first.none)
      ∙ same_closings config new old first.back same in
      let all : cell_closings taken sent config old those ≡ now ++ cell_closings taken sent config old first.back =
      ap (λ (l : List (Leg O)). cell_closings taken sent config old l) first.legs_are
      ∙ flat_map-append (leg_closings taken sent config old) first.front (first.leg ∷ first.back)
      ∙ ap (λ (cs : List PortCall). cs ++ cell_closings taken sent config old (first.leg ∷ first.back)) (none_closed config old first.front first.none)
      ∙ ap (λ (cs : List PortCall). cs ++ cell_closings taken sent config old first.back)
      (ap (λ (o : Option (O × O)). pair_closings taken sent config p o (box_ends_at config old p)) first.ends_are
      ∙ ap (λ (i : Option (I × I)). pair_closings taken sent config p (Some (a, b)) i) ins_are) in
      ap (λ (cs : List PortCall). now ++ cs) rest ∙ sym all
