-- A leg has the family of its pair.
use Rattle.std.proofs.Common.{◌≡◌, ℕ, Bool, true, false, ◌&&◌, ◌==◌, List, [], ◌∷◌, Some, None, refl, sym, ap, ◌∙◌, subst, if◌then◌else◌, find, map, arith}
use Rattle.histories.specs.Words.{In, here, there}
use Rattle.relay_outside.specs.declared.settings.Config.{Config}
use Rattle.port_pool.specs.declared.holder.Side.{Side}
use Rattle.port_pool.specs.declared.holder.Side.TheVariants.{A, B}
use Rattle.port_pool.specs.declared.holder.Holder.{Holder}
use Rattle.port_pool.specs.Ports.{pair_family}
use Rattle.port_pool.specs.Signals.{side_eq}
use Rattle.offer_answer.specs.Rounds.{Round, Offered, Answered, OfferAsk, NewLeg}
use Rattle.offer_answer.specs.Sections.{leases, has_pairs, leg_of}
use Rattle.offer_answer.specs.Families.{new_family, leg_family}
use Rattle.offer_answer.specs.Demands.{legs_for, new_active_sections, new_legs}
use Rattle.offer_answer.specs.Plan.{demand}
use Rattle.offer_answer.specs.Laws.{leg_place, new_leg_place, HavePairsFamilies}
use Rattle.offer_answer.proofs.Numbers.{in-flat_map}
use Rattle.offer_answer.proofs.Steps.{leg-offered, leg-answered, family-offered, family-answered}

-- each new leg of an offer has the family of a new leg of its section and side
in-legs_family : (rounds : List Round) (ask : OfferAsk) (section : ℕ) (new : NewLeg) → In new (legs_for rounds ask section) → new.family ≡ new_family rounds ask new.section new.side
in-legs_family rounds ask section new (here e) = subst (λ (l : NewLeg). l.family ≡ new_family rounds ask l.section l.side) (sym e) refl
in-legs_family rounds ask section new (there (here e)) = subst (λ (l : NewLeg). l.family ≡ new_family rounds ask l.section l.side) (sym e) refl
in-legs_family rounds ask section new (there (there i)) = elim i [ ]

in-new_legs : (rounds : List Round) (ask : OfferAsk) (new : NewLeg) → In new (new_legs rounds ask) → new.family ≡ new_family rounds ask new.section new.side
in-new_legs rounds ask new i =
    let from = in-flat_map (legs_for rounds ask) (new_active_sections rounds ask) new i in
    in-legs_family rounds ask from.source new from.gives

-- a leg that was leased has its pair by the new leg in the same place
record IsFor (config : Config) (news : List NewLeg) (section : ℕ) (side : Side) (leg : Holder) : Type 0 where
  new : NewLeg
  is_in : In new news
  of_section : new.section ≡ section
  of_side : new.side ≡ side
  of_family : pair_family config leg.pair ≡ new.family

same_sides : (s t : Side) → side_eq s t ≡ true → s ≡ t
same_sides A A e = refl
same_sides B B e = refl
same_sides A B e = cc
same_sides B A e = cc

both : (x y : Bool) → (x && y) ≡ true → (x ≡ true) × (y ≡ true)
both true true e = (refl, refl)
both true false e = cc
both false y e = cc

leased-for : (config : Config) (section : ℕ) (side : Side) (legs : List Holder) (news : List NewLeg) (leg : Holder) → map leg_place legs ≡ map new_leg_place news →
    map (λ (l : Holder). pair_family config l.pair) legs ≡ map (λ (l : NewLeg). l.family) news →
    find (λ (l : Holder). l.section == section && side_eq l.side side) legs ≡ Some leg → IsFor config news section side leg
leased-for config section side [] news leg p f e = cc
leased-for config section side (l ∷ legs) [] leg p f e = cc
leased-for config section side (l ∷ legs) (n ∷ news) leg p f e =
    go (l.section == section && side_eq l.side side) refl (leased-for config section side legs news leg)
  where
    place : leg_place l ≡ new_leg_place n
    place = cc

    family : pair_family config l.pair ≡ n.family
    family = cc

    go : (b : Bool) → (l.section == section && side_eq l.side side) ≡ b →
        (map leg_place legs ≡ map new_leg_place news → map (λ (x : Holder). pair_family config x.pair) legs ≡ map (λ (x : NewLeg). x.family) news →
        find (λ (x : Holder). x.section == section && side_eq x.side side) legs ≡ Some leg → IsFor config news section side leg) →
        IsFor config (n ∷ news) section side leg
    go true b more =
        let it : l ≡ leg = let found : Some l ≡ Some leg = sym (rw b refl) ∙ e in cc in
        let is = both (l.section == section) (side_eq l.side side) b in
        let at : l.section ≡ section = grind (arith, is.0) in
        record {
          new = n;
          is_in = here refl;
          of_section = sym (ap (λ (q : ℕ × Side). q.0) place) ∙ at;
          of_side = sym (ap (λ (q : ℕ × Side). q.1) place) ∙ same_sides l.side side is.1;
          of_family = ap (λ (x : Holder). pair_family config x.pair) (sym it) ∙ family;
        }
    go false b more =
        let places : map leg_place legs ≡ map new_leg_place news = cc in
        let families : map (λ (x : Holder). pair_family config x.pair) legs ≡ map (λ (x : NewLeg). x.family) news = cc in
        let behind : find (λ (x : Holder). x.section == section && side_eq x.side side) legs ≡ Some leg = sym (rw b refl) ∙ e in
        let rest = more places families behind in
        record { new = rest.new; is_in = there rest.is_in; of_section = rest.of_section; of_side = rest.of_side; of_family = rest.of_family }

pub have_pairs_families : HavePairsFamilies
unfolding demand
have_pairs_families config [] section side leg rs fs e = cc
have_pairs_families config (Offered ask legs keys ∷ rounds) section side leg rs fs e =
    family-offered ask legs keys rounds section side
    ∙ go (leases (Offered ask legs keys) section) (has_pairs (Offered ask legs keys ∷ rounds) section)
    (sym (leg-offered ask legs keys rounds section side) ∙ e)
    (have_pairs_families config rounds section side leg rs.1 fs.1)
  where
    go : (b has : Bool) →
        (if b then find (λ (l : Holder). l.section == section && side_eq l.side side) legs else if has then leg_of rounds section side else None) ≡ Some leg →
        (leg_of rounds section side ≡ Some leg → leg_family rounds section side ≡ Some (pair_family config leg.pair)) →
        (if b then Some (new_family rounds ask section side) else if has then leg_family rounds section side else None) ≡ Some (pair_family config leg.pair)
    go true has f more =
        let for = leased-for config section side legs (new_legs rounds ask) leg rs.0.leased fs.0 f in
        ap Some (ap (λ (s : ℕ). new_family rounds ask s side) (sym for.of_section) ∙ ap (new_family rounds ask for.new.section) (sym for.of_side)
        ∙ sym (in-new_legs rounds ask for.new for.is_in) ∙ sym for.of_family)
    go false true f more = more f
    go false false f more = cc
have_pairs_families config (Answered ask ∷ rounds) section side leg rs fs e =
    family-answered ask rounds section side
    ∙ go (has_pairs (Answered ask ∷ rounds) section) (sym (leg-answered ask rounds section side) ∙ e) (have_pairs_families config rounds section side leg rs.1 fs)
  where
    go : (has : Bool) → (if has then leg_of rounds section side else None) ≡ Some leg →
        (leg_of rounds section side ≡ Some leg → leg_family rounds section side ≡ Some (pair_family config leg.pair)) →
        (if has then leg_family rounds section side else None) ≡ Some (pair_family config leg.pair)
    go true f more = more f
    go false f more = cc
