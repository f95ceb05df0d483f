-- A section that has pairs has one for each of its legs.
use Rattle.std.proofs.Common.{◌≡◌, ℕ, true, ◌&&◌, ◌==◌, List, [], ◌∷◌, refl, sym, ap, subst, is_some, true≢false, arith}
use Rattle.histories.specs.Words.{In, here, there}
use Rattle.port_pool.specs.declared.holder.Side.{Side}
use Rattle.port_pool.specs.declared.holder.Side.TheVariants.{A, B}
use Rattle.port_pool.specs.declared.holder.Holder.{Holder}
use Rattle.port_pool.specs.Signals.{NewKey, side_eq}
use Rattle.offer_answer.specs.Rounds.{Round, Offered, Answered, OfferAsk}
use Rattle.offer_answer.specs.Sides.{is_begun, offerer}
use Rattle.offer_answer.specs.Sections.{leases, section_life, has_pairs, leased_for}
use Rattle.offer_answer.specs.Demands.{new_leg, legs_for, new_active_sections, new_legs}
use Rattle.offer_answer.specs.Plan.{demand}
use Rattle.offer_answer.specs.Laws.{leg_place, new_leg_place, IsOfferRound, AreRounds, HaveLegs}
use Rattle.offer_answer.proofs.Members.{in-left, in-right}
use Rattle.offer_answer.proofs.Numbers.{in-map, in-flat_map}
use Rattle.offer_answer.proofs.Demanded.{in-legs_for}
use Rattle.offer_answer.proofs.Lives.{LifeOf, begins, goes_on, is_over, life-step}
use Rattle.offer_answer.proofs.Keyed.{is_found}
use Rattle.offer_answer.proofs.Secured.{section-of, some-passes, in-mapped, in-flat}

-- a leg of the section and side, in the section's life
record HasLeg (rounds : List Round) (section : ℕ) (side : Side) : Type 0 where
  leg : Holder
  leased : In leg (leased_for (section_life rounds section))
  of_section : leg.section ≡ section
  of_side : leg.side ≡ side

is_leg-of : (section : ℕ) (side : Side) (leg : Holder) → leg.section ≡ section → leg.side ≡ side → ((leg.section == section) && side_eq leg.side side) ≡ true
is_leg-of section side leg e f = rw (e, f) (both side)
  where
    both : (s : Side) → ((section == section) && side_eq s s) ≡ true
    both A = grind arith
    both B = grind arith

-- a new section is given a leg on each side
both-sides : (rounds : List Round) (ask : OfferAsk) (section : ℕ) (side : Side) → In (new_leg rounds ask section side) (legs_for rounds ask section)
both-sides rounds ask section side = go (offerer rounds ask) side refl
  where
    go : (maker side : Side) → offerer rounds ask ≡ maker → In (new_leg rounds ask section side) (legs_for rounds ask section)
    go A A e = rw e (there (here refl))
    go A B e = rw e (here refl)
    go B A e = rw e (here refl)
    go B B e = rw e (there (here refl))

of-place : (leg : Holder) (section : ℕ) (side : Side) → (section, side) ≡ leg_place leg → (leg.section ≡ section) × (leg.side ≡ side)
of-place leg section side e = (sym (ap (λ (p : ℕ × Side). p.0) e), sym (ap (λ (p : ℕ × Side). p.1) e))

leased-leg : (rounds : List Round) (ask : OfferAsk) (legs : List Holder) (keys : List NewKey) (section : ℕ) (side : Side) → IsOfferRound rounds ask legs keys →
    leases (Offered ask legs keys) section ≡ true → (leg : Holder) × In leg legs × (leg.section ≡ section) × (leg.side ≡ side)
unfolding demand
leased-leg rounds ask legs keys section side r l =
    let one = some-passes (λ (leg : Holder). leg.section == section) legs l in
    let new = in-map new_leg_place (new_legs rounds ask) (leg_place one.0) (subst (λ places. In (leg_place one.0) places) r.leased (in-mapped leg_place legs one.0 one.1)) in
    let from = in-flat_map (legs_for rounds ask) (new_active_sections rounds ask) new.0 new.1 in
    let same : from.source ≡ section = section-of one.0 new.0 from.source section (in-legs_for rounds ask from.source new.0 from.gives) new.2 one.2 in
    let wanted : In (new_leg rounds ask section side) (new_legs rounds ask) =
    in-flat (legs_for rounds ask) (new_active_sections rounds ask) section (new_leg rounds ask section side)
    (subst (λ n. In n (new_active_sections rounds ask)) same from.is_in) (both-sides rounds ask section side) in
    let leg = in-map leg_place legs (section, side)
    (subst (λ places. In (section, side) places) (sym r.leased) (in-mapped new_leg_place (new_legs rounds ask) (new_leg rounds ask section side) wanted)) in
    let of = of-place leg.0 section side leg.2 in
    (leg.0, leg.1, of.0, of.1)

no_pairs : (rounds : List Round) (section : ℕ) → section_life rounds section ≡ [] → has_pairs rounds section ≡ true → ⊥
no_pairs rounds section e h = true≢false (sym (subst (λ rs. is_begun rs ≡ true) e h))

has-leg : (rounds : List Round) (section : ℕ) (side : Side) → AreRounds rounds → has_pairs rounds section ≡ true → HasLeg rounds section side
has-leg [] section side rs h = cc
has-leg (Offered ask legs keys ∷ rounds) section side rs h = go (life-step (Offered ask legs keys) rounds section) (has-leg rounds section side rs.1)
  where
    go : LifeOf (Offered ask legs keys) rounds section → (has_pairs rounds section ≡ true → HasLeg rounds section side) → HasLeg (Offered ask legs keys ∷ rounds) section side
    go (begins l e) more =
        let leg = leased-leg rounds ask legs keys section side rs.0 l in
        record { leg = leg.0; leased = subst (λ rs. In leg.0 (leased_for rs)) (sym e) (in-left [] leg.1); of_section = leg.2; of_side = leg.3 }
    go (goes_on l had e) more =
        let before = more had in
        record {
          leg = before.leg;
          leased = subst (λ rs. In before.leg (leased_for rs)) (sym e) (in-right legs before.leased);
          of_section = before.of_section;
          of_side = before.of_side;
        }
    go (is_over e) more = absurd (no_pairs (Offered ask legs keys ∷ rounds) section e h)
has-leg (Answered ask ∷ rounds) section side rs h = go (life-step (Answered ask) rounds section) (has-leg rounds section side rs.1)
  where
    go : LifeOf (Answered ask) rounds section → (has_pairs rounds section ≡ true → HasLeg rounds section side) → HasLeg (Answered ask ∷ rounds) section side
    go (begins l e) more = cc
    go (goes_on l had e) more =
        let before = more had in
        record {
          leg = before.leg;
          leased = subst (λ rs. In before.leg (leased_for rs)) (sym e) before.leased;
          of_section = before.of_section;
          of_side = before.of_side;
        }
    go (is_over e) more = absurd (no_pairs (Answered ask ∷ rounds) section e h)

pub have_legs : HaveLegs
have_legs rounds section side rs h =
    let leg = has-leg rounds section side rs h in
    let found = is_found (λ (x : Holder). (x.section == section) && side_eq x.side side) (leased_for (section_life rounds section)) leg.leg leg.leased
    (is_leg-of section side leg.leg leg.of_section leg.of_side) in
    ap is_some found.1
