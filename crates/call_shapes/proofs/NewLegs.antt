-- The legs that an offer brings.
use Rattle.std.proofs.Common.{◌≡◌, ◌∙◌, refl, sym, ap, subst, ℕ, suc, ◌<◌, Bool, true, false, cond, ◌&&◌, ◌==◌, List, [], ◌∷◌, map, filter, length, Option, Some, None, option_map, arith}
use Rattle.std.specs.Prelude.{find, zip}
use Rattle.std.proofs.lemmas.Bool.{or_parts}
use Rattle.histories.specs.Words.{In, here, there}
use Rattle.relay_outside.specs.declared.settings.Config.{Config}
use Rattle.port_pool.specs.declared.pairs.Lease.{Lease}
use Rattle.port_pool.specs.declared.holder.Holder.{Holder}
use Rattle.port_pool.specs.declared.holder.Side.{Side}
use Rattle.port_pool.specs.Ports.{pair_count, pair_port}
use Rattle.port_pool.specs.Signals.{side_eq}
use Rattle.offer_answer.specs.Rounds.{NewLeg}
use Rattle.offer_answer.specs.Shapes.{is_demanded}
use Rattle.offer_answer.specs.Texts.{new_port}
use Rattle.call_cell.specs.Shapes.{CellLegShape}
use Rattle.call_board.specs.Acts.{Call}
use Rattle.call_board.specs.Whole.{holder_of_new_leg, holders_of_new_legs}
use Rattle.call_shapes.specs.Events.{brought_shape}
use Rattle.call_shapes.specs.Agreement.{IsLegOf, stands_on}
use Rattle.call_shapes.specs.OfferFits.{is_new_on, ports_leased}
use Rattle.call_shapes.proofs.Sieves.{nothing_in}

abbrev pub brought : Config → Call → List Lease → List NewLeg → List CellLegShape
brought config of leases legs = map (brought_shape config) (holders_of_new_legs of leases legs)

-- each is a leg of the call
pub brought_legs : (config : Config) (of : Call) (leases : List Lease) (legs : List NewLeg)
    → ((lease : Lease) → In lease leases → lease.pair < pair_count config) → ((leg : NewLeg) → In leg legs → leg.section < 8)
    → (leg : CellLegShape) → In leg (brought config of leases legs) → IsLegOf config of.cell of.number leg
brought_legs config of [] legs pairs sections x i = elim i [ ]
brought_legs config of (lease ∷ leases) [] pairs sections x i = elim i [ ]
brought_legs config of (lease ∷ leases) (leg ∷ legs) pairs sections x (here e) =
    let is : IsLegOf config of.cell of.number (brought_shape config (holder_of_new_leg of lease leg)) = record {
      cell_is = refl;
      call_is = refl;
      section = sections leg (here refl);
      pair = pairs lease (here refl);
      lease_is = refl;
      has_ends = refl;
    } in
    subst (λ (l : CellLegShape). IsLegOf config of.cell of.number l) (sym e) is
brought_legs config of (lease ∷ leases) (leg ∷ legs) pairs sections x (there i) =
    brought_legs config of leases legs (λ y j. pairs y (there j)) (λ y j. sections y (there j)) x i

abbrev pub brought_holders : (config : Config) (legs : List Holder) → map (λ (leg : CellLegShape). leg.holder) (map (brought_shape config) legs) ≡ legs
brought_holders config [] = refl
brought_holders config (leg ∷ legs) = ap (λ l. leg ∷ l) (brought_holders config legs)

-- where none is for a side of a section, none comes there and no port
pub record NoneNew (config : Config) (of : Call) (leases : List Lease) (legs : List NewLeg) (section : ℕ) (side : Side) : Type 0 where
  pub found_is : filter (stands_on section side) (brought config of leases legs) ≡ []
  pub port_is : new_port legs (ports_leased config leases) section side ≡ None

pub none_new : (config : Config) (of : Call) (leases : List Lease) (legs : List NewLeg) (section : ℕ) (side : Side)
    → filter (is_new_on section side) legs ≡ [] → NoneNew config of leases legs section side
none_new config of [] [] section side none = record { found_is = refl; port_is = refl }
none_new config of [] (leg ∷ legs) section side none = record { found_is = refl; port_is = refl }
none_new config of (lease ∷ leases) [] section side none = record { found_is = refl; port_is = refl }
none_new config of (lease ∷ leases) (leg ∷ legs) section side none = by (none_new config of leases legs section side) (is_new_on section side leg) refl
  where
    first : CellLegShape
    first = brought_shape config (holder_of_new_leg of lease leg)

    by : (filter (is_new_on section side) legs ≡ [] → NoneNew config of leases legs section side)
        → (b : Bool) → is_new_on section side leg ≡ b → NoneNew config of (lease ∷ leases) (leg ∷ legs) section side
    by rest true e = absurd (let f = sym (ap (λ b. cond b (leg ∷ filter (is_new_on section side) legs) (filter (is_new_on section side) legs)) e) ∙ none in cc)
    by rest false e =
        let more = rest (sym (ap (λ b. cond b (leg ∷ filter (is_new_on section side) legs) (filter (is_new_on section side) legs)) e) ∙ none) in
        record {
          found_is = ap (λ b. cond b (first ∷ filter (stands_on section side) (brought config of leases legs)) (filter (stands_on section side) (brought config of leases legs))) e ∙ more.found_is;
          port_is = ap (λ (b : Bool). option_map (λ (leased : NewLeg × ℕ). leased.1) (cond b (Some (leg, pair_port config lease.pair))
              (find (λ (leased : NewLeg × ℕ). is_new_on section side leased.0) (zip legs (ports_leased config leases))))) e ∙ more.port_is;
        }

-- where just one is, it comes there, and its port
pub record OneNew (config : Config) (of : Call) (leases : List Lease) (legs : List NewLeg) (section : ℕ) (side : Side) : Type 0 where
  pub leg : Holder
  pub found_is : filter (stands_on section side) (brought config of leases legs) ≡ brought_shape config leg ∷ []
  pub port_is : new_port legs (ports_leased config leases) section side ≡ Some (pair_port config leg.pair)

pub one_new : (config : Config) (of : Call) (leases : List Lease) (legs : List NewLeg) (section : ℕ) (side : Side)
    → length leases ≡ length legs → length (filter (is_new_on section side) legs) ≡ 1 → OneNew config of leases legs section side
one_new config of leases [] section side many one = absurd (let f : 0 ≡ 1 = one in cc)
one_new config of [] (leg ∷ legs) section side many one = absurd (let f : 0 ≡ suc (length legs) = many in cc)
one_new config of (lease ∷ leases) (leg ∷ legs) section side many one =
    by (one_new config of leases legs section side (let f : suc (length leases) ≡ suc (length legs) = many in cc)) (is_new_on section side leg) refl
  where
    first : CellLegShape
    first = brought_shape config (holder_of_new_leg of lease leg)

    others : List CellLegShape
    others = filter (stands_on section side) (brought config of leases legs)

    ports : Option (NewLeg × ℕ)
    ports = find (λ (leased : NewLeg × ℕ). is_new_on section side leased.0) (zip legs (ports_leased config leases))

    by : (length (filter (is_new_on section side) legs) ≡ 1 → OneNew config of leases legs section side)
        → (b : Bool) → is_new_on section side leg ≡ b → OneNew config of (lease ∷ leases) (leg ∷ legs) section side
    by rest true e =
        let count : suc (length (filter (is_new_on section side) legs)) ≡ 1
        = sym (ap (λ b. length (cond b (leg ∷ filter (is_new_on section side) legs) (filter (is_new_on section side) legs))) e) ∙ one in
        let none = none_new config of leases legs section side (nothing_in (filter (is_new_on section side) legs) (omega (arith, count))) in
        record {
          leg = holder_of_new_leg of lease leg;
          found_is = ap (λ b. cond b (first ∷ others) others) e ∙ ap (λ l. first ∷ l) none.found_is;
          port_is = ap (λ (b : Bool). option_map (λ (leased : NewLeg × ℕ). leased.1) (cond b (Some (leg, pair_port config lease.pair)) ports)) e;
        }
    by rest false e =
        let more = rest (sym (ap (λ b. length (cond b (leg ∷ filter (is_new_on section side) legs) (filter (is_new_on section side) legs))) e) ∙ one) in
        record {
          leg = more.leg;
          found_is = ap (λ b. cond b (first ∷ others) others) e ∙ more.found_is;
          port_is = ap (λ (b : Bool). option_map (λ (leased : NewLeg × ℕ). leased.1) (cond b (Some (leg, pair_port config lease.pair)) ports)) e ∙ more.port_is;
        }

-- of a section that no legs are demanded for
pub none_demanded : (legs : List NewLeg) (section : ℕ) (side : Side) → is_demanded legs section ≡ false → filter (is_new_on section side) legs ≡ []
none_demanded [] section side e = refl
none_demanded (leg ∷ legs) section side e =
    let parts = or_parts (leg.section == section) (is_demanded legs section) e in
    ap (λ b. cond (b && side_eq leg.side side) (leg ∷ filter (is_new_on section side) legs) (filter (is_new_on section side) legs)) parts.0
    ∙ none_demanded legs section side parts.1
