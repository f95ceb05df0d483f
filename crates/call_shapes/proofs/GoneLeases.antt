-- The leases of the legs that go from a cell are those that follow from their holders.
use Rattle.std.proofs.Common.{◌≡◌, ◌∙◌, refl, ap, ℕ, Bool, true, false, cond, List, [], ◌∷◌, map, filter, Option, Some, None}
use Rattle.std.specs.Prelude.{is_some}
use Rattle.std.specs.List.{filter_map, cons_option}
use Rattle.relay_outside.specs.declared.settings.Config.{Config}
use Rattle.histories.specs.Words.{In, here, there}
use Rattle.port_pool.specs.declared.holder.Holder.{Holder}
use Rattle.port_pool.specs.declared.pairs.Lease.{Lease}
use Rattle.call_cell.specs.declared.leg.Leg.{Leg}
use Rattle.call_cell.specs.CellEnds.{parts_of, parts_with}
use Rattle.call_cell.specs.Shapes.{CellLegShape, cell_leg_shape, cell_leg_shapes}
use Rattle.call_board.specs.Returns.{leg_lease}
use Rattle.call_shapes.specs.Agreement.{IsLegOf}
use Rattle.call_shapes.specs.Turns.{holders_of}

-- what stands for a leg that has out ends begins with its lease
with_lease : {O : Type 0} (lease : Lease) (ends : Option (O × O)) (rest : List (Lease × O × O)) (leases : List Lease) → is_some ends ≡ true
    → map (λ (g : Lease × O × O). g.0) rest ≡ leases → map (λ (g : Lease × O × O). g.0) (cons_option (parts_with lease ends) rest) ≡ lease ∷ leases
with_lease lease None rest leases some h = absurd (let e = some in cc)
with_lease lease (Some e) rest leases some h = ap (λ (l : List Lease). lease ∷ l) h

parts_lease : {O : Type 0} (config : Config) (cell call : ℕ) (leg : Leg O) (rest : List (Lease × O × O)) (leases : List Lease) → IsLegOf config cell call (cell_leg_shape leg)
    → map (λ (g : Lease × O × O). g.0) rest ≡ leases → map (λ (g : Lease × O × O). g.0) (cons_option (parts_of leg) rest) ≡ leg_lease config leg.holder ∷ leases
parts_lease config cell call leg rest leases of h =
    with_lease leg.lease leg.sending.ends rest leases of.has_ends h ∙ ap (λ (l : Lease). l ∷ leases) of.lease_is

-- all of them
pub all_leases : {O : Type 0} (config : Config) (cell call : ℕ) (legs : List (Leg O))
    → ((leg : CellLegShape) → In leg (cell_leg_shapes legs) → IsLegOf config cell call leg)
    → map (λ (g : Lease × O × O). g.0) (filter_map (λ (leg : Leg O). parts_of leg) legs) ≡ map (leg_lease config) (holders_of (cell_leg_shapes legs))
all_leases config cell call [] of = refl
all_leases {O} config cell call (leg ∷ legs) of =
    parts_lease config cell call leg (filter_map (λ (l : Leg O). parts_of l) legs) (map (leg_lease config) (holders_of (cell_leg_shapes legs)))
    (of (cell_leg_shape leg) (here refl)) (all_leases config cell call legs (λ l i. of l (there i)))

-- those that go
pub gone_leases : {O : Type 0} (config : Config) (cell call : ℕ) (goes : Holder → Bool) (legs : List (Leg O))
    → ((leg : CellLegShape) → In leg (cell_leg_shapes legs) → IsLegOf config cell call leg)
    → map (λ (g : Lease × O × O). g.0) (filter_map (λ (leg : Leg O). parts_of leg) (filter (λ (leg : Leg O). goes leg.holder) legs))
    ≡ map (leg_lease config) (filter goes (holders_of (cell_leg_shapes legs)))
gone_leases config cell call goes [] of = refl
gone_leases {O} config cell call goes (leg ∷ legs) of = by (goes leg.holder) (gone_leases config cell call goes legs (λ l i. of l (there i)))
  where
    by : (b : Bool) → map (λ (g : Lease × O × O). g.0) (filter_map (λ (l : Leg O). parts_of l) (filter (λ (l : Leg O). goes l.holder) legs))
        ≡ map (leg_lease config) (filter goes (holders_of (cell_leg_shapes legs)))
        → map (λ (g : Lease × O × O). g.0) (filter_map (λ (l : Leg O). parts_of l) (cond b (leg ∷ filter (λ (l : Leg O). goes l.holder) legs) (filter (λ (l : Leg O). goes l.holder) legs)))
        ≡ map (leg_lease config) (cond b (leg.holder ∷ filter goes (holders_of (cell_leg_shapes legs))) (filter goes (holders_of (cell_leg_shapes legs))))
    by true rest = parts_lease config cell call leg (filter_map (λ (l : Leg O). parts_of l) (filter (λ (l : Leg O). goes l.holder) legs))
        (map (leg_lease config) (filter goes (holders_of (cell_leg_shapes legs)))) (of (cell_leg_shape leg) (here refl)) rest
    by false rest = rest
