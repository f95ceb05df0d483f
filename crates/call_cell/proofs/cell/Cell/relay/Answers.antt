use Rattle.std.proofs.Common.{refl, ap, arith, sym, subst, ◌∙◌, List}
use Rattle.std.proofs.lemmas.List.{with_items_is}
use Rattle.call_cell.specs.declared.leg.Leg.{Leg}
use Rattle.call_cell.specs.Cells.{since_end}
use Rattle.call_cell.specs.LegHistories.{LegsStandFor, LegsRelay, receipt_of}
use Rattle.call_cell.specs.Shapes.{CellLegShape, CountsRoseByOne, KeepsPorts, cell_leg_shapes}
use Rattle.call_cell.proofs.Handing.{cell_relays}
use Rattle.call_cell.proofs.cell.Cell.relay.Goals as goal

pub returns-clause-shape : goal.returns-clause-shape
returns-clause-shape g c =
    let those = c.relay_legs-outcome.new.legs in
    let items = with_items_is c.args.self.now.legs those (omega (arith, c.relay_legs-outcome.auto.legs, c.as_mut_slice.ensures.len)) in
    ap (λ (l : List CellLegShape). record { config = c.args.self.now.config; call = c.args.self.now.call; is_committed = c.args.self.now.is_committed; legs = l })
    (ap cell_leg_shapes items ∙ c.relay_legs-outcome.ensures.shape ∙ ap cell_leg_shapes c.as_mut_slice.ensures.value)

pub returns-clause-relays : goal.returns-clause-relays
returns-clause-relays g c config h number for =
    let p = receipt_of number c.args.packet.now c.args.buf.now in
    let those = c.relay_legs-outcome.new.legs in
    let value = c.as_mut_slice.ensures.value in
    let legs_for = subst (λ (l : List (Leg _)). LegsStandFor config (since_end h) l) (sym value) for.legs_for in
    let relays = subst (λ (l : List (Leg _)). LegsRelay g.O.OutEnd.log g.O.OutEnd.faults config (since_end h) p l those c.relay_legs-outcome.new.buf c.relay_legs-outcome.result) value
    (c.relay_legs-outcome.ensures.relays config (since_end h) number legs_for) in
    cell_relays g.O.OutEnd.log g.O.OutEnd.faults config c.args.self.now _ h p c.args.now c.relay_legs-outcome.new.buf c.relay_legs-outcome.result those for refl
    c.max-self.ensures refl refl refl c.active_after-self.ensures (with_items_is c.args.self.now.legs those (omega (arith, c.relay_legs-outcome.auto.legs, c.as_mut_slice.ensures.len))) relays

pub returns-clause-counts : goal.returns-clause-counts
returns-clause-counts g c =
    let those = c.relay_legs-outcome.new.legs in
    let items = with_items_is c.args.self.now.legs those (omega (arith, c.relay_legs-outcome.auto.legs, c.as_mut_slice.ensures.len)) in
    subst (λ (l : List (Leg _)). CountsRoseByOne c.args.self.now.legs.items l) (sym items)
    (subst (λ (l : List (Leg _)). CountsRoseByOne l those) c.as_mut_slice.ensures.value c.relay_legs-outcome.ensures.counts)

pub returns-clause-legs : goal.returns-clause-legs
returns-clause-legs g c =
    let those = c.relay_legs-outcome.new.legs in
    let items = with_items_is c.args.self.now.legs those (omega (arith, c.relay_legs-outcome.auto.legs, c.as_mut_slice.ensures.len)) in
    subst (λ (l : List (Leg _)). KeepsPorts g.O.OutEnd.log c.args.self.now.legs.items l) (sym items)
    (subst (λ (l : List (Leg _)). KeepsPorts g.O.OutEnd.log l those) c.as_mut_slice.ensures.value c.relay_legs-outcome.ensures.ports)
