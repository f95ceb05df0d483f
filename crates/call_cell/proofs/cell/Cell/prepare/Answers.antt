use Rattle.std.proofs.Common.{refl, sym, ◌∙◌, ap, arith, subst, ℕ, List, Option, Some, length, map, ◌≡◌, ◌≤◌, ◌+◌}
use Rattle.call_cell.specs.Shapes.{CellLegShape, cell_shape, ends_of_legs, counts_of_legs, cell_leg_shapes, leg_forms, offered_shape, with_prepared}
use Rattle.call_cell.proofs.Shaped.{offered_legs, offered_go}
use Rattle.std.proofs.lemmas.List.{with_items_is}
use Rattle.std.proofs.lemmas.List.Sums.{length-filter}
use Rattle.port_pool.specs.declared.pairs.Lease.{Lease}
use Rattle.call_cell.specs.declared.leg.Leg.{Leg}
use Rattle.call_cell.specs.Cells.{since_end}
use Rattle.call_cell.specs.DroppedLegs.{stays}
use Rattle.call_cell.specs.LegHistories.{AreApart}
use Rattle.call_cell.specs.Preparations.{with_keys}
use Rattle.call_cell.proofs.Offered.{cell_prepares, offered}
use Rattle.call_cell.proofs.Forms.{forms_stay}
use Rattle.call_cell.proofs.cell.Cell.prepare.Goals as goal

pub join-requires : goal.join-requires
join-requires g c =
    let old = c.args.self.now.legs.items in
    let room : length c.args.gone.now + length old ≤ 16
    = subst (λ (l : List (Lease × _ × _)). length l + length old ≤ 16) (sym c.requires.empty) (omega (arith, c.requires.room.before, c.args.self.now.legs.ok.0)) in
    let kept = ap (λ (l : List (Leg _)). length l) (c.part.ensures.parts room).0 in
    record {
      none = c.requires.ready.none;
      room = omega (arith, kept, length-filter (λ (leg : Leg _). stays c.args.signal.dropped leg) old, c.requires.room.after, c.requires.ready.room, c.part.new.legs.ok.0);
    }

pub returns-clause-shape : goal.returns-clause-shape
returns-clause-shape g c keys dropped prep =
    let old = c.args.self.now.legs.items in
    let room : length c.args.gone.now + length old ≤ 16
    = subst (λ (l : List (Lease × _ × _)). length l + length old ≤ 16) (sym c.requires.empty) (omega (arith, c.requires.room.before, c.args.self.now.legs.ok.0)) in
    let new = c.put_keys.new.legs in
    let items = with_items_is c.join.new.legs new (omega (arith, c.put_keys.auto.legs, c.as_mut_slice.ensures.len)) in
    let puts = c.put_keys.ensures.shape ∙ ap (λ (l : List (Leg _)). with_prepared c.args.signal.keys.items (cell_leg_shapes l)) c.as_mut_slice.ensures.value in
    let legs = ap cell_leg_shapes items
    ∙ offered_legs c.args.signal.dropped old c.part.new.legs.items c.args.signal.legs.items c.join.new.legs.items new c.args.signal.keys.items keys
    (c.part.ensures.parts room).0 c.join.ensures puts prep.keys_are in
    let self = c.args.self.now in
    ap (λ (l : List CellLegShape). record { config = self.config; call = Some c.held_by.result; is_committed = self.is_committed; legs = l }) legs
    ∙ ap (λ (n : Option ℕ). record { config = self.config; call = n; is_committed = self.is_committed; legs = (offered_shape c.args.signal.dropped (cell_leg_shapes c.args.signal.legs.items) keys c.args.call (cell_shape self)).legs })
    c.held_by.ensures

pub returns-clause-legs : goal.returns-clause-legs
returns-clause-legs g c =
    let new = c.put_keys.new.legs in
    let items = with_items_is c.join.new.legs new (omega (arith, c.put_keys.auto.legs, c.as_mut_slice.ensures.len)) in
    let puts = c.put_keys.ensures.ends ∙ ap ends_of_legs c.as_mut_slice.ensures.value in
    let counts = c.put_keys.ensures.counts ∙ ap counts_of_legs c.as_mut_slice.ensures.value in
    offered_go c.args.signal.dropped c.args.self.now.legs.items c.part.new.legs.items c.args.signal.legs.items c.join.new.legs.items _ c.args.gone.now c.part.new.gone
    c.requires.empty (omega (arith, c.requires.room.before, c.args.self.now.legs.ok.0)) c.part.ensures.parts c.join.ensures (ap ends_of_legs items ∙ puts) (ap counts_of_legs items ∙ counts)

pub returns-clause-prepares : goal.returns-clause-prepares
returns-clause-prepares g c config h keys dropped for prep can =
    let value = c.as_mut_slice.ensures.value in
    let new = c.put_keys.new.legs in
    let items = with_items_is c.join.new.legs new (omega (arith, c.put_keys.auto.legs, c.as_mut_slice.ensures.len)) in
    let puts = subst (λ (l : List (Leg _)). AreApart l → new ≡ map (λ (leg : Leg _). with_keys c.args.signal.keys.items leg) l) value c.put_keys.ensures.legs in
    cell_prepares config c.args.self.now _ h c.args.signal c.args.call keys dropped c.args.now c.part.new.gone for refl c.max-self.ensures
    c.held_by.ensures c.began_by-self.ensures refl refl
    (λ m. offered config m c.args.call c.args.signal keys dropped (since_end h) c.args.self.now.legs.items c.part.new.legs.items c.join.new.legs.items _
    c.args.gone.now c.part.new.gone for.legs_for for.unnoted prep can c.requires.empty c.part.ensures.parts c.join.ensures
    (λ apart. items ∙ puts apart))

pub returns-clause-forms : goal.returns-clause-forms
returns-clause-forms g c =
    let old = c.args.self.now.legs.items in
    let new = c.put_keys.new.legs in
    let items = with_items_is c.join.new.legs new (omega (arith, c.put_keys.auto.legs, c.as_mut_slice.ensures.len)) in
    let puts = c.put_keys.ensures.forms ∙ ap leg_forms c.as_mut_slice.ensures.value in
    forms_stay c.args.signal.legs.items old old c.part.new.legs.items c.join.new.legs.items _ c.args.gone.now c.part.new.gone refl c.part.ensures.whole
    c.requires.empty c.join.ensures (ap leg_forms items ∙ puts)
