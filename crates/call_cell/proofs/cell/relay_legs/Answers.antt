use Rattle.std.proofs.Common.{◌≡◌, refl, None, ap, sym, subst, ◌∙◌, filter, get_or, set}
use Rattle.histories.specs.Words.{first}
use Rattle.port_pool.specs.declared.holder.Holder.{Holder}
use Rattle.port_pool.specs.Signals.{same_leg}
use Rattle.call_cell.specs.declared.leg.Leg.{Leg}
use Rattle.call_cell.specs.Cells.{is_opposite}
use Rattle.call_cell.specs.Protection.{accepted}
use Rattle.call_cell.specs.Lessons.{learned}
use Rattle.call_cell.specs.Heads.{half_of}
use Rattle.call_cell.specs.LegHistories.{receipt_of}
use Rattle.call_cell.proofs.Placing.{IsPlace, holders_of, place_is, no_place, at_set}
use Rattle.call_cell.proofs.Relaying.{found_at, judges, judges_so, kind_so, relays_stale, relays_refused}
use Rattle.call_cell.proofs.Crossing.{takes_it, same_holder, relays_unopposed}
use Rattle.call_cell.proofs.Towards.{relays_towards}
use Rattle.call_cell.proofs.Shaped.{shapes_set}
use Rattle.call_cell.proofs.Packets.{counts_stay, counts_accepted, counts_forwarded, ports_stay, ports_accepted, ports_forwarded}
use Rattle.call_cell.proofs.cell.relay_legs.Goals as goal

pub returns-in_default : goal.returns-in_default
returns-in_default g c = record {
  shape = refl;
  counts = counts_stay c.args.legs.now;
  ports = ports_stay g.O.OutEnd.log c.args.legs.now;
  relays = λ config h number for.
      let p = receipt_of number c.args.packet.now c.args.buf.now in
      relays_stale g.O.OutEnd.log g.O.OutEnd.faults config h p c.args.legs.now c.args.buf.now for
      (no_place (same_leg p.holder) c.args.legs.now (sym c.place_of.ensures.place ∙ c.in_default.is));
}

pub returns-in-Err : goal.returns-in-Err
returns-in-Err g c = record {
  shape = shapes_set c.args.legs.now c.in-Some.at c.accept.new.self c.index-legs-at.result c.accept.ensures.shape;
  counts = counts_accepted c.args.legs.now c.in-Some.at c.index-legs-at.result c.accept.new.self c.accept.ensures.counts;
  ports = ports_accepted g.O.OutEnd.log c.args.legs.now c.in-Some.at c.index-legs-at.result c.accept.new.self c.accept.ensures.shape c.accept.ensures.ends;
  relays = λ config h number for.
      let p = receipt_of number c.args.packet.now c.args.buf.now in
      let place = place_is (same_leg p.holder) c.args.legs.now c.in-Some.at c.index-legs-at.result (sym c.place_of.ensures.place ∙ c.in-Some.is) in
      let leg = get_or c.args.legs.now c.in-Some.at c.index-legs-at.result in
      relays_refused g.O.OutEnd.log g.O.OutEnd.faults config h p c.args.legs.now c.in-Some.at c.index-legs-at.result c.accept.new.self c.accept.new.buf
      c.accept.new.buf c.in-Err.cause for place
      (c.in-Err.ensures.accepts (learned h leg.holder) (accepted h leg.holder) (for.each c.in-Some.at c.index-legs-at.result place.below).receiving);
}

pub returns-in_default-place_of_opposite : goal.returns-in_default-place_of_opposite
returns-in_default-place_of_opposite g c = record {
  shape = shapes_set c.args.legs.now c.in-Some.at c.accept.new.self c.index-legs-at.result c.accept.ensures.shape;
  counts = counts_accepted c.args.legs.now c.in-Some.at c.index-legs-at.result c.accept.new.self c.accept.ensures.counts;
  ports = ports_accepted g.O.OutEnd.log c.args.legs.now c.in-Some.at c.index-legs-at.result c.accept.new.self c.accept.ensures.shape c.accept.ensures.ends;
  relays = λ config h number for.
      let p = receipt_of number c.args.packet.now c.args.buf.now in
      let those = c.args.legs.now in
      let x = c.index-legs-at.result in
      let place = place_is (same_leg p.holder) those c.in-Some.at x (sym c.place_of.ensures.place ∙ c.in-Some.is) in
      let leg = get_or those c.in-Some.at x in
      let each = for.each c.in-Some.at x place.below in
      let there = found_at config h p those c.in-Some.at x for place in
      let t = takes_it config h p those c.in-Some.at x c.accept.new.self c.accept.new.buf c.in-Ok.plain.len for place (judges h p leg) (judges_so config h p leg each there)
      (c.in-Ok.ensures.accepts (learned h leg.holder) (accepted h leg.holder) each.receiving) in
      let mid = set those c.in-Some.at c.accept.new.self in
      let back = get_or mid c.in-Some.at c.index-legs-at-2.result in
      let same : back.holder ≡ leg.holder = ap (λ (l : Leg _). l.holder) (at_set those c.in-Some.at c.accept.new.self c.index-legs-at-2.result place.below)
      ∙ same_holder config h p those c.in-Some.at x c.accept.new.self t.0 t.1 c.accept.new.buf c.in-Ok.plain.len t.2 in
      relays_unopposed g.O.OutEnd.log g.O.OutEnd.faults config h p those c.in-Some.at x c.accept.new.self t.0 t.1 c.accept.new.buf c.accept.new.buf c.in-Ok.plain.len t.2
      (subst (λ (a : Holder). first (filter (is_opposite a) (holders_of mid)) ≡ None) same
      (no_place (is_opposite back.holder) mid (sym c.place_of_opposite.ensures.place ∙ c.in_default-place_of_opposite.is)));
}

pub returns : goal.returns
returns g c = record {
  shape = shapes_set (set c.args.legs.now c.in-Some.at c.accept.new.self) c.in-Some-place_of_opposite.to c.forward.new.self c.index-legs-to.result c.forward.ensures.shape
      ∙ shapes_set c.args.legs.now c.in-Some.at c.accept.new.self c.index-legs-at.result c.accept.ensures.shape;
  counts = counts_forwarded c.args.legs.now c.in-Some.at c.in-Some-place_of_opposite.to c.index-legs-at.result c.accept.new.self c.index-legs-to.result c.forward.new.self
      c.accept.ensures.counts c.forward.ensures.counts;
  ports = ports_forwarded g.O.OutEnd.log c.args.legs.now c.in-Some.at c.in-Some-place_of_opposite.to c.index-legs-at.result c.accept.new.self c.index-legs-to.result c.forward.new.self
      c.accept.ensures.shape c.accept.ensures.ends c.forward.ensures.shape c.forward.ensures.ports;
  relays = λ config h number for.
      let p = receipt_of number c.args.packet.now c.args.buf.now in
      let those = c.args.legs.now in
      let x = c.index-legs-at.result in
      let z = c.index-legs-to.result in
      let place = place_is (same_leg p.holder) those c.in-Some.at x (sym c.place_of.ensures.place ∙ c.in-Some.is) in
      let leg = get_or those c.in-Some.at x in
      let each = for.each c.in-Some.at x place.below in
      let there = found_at config h p those c.in-Some.at x for place in
      let t = takes_it config h p those c.in-Some.at x c.accept.new.self c.accept.new.buf c.in-Ok.plain.len for place (judges h p leg) (judges_so config h p leg each there)
      (c.in-Ok.ensures.accepts (learned h leg.holder) (accepted h leg.holder) each.receiving) in
      let mid = set those c.in-Some.at c.accept.new.self in
      let back = get_or mid c.in-Some.at c.index-legs-at-2.result in
      let same : back.holder ≡ leg.holder = ap (λ (l : Leg _). l.holder) (at_set those c.in-Some.at c.accept.new.self c.index-legs-at-2.result place.below)
      ∙ same_holder config h p those c.in-Some.at x c.accept.new.self t.0 t.1 c.accept.new.buf c.in-Ok.plain.len t.2 in
      relays_towards g.O.OutEnd.log g.O.OutEnd.faults config h p those c.in-Some.at x c.accept.new.self t.0 t.1 c.accept.new.buf c.in-Ok.plain.len
      c.in-Some-place_of_opposite.to z c.forward.new.self c.forward.new.buf c.forward.result (half_of c.in-Ok.plain.head) t.2
      (subst (λ (a : Holder). IsPlace (is_opposite a) mid c.in-Some-place_of_opposite.to z) same
      (place_is (is_opposite back.holder) mid c.in-Some-place_of_opposite.to z (sym c.place_of_opposite.ensures.place ∙ c.in-Some-place_of_opposite.is)))
      (c.in-Ok.ensures.kind ∙ sym (kind_so config h p leg each there)) c.forward.ensures.numbers c.forward.ensures.forwards;
}
