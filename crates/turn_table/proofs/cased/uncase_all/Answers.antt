use Rattle.std.proofs.Common.{rules, arith, ◌+◌, ◌*◌, ◌<◌, false, length, set, get_or, sym, refl, ap, ◌∙◌, subst}
use Rattle.std.specs.Slots.{slots_items, slots_filled, slots_len}
use lib.ListN.{get_elem?}
use Rattle.turn_table.specs.Layout.{spot_of}
use Rattle.turn_table.proofs.Casing.{Full, Taken, Back, full_first, full_less, taken_none, taken_more, all_taken, room_left, count_more, back_none, back_more}
use Rattle.turn_table.proofs.cased.uncase_all.Goals as goal

pub takes-init : goal.takes-init
takes-init g c = record {
  same = refl;
  long = refl;
  end = search rules;
  count = search rules;
  room = refl;
  full = full_first c.args.rows (slots_filled c.args.closed.slots) (slots_len c.args.closed.slots) c.requires.full c.requires.rows.2;
  taken = taken_none c.args.rows (slots_filled c.args.closed.slots);
  back = back_none c.args.rows c.args.places (slots_items c.args.closed.slots) c.args.states.items;
}

pub spot-requires-clause-place : goal.spot-requires-clause-place
spot-requires-clause-place g c = let inv = c.takes.invariant in let low = c.takes-test.true in let end = inv.end in let deep = c.requires.rows.2 in omega arith

pub take-slot-requires : goal.take-slot-requires
take-slot-requires g c =
    let inv = c.takes.invariant in let low = c.takes-test.true in let end = inv.end in let long = inv.long in let deep = c.requires.rows.2 in let spot = c.spot.ensures.low in
    let inside : c.takes.place < 960 * c.args.rows = omega arith in
    (omega arith, ap (λ i. get_or (slots_filled c.takes.closed.slots) i false) c.spot.ensures.value ∙ inv.full c.takes.place inside (omega arith))

pub uncase-requires : goal.uncase-requires
uncase-requires g c = λ x full.
    let inv = c.takes.invariant in let low = c.takes-test.true in let end = inv.end in let deep = c.requires.rows.2 in let place = c.takes.place in
    let inside : place < 960 * c.args.rows = omega arith in
    let at = sym (ap (λ xs. get_elem? xs (spot_of c.args.rows place)) inv.same) ∙ (ap (get_elem? (slots_items c.takes.closed.slots)) (sym c.spot.ensures.value) ∙ c.take-slot.ensures.value) in
    let early = room_left c.args.rows c.args.places (slots_items c.args.closed.slots) c.requires.spare place c.take-slot.result x full inside at in
    let count = inv.count in let room = inv.room in let wide = c.requires.room in omega arith

pub takes-preserved : goal.takes-preserved
takes-preserved g c =
    let inv = c.takes.invariant in let low = c.takes-test.true in let end = inv.end in let long = inv.long in let deep = c.requires.rows.2 in
    let rows = c.args.rows in let places = c.args.places in let place = c.takes.place in let there = slots_items c.args.closed.slots in
    let inside : place < 960 * rows = omega arith in
    let at = sym (ap (λ xs. get_elem? xs (spot_of rows place)) inv.same) ∙ (ap (get_elem? (slots_items c.takes.closed.slots)) (sym c.spot.ensures.value) ∙ c.take-slot.ensures.value) in
    let counted = sym c.takes.states.ok.0 ∙ inv.count in
    let others = c.take-slot.ensures.others in
    let filled = slots_filled c.takes.closed.slots in
    let emptied = others.1 ∙ ap (λ i. set filled i false) c.spot.ensures.value in
    let in_filled : spot_of rows place < length filled = subst (λ i. i < length filled) c.spot.ensures.value (let s = c.spot.ensures.low in let w = c.takes.closed.slots.ok.1 in omega arith) in record {
      same = others.0 ∙ inv.same;
      long = others.2 ∙ inv.long;
      end = inv.end;
      count = c.uncase.new.states.ok.0 ∙ (ap length c.uncase.ensures.items ∙ count_more rows places there c.requires.home c.requires.spare place c.takes.states.items c.take-slot.result inside at counted);
      room = c.uncase.ensures.capacity ∙ inv.room;
      full = subst (Full rows (place + 1)) (sym emptied) (full_less rows place filled inside inv.full);
      taken = subst (Taken rows (place + 1)) (sym emptied) (taken_more rows place filled inside in_filled inv.taken);
      back = subst (Back rows places there (place + 1)) (sym c.uncase.ensures.items) (back_more rows places there c.requires.home c.requires.spare place c.takes.states.items c.take-slot.result inside at counted inv.back);
    }

pub free-requires : goal.free-requires
free-requires g c = λ k low.
    let inv = c.takes.invariant in let high = c.takes-test.false in let end = inv.end in let long = inv.long in let deep = c.requires.rows.2 in
    all_taken c.args.rows c.takes.place (slots_filled c.takes.closed.slots) (omega arith) inv.taken k (omega arith)

pub returns-clause-length : goal.returns-clause-length
returns-clause-length g c =
    let inv = c.takes.invariant in let high = c.takes-test.false in let end = inv.end in let deep = c.requires.rows.2 in let few = c.requires.rows.0 in
    let count = inv.count in omega arith

pub returns-clause-states : goal.returns-clause-states
returns-clause-states g c = λ k x inside at.
    let inv = c.takes.invariant in let high = c.takes-test.false in let end = inv.end in let deep = c.requires.rows.2 in let few = c.requires.rows.0 in
    inv.back k x (omega arith) inside at
