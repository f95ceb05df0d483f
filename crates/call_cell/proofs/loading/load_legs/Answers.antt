use Rattle.std.proofs.Common.{◌≡◌, ◌∙◌, sym, ap, [], ◌++◌, List, length, arith}
use Rattle.std.specs.Vec.Iter.{into_iter_items}
use Rattle.std.proofs.lemmas.List.{nil_from_length, append-nil}
use Rattle.call_cell.specs.declared.leg.Leg.{Leg}
use Rattle.call_cell.specs.declared.saved.LegSaved.{LegSaved}
use Rattle.call_cell.proofs.SavedLegs.{saved_legs, one_loaded, one_emptied, no_leg_emptied}
use Rattle.call_cell.proofs.loading.load_legs.Goals as goal

pub loop-one-init : goal.loop-one-init
loop-one-init g c =
    let none = c.in_ok-legs.ensures.items in
    let all = c.into_iter-one-iterator.ensures.into_iter_gives.0 in (
      tt,
      tt,
      ap (λ (l : List (Leg _)). saved_legs l ++ into_iter_items c.into_iter-one-iterator.result) none ∙ all,
      no_leg_emptied c.in_ok-legs.legs.items none,
      omega (arith, ap length all, c.in_ok-legs.ensures.len, c.in_ok-legs.ensures.exact, c.len.ensures, c.args.saved.ok.0),
    )

pub push_reserved-requires : goal.push_reserved-requires
push_reserved-requires g c = omega (arith, c.loop-one.invariant.4, ap length c.in-Some.ensures.steps.0)

pub loop-one-preserved : goal.loop-one-preserved
loop-one-preserved g c =
    let rest = into_iter_items c.next.new.self in (
      tt,
      tt,
      one_loaded c.loop-one.legs.items c.push_reserved.new.self.items c.in-Ok.leg c.in-Some.one (into_iter_items c.loop-one.one-iterator) rest c.args.saved.items
          c.loop-one.invariant.2 c.in-Some.ensures.steps.0 c.push_reserved.ensures.items c.in-Ok.ensures.saved,
      one_emptied c.loop-one.legs.items c.push_reserved.new.self.items c.in-Ok.leg c.loop-one.invariant.3 c.in-Ok.ensures.emptied c.push_reserved.ensures.items,
      omega (arith, c.loop-one.invariant.4, ap length c.in-Some.ensures.steps.0, c.push_reserved.ensures.len, c.push_reserved.ensures.capacity),
    )

pub returns-clause-saved : goal.returns-clause-saved
returns-clause-saved g c =
    let it = c.loop-one.one-iterator in
    let none : into_iter_items it ≡ [] = nil_from_length (into_iter_items it) (sym it.rest.ok.0 ∙ c.in-None.ensures.steps.0) in
    sym (append-nil (saved_legs c.loop-one.legs.items)) ∙ ap (λ (l : List LegSaved). saved_legs c.loop-one.legs.items ++ l) (sym none) ∙ c.loop-one.invariant.2
