use Rattle.std.proofs.Common.{refl, sym, ◌∙◌, ap, subst, arith, List}
use Rattle.std.proofs.lemmas.List.{with_items_is}
use Rattle.call_cell.specs.declared.leg.Leg.{Leg}
use Rattle.call_cell.specs.declared.saved.LegSaved.{LegSaved}
use Rattle.call_cell.specs.GivenEnds.{HasEndsFor, GivesEnds}
use Rattle.call_cell.proofs.SavedLegs.{saved_legs}
use Rattle.call_cell.proofs.cell.Cell.from_saved.Goals as goal

pub give_ends-requires-clause-room : goal.give_ends-requires-clause-room
give_ends-requires-clause-room g c =
    subst (λ (l : List LegSaved). HasEndsFor c.args.saved.config l c.args.ends.now.items)
    (sym (ap (λ (l : List (Leg _)). saved_legs l) c.as_mut_slice.ensures.value ∙ c.in_ok-legs.ensures.saved)) c.requires

pub returns-clause-loaded : goal.returns-clause-loaded
returns-clause-loaded g c =
    let items = with_items_is c.in_ok-legs.legs c.give_ends.new.legs (omega (arith, c.give_ends.auto.legs, c.as_mut_slice.ensures.len)) in
    record {
      config = refl;
      moment = refl;
      call = refl;
      began = refl;
      is_committed = refl;
      active = refl;
      legs = sym (
          ap (λ (l : List (Leg _)). saved_legs l) items ∙ c.give_ends.ensures.saved
          ∙ ap (λ (l : List (Leg _)). saved_legs l) c.as_mut_slice.ensures.value ∙ c.in_ok-legs.ensures.saved
          );
    }

pub returns-clause-gives : goal.returns-clause-gives
returns-clause-gives g c =
    let items = with_items_is c.in_ok-legs.legs c.give_ends.new.legs (omega (arith, c.give_ends.auto.legs, c.as_mut_slice.ensures.len)) in
    subst (λ (l : List (Leg _)). GivesEnds c.args.saved.config l c.args.ends.now.items c.give_ends.new.ends.items) (sym items) c.give_ends.ensures.gives
