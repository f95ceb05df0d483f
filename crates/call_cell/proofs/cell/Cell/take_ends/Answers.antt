use Rattle.std.proofs.Common.{refl, ◌∙◌, ap, arith, List}
use Rattle.std.proofs.lemmas.List.{with_items_is}
use Rattle.call_cell.specs.declared.leg.Leg.{Leg}
use Rattle.call_cell.specs.TakenEnds.{first_ends, without_first}
use Rattle.call_cell.proofs.cell.Cell.take_ends.Goals as goal

pub returns : goal.returns
returns g c =
    let value = c.as_mut_slice.ensures.value in
    record {
      taken = c.take_first.ensures.taken ∙ ap (λ (l : List (Leg _)). first_ends c.args.self.now.config l) value;
      legs = with_items_is c.args.self.now.legs c.take_first.new.legs (omega (arith, c.take_first.auto.legs, c.as_mut_slice.ensures.len))
          ∙ c.take_first.ensures.legs ∙ ap (λ (l : List (Leg _)). without_first l) value;
      config = refl;
      moment = refl;
      call = refl;
      began = refl;
      is_committed = refl;
      active = refl;
    }
