use Rattle.std.proofs.Common.{sym, ◌∙◌, ap, set}
use Rattle.call_cell.specs.declared.leg.Leg.{Leg}
use Rattle.call_cell.proofs.TakenFirst.{first_at_place, none_there}
use Rattle.call_cell.proofs.taken_ends.take_first.Goals as goal

pub returns-in_default-clause-taken : goal.returns-in_default-clause-taken
returns-in_default-clause-taken g c = sym (none_there c.args.config.now c.args.legs.now (sym c.place_with_ends.ensures.place ∙ c.in_default.is)).0

pub returns-in_default-clause-legs : goal.returns-in_default-clause-legs
returns-in_default-clause-legs g c = sym (none_there c.args.config.now c.args.legs.now (sym c.place_with_ends.ensures.place ∙ c.in_default.is)).1

pub returns-clause-taken : goal.returns-clause-taken
returns-clause-taken g c =
    c.take_ends.ensures.ends
    ∙ sym (first_at_place c.args.config.now c.args.legs.now c.in-Some.at c.index-legs-at.result (sym c.place_with_ends.ensures.place ∙ c.in-Some.is)).taken

pub returns-clause-legs : goal.returns-clause-legs
returns-clause-legs g c =
    ap (λ (leg : Leg _). set c.args.legs.now c.in-Some.at leg) c.take_ends.ensures.rest
    ∙ sym (first_at_place c.args.config.now c.args.legs.now c.in-Some.at c.index-legs-at.result (sym c.place_with_ends.ensures.place ∙ c.in-Some.is)).legs
