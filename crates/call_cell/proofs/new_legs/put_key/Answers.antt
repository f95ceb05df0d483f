use Rattle.std.proofs.Common.{sym, ◌∙◌}
use Rattle.call_cell.proofs.Joined.{put_at, put_nowhere}
use Rattle.call_cell.proofs.Shaped.{shape_put, shape_nowhere, ends_put, counts_put}
use Rattle.call_cell.proofs.Forms.{forms_put}
use Rattle.call_cell.proofs.new_legs.put_key.Goals as goal

pub returns-in-Some-clause-legs : goal.returns-in-Some-clause-legs
returns-in-Some-clause-legs g c apart =
    put_at c.args.key c.args.legs.now c.in-Some.at c.index-legs-at.result c.put.new.self apart (sym c.place_for.ensures.place ∙ c.in-Some.is) c.put.ensures

pub returns-in-Some-clause-shape : goal.returns-in-Some-clause-shape
returns-in-Some-clause-shape g c =
    shape_put c.args.key c.args.legs.now c.in-Some.at c.index-legs-at.result c.put.new.self (sym c.place_for.ensures.place ∙ c.in-Some.is) c.put.ensures

pub returns-in-Some-clause-ends : goal.returns-in-Some-clause-ends
returns-in-Some-clause-ends g c = ends_put c.args.key c.args.legs.now c.in-Some.at c.index-legs-at.result c.put.new.self c.put.ensures

pub returns-in-Some-clause-counts : goal.returns-in-Some-clause-counts
returns-in-Some-clause-counts g c = counts_put c.args.key c.args.legs.now c.in-Some.at c.index-legs-at.result c.put.new.self c.put.ensures

pub returns-in_default-clause-legs : goal.returns-in_default-clause-legs
returns-in_default-clause-legs g c apart = put_nowhere c.args.key c.args.legs.now (sym c.place_for.ensures.place ∙ c.in_default.is)

pub returns-in_default-clause-shape : goal.returns-in_default-clause-shape
returns-in_default-clause-shape g c = shape_nowhere c.args.key c.args.legs.now (sym c.place_for.ensures.place ∙ c.in_default.is)

pub returns-in-Some-clause-forms : goal.returns-in-Some-clause-forms
returns-in-Some-clause-forms g c = forms_put c.args.key c.args.legs.now c.in-Some.at c.index-legs-at.result c.put.new.self c.put.ensures
