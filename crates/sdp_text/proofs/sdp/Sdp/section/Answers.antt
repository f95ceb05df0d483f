use Rattle.std.proofs.Common.{sym, ap, ◌∙◌, map, slice_get}
use Rattle.sdp_text.proofs.Served.{sections_served}
use Rattle.sdp_text.proofs.sdp.Sdp.section.Goals as goal

pub returns-clause-served : goal.returns-clause-served
returns-clause-served c =
    sections_served (map (λ x. x.now) c.self.inside.lines.items) c.self.invariant.sound c.args.index c.section_at.result (ap (λ xs. slice_get xs c.args.index) (sym (c.as_slice.ensures.value ∙ c.self.invariant.sections)) ∙ c.section_at.ensures)
