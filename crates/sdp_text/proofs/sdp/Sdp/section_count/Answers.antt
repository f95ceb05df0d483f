use Rattle.std.proofs.Common.{ap, map, length, arith}
use Rattle.sdp_text.proofs.Served.{sections_few}
use Rattle.sdp_text.proofs.sdp.Sdp.section_count.Goals as goal

pub returns-clause-most : goal.returns-clause-most
returns-clause-most c =
    omega (arith, c.len.ensures, c.self.inside.sections.ok.0, ap length c.self.invariant.sections, sections_few (map (λ x. x.now) c.self.inside.lines.items) c.self.invariant.sound)
