use Rattle.std.proofs.Common.{ap, ◌∙◌}
use Rattle.port_pool.specs.Signals.{other_side}
use Rattle.offer_answer.proofs.NextLegs.{written-over}
use Rattle.offer_answer.proofs.offered_section.OfferedSection.made.Goals as goal

pub returns : goal.returns
returns c = λ config rounds ask section f t m. record {
  section_is = f.section_is;
  line_is = f.line_is;
  written_is = written-over rounds ask section c.other_side.result c.profile.result (c.profile.ensures config rounds ask section f t m) (c.other_side.ensures ∙ ap other_side m);
}
