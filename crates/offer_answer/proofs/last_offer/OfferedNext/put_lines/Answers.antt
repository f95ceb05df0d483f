use Rattle.std.proofs.Common.{slice_index_or, ap, ◌∙◌, refl}
use Rattle.port_pool.specs.Signals.{other_side}
use Rattle.offer_answer.specs.Dialogs.{leg_at, no_state}
use Rattle.offer_answer.proofs.Nexts.{section-filled, port-filled, family-filled}
use Rattle.offer_answer.proofs.last_offer.OfferedNext.put_lines.Goals as goal

pub returns-clause-filled : goal.returns-clause-filled
returns-clause-filled c = λ config rounds ask ports keys n drawn. record {
  last_for = record {
    from_tag_is = n.last_for.from_tag_is;
    maker_is = n.last_for.maker_is;
    options_are = n.last_for.options_are;
    count_is = n.last_for.count_is;
    few = n.last_for.few;
    heard = n.last_for.heard;
    sections_are = c.sections_with_lines-sections.ensures.made config rounds ask ports keys (c.other_side-side.ensures ∙ ap other_side n.last_for.maker_is) n.last_for.sections_are n.sections_are;
  };
  ports_are = λ section side below active.
      port-filled config rounds ask ports keys section side (leg_at (slice_index_or c.args.self.now.sections section no_state) side)
      ((n.sections_are section below).legs_are side) active;
  families_are = λ section side below active.
      family-filled config rounds ask ports keys section side (leg_at (slice_index_or c.args.self.now.sections section no_state) side)
      ((n.sections_are section below).legs_are side) active;
  sections_are = λ legs section leased below.
      section-filled config rounds ask ports legs keys section (slice_index_or c.args.self.now.sections section no_state) (n.sections_are section below) drawn leased;
}

pub returns-clause-same : goal.returns-clause-same
returns-clause-same c = record {
  options_are = refl;
  count_is = refl;
  sections_are = c.sections_with_lines-sections.ensures.same;
}
