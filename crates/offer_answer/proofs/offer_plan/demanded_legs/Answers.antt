use Rattle.std.proofs.Common.{◌<◌, ◌≤◌, ◌++◌, ◌&&◌, ℕ, not, map, sym, ap, ◌∙◌, arith}
use Rattle.offer_answer.specs.Sections.{section_count}
use Rattle.offer_answer.specs.Offers.{leg_asked, legs_asked}
use Rattle.offer_answer.specs.Shapes.{shape_of, is_active_at}
use Rattle.offer_answer.specs.declared.leg.DialogSection.{DialogSection}
use Rattle.offer_answer.proofs.Offering.{count-heard, legs_left, legs-gathered, legs-are, legs-begin, legs-end}
use Rattle.offer_answer.proofs.Shapes.{demanded-none, demanded-more, demanded-all}
use Rattle.offer_answer.proofs.Places.{legs-none, legs-more, legs-all}
use Rattle.offer_answer.proofs.offer_plan.demanded_legs.Goals as goal

pub loop-index-init : goal.loop-index-init
loop-index-init c = record {
  legs = λ config rounds ask s h t e.
      ap (λ xs. map leg_asked xs ++ legs_left rounds ask 0 (section_count ask.sdp)) c.new-legs.ensures.items ∙ legs-begin rounds ask;
  sections = demanded-none _ _ c.new-legs.ensures.items;
  pairs = legs-none _ c.new-legs.ensures.items;
}

pub loop-index-preserved : goal.loop-index-preserved
loop-index-preserved c = record {
  legs = λ config rounds ask s h t e.
      let i : ℕ = c.loop-index.index in
      let n : ℕ = section_count ask.sdp in
      let below : i < n = omega (arith, c.loop-index-test.true, c.section_count-index-end.ensures.count, count-heard c.args.sdp.now ask h) in
      let o = c.offered_section-offered.result in
      legs-gathered rounds ask i n (legs_asked o c.args.options.now i c.args.side) c.loop-index.legs.items c.push_legs.new.legs.items below
      (legs-are config rounds ask i o c.args.options.now c.args.side (c.offered_section-offered.ensures.offered config rounds ask s h) t e) c.in_ok-push_legs.ensures
      ∙ c.loop-index.invariant.legs config rounds ask s h t e;
  sections =
      let i : ℕ = c.loop-index.index in
      let o = c.offered_section-offered.result in
      demanded-more (λ section. is_active_at c.args.sdp.now section && not (shape_of c.args.dialog.now section).has_pairs)
      o c.args.options.now i c.args.side c.loop-index.legs.items c.push_legs.new.legs.items c.in_ok-push_legs.ensures
      (ap (λ b. b && not o.kept.has_pairs) c.offered_section-offered.ensures.active
      ∙ ap (λ (d : DialogSection). is_active_at c.args.sdp.now i && not d.has_pairs) c.offered_section-offered.ensures.kept)
      c.loop-index.invariant.sections;
  pairs =
      legs-more c.offered_section-offered.result c.args.options.now c.loop-index.index c.args.side c.loop-index.legs.items c.push_legs.new.legs.items
      (omega (arith, c.loop-index-test.true, c.section_count-index-end.ensures.most)) c.in_ok-push_legs.ensures c.loop-index.invariant.pairs;
}

pub returns-clause-legs : goal.returns-clause-legs
returns-clause-legs c = λ config rounds ask s h t e.
    let past : section_count ask.sdp ≤ c.loop-index.index = omega (arith, c.loop-index-test.false, c.section_count-index-end.ensures.count, count-heard c.args.sdp.now ask h) in
    sym (legs-end rounds ask c.loop-index.index (section_count ask.sdp) (map leg_asked c.loop-index.legs.items) past) ∙ c.loop-index.invariant.legs config rounds ask s h t e

pub returns-clause-sections : goal.returns-clause-sections
returns-clause-sections c = λ section.
    demanded-all c.args.sdp.now (λ k. not (shape_of c.args.dialog.now k).has_pairs) c.loop-index.index c.loop-index.legs.items section
    (omega (arith, c.loop-index-test.false, c.section_count-index-end.ensures.count)) c.loop-index.invariant.sections

pub returns-clause-pairs : goal.returns-clause-pairs
returns-clause-pairs c = legs-all c.loop-index.index c.loop-index.legs.items c.loop-index.invariant.pairs
