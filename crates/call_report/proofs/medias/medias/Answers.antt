use Rattle.std.proofs.Common.{◌≡◌, ◌∙◌, ap, map, arith}
use Rattle.ng_bencode.specs.Row.{list_in}
use Rattle.ng_bencode.specs.Tree.{tree_of}
use Rattle.call_board.specs.Reports.{leg_value}
use Rattle.call_report.proofs.Pushed.{item_pushed}
use Rattle.call_report.proofs.Found.{found_fits}
use Rattle.call_report.proofs.Sections.{section_passed, section_told, all_sections}
use Rattle.call_report.proofs.medias.medias.Goals as goal

pub sections-preserved-in_default : goal.sections-preserved-in_default
sections-preserved-in_default c = λ config rounds d.
    section_passed rounds c.args.legs.now c.args.side c.sections.section (map tree_of (list_in c.sections.medias)) c.sections-test.true c.in_default.ensures
    (c.sections.invariant config rounds d)

pub leg_value-requires : goal.leg_value-requires
leg_value-requires c = found_fits c.args.legs.now c.args.side c.sections.section c.in-Some.report c.in-Some.ensures c.requires

pub sections-preserved : goal.sections-preserved
sections-preserved c = λ config rounds d.
    section_told rounds c.args.legs.now c.args.side c.sections.section (map tree_of (list_in c.sections.medias)) (map tree_of (list_in c.put_item.new.values)) c.in-Some.report
    c.sections-test.true c.in-Some.ensures
    (ap (map tree_of) c.in_ok-put_item.ensures
    ∙ item_pushed (list_in c.sections.medias) c.in_ok-leg.leg (leg_value rounds c.in-Some.report) (c.in_ok-leg.ensures rounds (c.protocol-profile.ensures config rounds d)))
    (c.sections.invariant config rounds d)

pub returns : goal.returns
returns c = λ config rounds d.
    let last : c.sections.section ≡ 8 = omega (arith, c.sections-test.false, c.sections.auto.section-end) in
    all_sections rounds c.args.legs.now c.args.side c.sections.section (map tree_of (list_in c.sections.medias)) last (c.sections.invariant config rounds d)
