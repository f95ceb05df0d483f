use Rattle.std.proofs.Common.{◌∙◌, sym}
use Rattle.call_report.proofs.Found.{leg_passed, leg_found}
use Rattle.call_report.proofs.medias.leg_at.Goals as goal

pub returns-then-is_of : goal.returns-then-is_of
returns-then-is_of c =
    sym (c.legs.invariant ∙ leg_found c.args.legs.now c.args.side c.args.section c.legs.index c.get-report.result c.get-report.ensures (sym c.is_of.ensures ∙ c.if-is_of.true))

pub legs-preserved : goal.legs-preserved
legs-preserved c =
    c.legs.invariant ∙ leg_passed c.args.legs.now c.args.side c.args.section c.legs.index c.get-report.result c.get-report.ensures (sym c.is_of.ensures ∙ c.if-is_of.false)
