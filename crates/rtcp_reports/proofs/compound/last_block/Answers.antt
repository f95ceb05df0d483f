use Rattle.std.proofs.Common.{◌≡◌, ◌∙◌, sym, ap, refl, ◌-◌, length, take, drop, List, ℕ, true, false, length-drop}
use Rattle.std.proofs.Math.Seq.{take-length}
use Rattle.histories.specs.Words.{or_else}
use Rattle.rtcp_reports.specs.ReportBlocks.{last_report_block}
use Rattle.rtcp_reports.proofs.Parts.{found, one_more}
use Rattle.rtcp_reports.proofs.compound.last_block.Goals as goal

pub parts-preserved : goal.parts-preserved
parts-preserved c =
    let left : List ℕ = drop c.in-Some.size c.parts.rest.now in
    let all : take (length c.parts.rest.now - c.in-Some.size) left ≡ left =
    ap (λ (n : ℕ). take n left) (sym (length-drop c.in-Some.size c.parts.rest.now)) ∙ take-length left in
    one_more c.args.packet.now c.parts.rest.now c.parts.last c.last_in_part.result c.or-last.result c.in-Some.size c.parts.invariant
    (c.in-Some.ensures.begins.0 refl) c.in-Some.ensures.size c.last_in_part.ensures c.or-last.ensures
    ∙ ap (λ (bytes : List ℕ). or_else (last_report_block bytes) c.or-last.result) (sym all)

pub returns : goal.returns
returns c =
    found c.args.packet.now c.parts.rest.now c.parts.last c.parts.invariant (λ begins. let e : false ≡ true = c.in_default.ensures.begins.1 begins in cc)
