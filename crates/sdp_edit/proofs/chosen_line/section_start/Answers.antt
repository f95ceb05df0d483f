use Rattle.std.proofs.Common.{◌≡◌, ℕ, List, suc, ◌+◌, ◌<◌, drop, sym, ◌∙◌, ap, arith}
use Rattle.sdp_edit.specs.Places.{up_to_media}
use Rattle.sdp_edit.specs.ChosenLines.{section_lines}
use Rattle.sdp_edit.proofs.Lists.{drop-get}
use Rattle.sdp_edit.proofs.Chosen.{section_here, section_next, section_on}
use Rattle.sdp_edit.proofs.chosen_line.section_start.Goals as goal
use Rattle.sdp_edit.proofs.chosen_line.section_start.Goals.{then-is_media+else-left-eq0, else-is_media}

pub returns-then-left-eq0-clause-lines : goal.returns-then-left-eq0-clause-lines
returns-then-left-eq0-clause-lines c =
    let here = ap (section_lines c.loop-index.left) (drop-get c.args.sdp.now c.loop-index.index c.line.result.now c.line.ensures) in
    let next : suc c.loop-index.index ≡ c.loop-index.index + 1 = omega arith in
    sym c.loop-index.invariant ∙ here ∙ section_here c.line.result.now (drop (suc c.loop-index.index) c.args.sdp.now) c.loop-index.left (sym c.if-is_media.ensures) c.if-left-eq0.true
    ∙ ap (λ n. up_to_media (drop n c.args.sdp.now)) next

pub loop-index-preserved : goal.loop-index-preserved
loop-index-preserved c =
    let left : ℕ = c.loop-index.left in
    let line : List ℕ = c.line.result.now in
    let more : List (List ℕ) = drop (suc c.loop-index.index) c.args.sdp.now in
    let here = ap (section_lines left) (drop-get c.args.sdp.now c.loop-index.index line c.line.ensures) in
    let next : c.loop-index.index + 1 ≡ suc c.loop-index.index = omega arith in
    ap (λ n. section_lines c.if-is_media.left (drop n c.args.sdp.now)) next ∙ elim c.if-is_media.branch [
      | then-is_media+else-left-eq0 w ↦
          let some : 0 < left = omega (arith, w.if-left-eq0.false) in
          ap (λ n. section_lines n more) w.left-is ∙ sym (section_next line more left (sym c.is_media.ensures ∙ w.if-is_media.true) some) ∙ sym here ∙ c.loop-index.invariant
      | else-is_media w ↦
          ap (λ n. section_lines n more) w.left-is ∙ sym (section_on line more left (sym c.is_media.ensures ∙ w.if-is_media.false)) ∙ sym here ∙ c.loop-index.invariant
    ]
