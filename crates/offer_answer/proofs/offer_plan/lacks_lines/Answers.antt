use Rattle.std.proofs.Common.{◌≡◌, ◌+◌, ◌-◌, ◌<◌, ◌≤◌, ℕ, true, false, ◌&&◌, ◌||◌, filter, sym, ap, ◌∙◌, arith}
use Rattle.std.specs.List.{list_any}
use Rattle.histories.specs.Words.{numbers}
use Rattle.offer_answer.specs.Sections.{section_count, is_active_in}
use Rattle.offer_answer.specs.Faults.{lacks_line}
use Rattle.offer_answer.proofs.Offering.{count-heard, lacks-is, any-next, numbers-end}
use Rattle.offer_answer.proofs.offer_plan.lacks_lines.Goals as goal

pub returns-then-lacks_line : goal.returns-then-lacks_line
returns-then-lacks_line c = λ config rounds ask s h.
    let i : ℕ = c.loop-index.index in
    let n : ℕ = section_count ask.sdp in
    let below : i < n = omega (arith, c.loop-index-test.true, c.section_count-index-end.ensures.count, count-heard c.args.sdp.now ask h) in
    let yes : (is_active_in ask.sdp i && lacks_line ask i) ≡ true =
    sym (lacks-is config rounds ask i c.offered_section.result (c.offered_section.ensures.offered config rounds ask s h)) ∙ sym c.lacks_line.ensures ∙ c.if-lacks_line.true in
    sym (c.loop-index.invariant config rounds ask s h ∙ any-next (lacks_line ask) (is_active_in ask.sdp) i n below
    ∙ ap (λ b. b || list_any (lacks_line ask) (filter (is_active_in ask.sdp) (numbers (i + 1) (n - (i + 1))))) yes)

pub loop-index-preserved : goal.loop-index-preserved
loop-index-preserved c = λ config rounds ask s h.
    let i : ℕ = c.loop-index.index in
    let n : ℕ = section_count ask.sdp in
    let below : i < n = omega (arith, c.loop-index-test.true, c.section_count-index-end.ensures.count, count-heard c.args.sdp.now ask h) in
    let no : (is_active_in ask.sdp i && lacks_line ask i) ≡ false =
    sym (lacks-is config rounds ask i c.offered_section.result (c.offered_section.ensures.offered config rounds ask s h)) ∙ sym c.lacks_line.ensures ∙ c.if-lacks_line.false in
    c.loop-index.invariant config rounds ask s h ∙ any-next (lacks_line ask) (is_active_in ask.sdp) i n below
    ∙ ap (λ b. b || list_any (lacks_line ask) (filter (is_active_in ask.sdp) (numbers (i + 1) (n - (i + 1))))) no

pub returns : goal.returns
returns c = λ config rounds ask s h.
    let i : ℕ = c.loop-index.index in
    let n : ℕ = section_count ask.sdp in
    let past : n ≤ i = omega (arith, c.loop-index-test.false, c.section_count-index-end.ensures.count, count-heard c.args.sdp.now ask h) in
    sym (c.loop-index.invariant config rounds ask s h ∙ ap (λ ns. list_any (lacks_line ask) (filter (is_active_in ask.sdp) ns)) (numbers-end i n past))
