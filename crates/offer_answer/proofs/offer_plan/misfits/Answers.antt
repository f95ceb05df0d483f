use Rattle.std.proofs.Common.{◌≡◌, ◌+◌, ◌-◌, ◌<◌, ◌≤◌, ℕ, true, false, ◌&&◌, ◌||◌, filter, sym, ap, ◌∙◌, arith}
use Rattle.std.specs.List.{list_any}
use Rattle.histories.specs.Words.{numbers}
use Rattle.offer_answer.specs.Sections.{section_count, is_active_in}
use Rattle.offer_answer.specs.Faults.{misfits_offerer}
use Rattle.offer_answer.proofs.Offering.{count-heard, misfits-is, any-next, numbers-end}
use Rattle.offer_answer.proofs.offer_plan.misfits.Goals as goal

pub returns-then-misfits : goal.returns-then-misfits
returns-then-misfits c = λ config rounds ask s h e m.
    let i : ℕ = c.loop-index.index in
    let n : ℕ = section_count ask.sdp in
    let below : i < n = omega (arith, c.loop-index-test.true, c.section_count-index-end.ensures.count, count-heard c.args.sdp.now ask h) in
    let yes : (is_active_in ask.sdp i && misfits_offerer rounds ask i) ≡ true =
    sym (misfits-is config rounds ask i c.offered_section.result c.args.options.now c.args.side (c.offered_section.ensures.offered config rounds ask s h) e m) ∙ sym c.misfits.ensures ∙ c.if-misfits.true in
    sym (c.loop-index.invariant config rounds ask s h e m ∙ any-next (misfits_offerer rounds ask) (is_active_in ask.sdp) i n below
    ∙ ap (λ b. b || list_any (misfits_offerer rounds ask) (filter (is_active_in ask.sdp) (numbers (i + 1) (n - (i + 1))))) yes)

pub loop-index-preserved : goal.loop-index-preserved
loop-index-preserved c = λ config rounds ask s h e m.
    let i : ℕ = c.loop-index.index in
    let n : ℕ = section_count ask.sdp in
    let below : i < n = omega (arith, c.loop-index-test.true, c.section_count-index-end.ensures.count, count-heard c.args.sdp.now ask h) in
    let no : (is_active_in ask.sdp i && misfits_offerer rounds ask i) ≡ false =
    sym (misfits-is config rounds ask i c.offered_section.result c.args.options.now c.args.side (c.offered_section.ensures.offered config rounds ask s h) e m) ∙ sym c.misfits.ensures ∙ c.if-misfits.false in
    c.loop-index.invariant config rounds ask s h e m ∙ any-next (misfits_offerer rounds ask) (is_active_in ask.sdp) i n below
    ∙ ap (λ b. b || list_any (misfits_offerer rounds ask) (filter (is_active_in ask.sdp) (numbers (i + 1) (n - (i + 1))))) no

pub returns : goal.returns
returns c = λ config rounds ask s h e m.
    let i : ℕ = c.loop-index.index in
    let n : ℕ = section_count ask.sdp in
    let past : n ≤ i = omega (arith, c.loop-index-test.false, c.section_count-index-end.ensures.count, count-heard c.args.sdp.now ask h) in
    sym (c.loop-index.invariant config rounds ask s h e m ∙ ap (λ ns. list_any (misfits_offerer rounds ask) (filter (is_active_in ask.sdp) ns)) (numbers-end i n past))
