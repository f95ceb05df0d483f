use Rattle.std.proofs.Common.{◌≡◌, ◌+◌, ◌-◌, ◌<◌, ◌≤◌, ℕ, true, false, ◌&&◌, ◌||◌, filter, sym, ap, ◌∙◌, arith}
use Rattle.std.specs.List.{list_any}
use Rattle.histories.specs.Words.{numbers}
use Rattle.port_pool.specs.Signals.{other_side}
use Rattle.offer_answer.specs.Sections.{section_count, is_active_in}
use Rattle.offer_answer.specs.Faults.{misfits_answerer}
use Rattle.offer_answer.proofs.Offering.{any-next, numbers-end}
use Rattle.offer_answer.proofs.AnswerParts.{count-answered, unfit-is}
use Rattle.offer_answer.proofs.answer_plan.misfits.Goals as goal

pub returns-then-misfits : goal.returns-then-misfits
returns-then-misfits c = λ config rounds offer ask s i h e.
    let k : ℕ = c.loop-index.index in
    let n : ℕ = section_count ask.sdp in
    let below : k < n = omega (arith, c.loop-index-test.true, c.section_count-index-end.ensures.count, count-answered c.args.sdp.now rounds ask h) in
    let side = c.other_side-side.ensures ∙ ap other_side i.kept.maker_is in
    let yes : (is_active_in ask.sdp k && misfits_answerer rounds offer ask k) ≡ true =
    sym (unfit-is config rounds offer ask k c.answered_section.result c.args.options.now c.other_side-side.result (c.answered_section.ensures.answered config rounds offer ask s i h) e side)
    ∙ sym c.misfits.ensures ∙ c.if-misfits.true in
    sym (c.loop-index.invariant config rounds offer ask s i h e ∙ any-next (misfits_answerer rounds offer ask) (is_active_in ask.sdp) k n below
    ∙ ap (λ b. b || list_any (misfits_answerer rounds offer ask) (filter (is_active_in ask.sdp) (numbers (k + 1) (n - (k + 1))))) yes)

pub loop-index-preserved : goal.loop-index-preserved
loop-index-preserved c = λ config rounds offer ask s i h e.
    let k : ℕ = c.loop-index.index in
    let n : ℕ = section_count ask.sdp in
    let below : k < n = omega (arith, c.loop-index-test.true, c.section_count-index-end.ensures.count, count-answered c.args.sdp.now rounds ask h) in
    let side = c.other_side-side.ensures ∙ ap other_side i.kept.maker_is in
    let no : (is_active_in ask.sdp k && misfits_answerer rounds offer ask k) ≡ false =
    sym (unfit-is config rounds offer ask k c.answered_section.result c.args.options.now c.other_side-side.result (c.answered_section.ensures.answered config rounds offer ask s i h) e side)
    ∙ sym c.misfits.ensures ∙ c.if-misfits.false in
    c.loop-index.invariant config rounds offer ask s i h e ∙ any-next (misfits_answerer rounds offer ask) (is_active_in ask.sdp) k n below
    ∙ ap (λ b. b || list_any (misfits_answerer rounds offer ask) (filter (is_active_in ask.sdp) (numbers (k + 1) (n - (k + 1))))) no

pub returns : goal.returns
returns c = λ config rounds offer ask s i h e.
    let k : ℕ = c.loop-index.index in
    let n : ℕ = section_count ask.sdp in
    let past : n ≤ k = omega (arith, c.loop-index-test.false, c.section_count-index-end.ensures.count, count-answered c.args.sdp.now rounds ask h) in
    sym (c.loop-index.invariant config rounds offer ask s i h e
    ∙ ap (λ ns. list_any (misfits_answerer rounds offer ask) (filter (is_active_in ask.sdp) ns)) (numbers-end k n past))
