use Rattle.std.proofs.Common.{◌≡◌, ◌+◌, ◌-◌, ◌<◌, ◌≤◌, ◌||◌, ℕ, true, false, sym, ap, ◌∙◌, arith}
use Rattle.std.specs.List.{list_any}
use Rattle.histories.specs.Words.{numbers}
use Rattle.offer_answer.specs.Sections.{section_count}
use Rattle.offer_answer.specs.Faults.{takes_no_line}
use Rattle.offer_answer.proofs.AnswerParts.{count-answered, takes-is, any-left, any-end}
use Rattle.offer_answer.proofs.answer_plan.takes_no_line.Goals as goal

pub returns-then-takes_no_line : goal.returns-then-takes_no_line
returns-then-takes_no_line c = λ config rounds offer ask s i h.
    let k : ℕ = c.loop-index.index in
    let n : ℕ = section_count ask.sdp in
    let below : k < n = omega (arith, c.loop-index-test.true, c.section_count-index-end.ensures.count, count-answered c.args.sdp.now rounds ask h) in
    let yes : takes_no_line offer ask k ≡ true =
    sym (takes-is config rounds offer ask k c.answered_section.result (c.answered_section.ensures.answered config rounds offer ask s i h)) ∙ sym c.takes_no_line.ensures ∙ c.if-takes_no_line.true in
    sym (c.loop-index.invariant config rounds offer ask s i h ∙ any-left (takes_no_line offer ask) k n below
    ∙ ap (λ b. b || list_any (takes_no_line offer ask) (numbers (k + 1) (n - (k + 1)))) yes)

pub loop-index-preserved : goal.loop-index-preserved
loop-index-preserved c = λ config rounds offer ask s i h.
    let k : ℕ = c.loop-index.index in
    let n : ℕ = section_count ask.sdp in
    let below : k < n = omega (arith, c.loop-index-test.true, c.section_count-index-end.ensures.count, count-answered c.args.sdp.now rounds ask h) in
    let no : takes_no_line offer ask k ≡ false =
    sym (takes-is config rounds offer ask k c.answered_section.result (c.answered_section.ensures.answered config rounds offer ask s i h)) ∙ sym c.takes_no_line.ensures ∙ c.if-takes_no_line.false in
    c.loop-index.invariant config rounds offer ask s i h ∙ any-left (takes_no_line offer ask) k n below
    ∙ ap (λ b. b || list_any (takes_no_line offer ask) (numbers (k + 1) (n - (k + 1)))) no

pub returns : goal.returns
returns c = λ config rounds offer ask s i h.
    let k : ℕ = c.loop-index.index in
    let n : ℕ = section_count ask.sdp in
    let past : n ≤ k = omega (arith, c.loop-index-test.false, c.section_count-index-end.ensures.count, count-answered c.args.sdp.now rounds ask h) in
    sym (c.loop-index.invariant config rounds offer ask s i h ∙ any-end (takes_no_line offer ask) k n past)
