use Rattle.std.proofs.Common.{ℕ, arith}
use Rattle.sdp_edit.specs.ChosenLines.{IsAny}
use Rattle.offer_answer.specs.Plan.{OfferRead}
use Rattle.offer_answer.proofs.HeardLines.{first-heard}
use Rattle.offer_answer.proofs.chosen_lines.ChosenLines.of_offer.Goals as goal

pub returns : goal.returns
unfolding OfferRead
returns c = λ ask read is.
    first-heard (λ (section : ℕ). IsAny) c.args.sdp.now ask.sdp ask.chosen c.loop-section.lines c.section_count-count.result
    read is c.section_count-count.ensures.count (omega (arith, c.loop-section.invariant.full, c.section_count-count.ensures.most))
    (λ section below. c.loop-section.invariant.done section (omega (arith, below, c.loop-section-test.false)))
