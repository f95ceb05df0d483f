use Rattle.std.proofs.Common.{subst, arith, ◌∙◌, List, Option, None}
use Rattle.std.proofs.lemmas.List.{length-set}
use Rattle.sdes_lines.specs.declared.crypto_line.CryptoLine.{CryptoLine}
use Rattle.sdp_edit.specs.ChosenLines.{section_lines, IsFirstOf, IsOffered}
use Rattle.offer_answer.specs.Keys.{last_lines}
use Rattle.offer_answer.specs.Plan.{AnswerRead}
use Rattle.offer_answer.proofs.Arrays.{one-more}
use Rattle.offer_answer.proofs.HeardLines.{first-heard}
use Rattle.offer_answer.proofs.dialog.Dialog.hear.Goals as goal

pub loop-section-preserved : goal.loop-section-preserved
loop-section-preserved c = record {
  full = length-set c.loop-section.lines c.loop-section.section c.choose_among.result ∙ c.loop-section.invariant.full;
  done = λ config rounds s.
      one-more (λ k. IsFirstOf (IsOffered (last_lines rounds k)) (section_lines k c.args.sdp.now)) c.loop-section.lines c.loop-section.section c.choose_among.result None
      (omega (arith, c.loop-section-test.true, c.loop-section.invariant.full, c.section_count-count.ensures.most))
      (c.loop-section.invariant.done config rounds s)
      (subst (λ (offered : List (Option CryptoLine)). IsFirstOf (IsOffered offered) (section_lines c.loop-section.section c.args.sdp.now) c.choose_among.result)
      (c.last_lines.ensures config rounds s) c.choose_among.ensures.first);
}

pub returns : goal.returns
unfolding AnswerRead
returns c = λ config rounds ask s read is.
    first-heard (λ section. IsOffered (last_lines rounds section)) c.args.sdp.now ask.sdp ask.chosen c.loop-section.lines c.section_count-count.result
    read is c.section_count-count.ensures.count (omega (arith, c.loop-section.invariant.full, c.section_count-count.ensures.most))
    (λ section below. c.loop-section.invariant.done config rounds s section (omega (arith, below, c.loop-section-test.false)))
