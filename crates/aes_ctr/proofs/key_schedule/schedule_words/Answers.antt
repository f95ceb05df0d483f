use Rattle.std.proofs.Common.{◌<◌, ◌≢◌, ℕ, List, length, arith, ap, ◌∙◌, below_more, get_or-set_other, get_or-set_same, length-set}
use Rattle.aes_ctr.specs.Aes.{word_at}
use Rattle.aes_ctr.specs.Columns.{word_bytes}
use Rattle.aes_ctr.proofs.key_schedule.schedule_words.Goals as goal

pub words-preserved : goal.words-preserved
words-preserved c = record {
  long = omega (arith, length-set {A = ℕ});
  done =
      below_more _ _
      (λ k h.
      let apart : k ≢ c.words.i = omega arith in
      ap word_bytes (get_or-set_other c.words.words c.words.i k c.column.result 0 apart) ∙ c.words.invariant.done k h)
      (let lt : c.words.i < length c.words.words = omega arith in
      ap word_bytes (get_or-set_same c.words.words c.words.i c.column.result 0 lt) ∙ c.column.ensures);
}

pub returns : goal.returns
returns c = record {
  long = omega arith;
  each = λ i lt. c.words.invariant.done i (omega arith) ∙ ap (λ (l : List ℕ). word_at l i) c.expand-bytes.ensures.words;
}
