use Rattle.std.proofs.Common.{◌∙◌}
use Rattle.aes_ctr.proofs.Expanding.{next_word_fourth, next_word_other}
use Rattle.aes_ctr.proofs.key_schedule.next_word.Goals as goal
use Rattle.aes_ctr.proofs.key_schedule.next_word.Goals.{then-i-eq0, else-i-eq0}

pub returns : goal.returns
returns c = elim c.if-i-eq0.branch [
  | then-i-eq0 w ↦ next_word_fourth c.args.words.now _ _ _ _ _ _ c.args.i w.if-i-eq0.true c.word_at-before.ensures w.sub_rotated.ensures w.round_constant.ensures (w.added-is ∙ w.add_words-added.ensures) c.word_at.ensures c.add_words.ensures
  | else-i-eq0 w ↦ next_word_other c.args.words.now _ _ _ c.args.i w.if-i-eq0.false (w.added-is ∙ c.word_at-before.ensures) c.word_at.ensures c.add_words.ensures
]
