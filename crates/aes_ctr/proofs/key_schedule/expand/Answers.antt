use Rattle.std.proofs.Common.{◌≡◌, ◌+◌, arith, length, sym, ap, take, ◌∙◌}
use Rattle.std.proofs.lemmas.List.{take_all}
use Rattle.aes_ctr.specs.Aes.{expanded}
use Rattle.aes_ctr.proofs.Expanding.{expanded_more, take-key_schedule}
use Rattle.aes_ctr.proofs.key_schedule.expand.Goals as goal

pub words-init : goal.words-init
unfolding expanded
words-init c =
    let size : 0 + length c.args.key ≡ 16 = omega arith in
    (c.put.ensures.length, rw size at c.put.ensures.begins)

pub words-preserved : goal.words-preserved
words-preserved c = (c.put-in-words.ensures.length, expanded_more c.words.words c.args.key c.next_word-word.result c.put-in-words.new.words c.words.i c.words.auto.i (omega arith) c.words.invariant.1 c.next_word-word.ensures c.put-in-words.ensures.begins)

pub returns-clause-words : goal.returns-clause-words
returns-clause-words c =
    let done : c.words.i ≡ 44 = omega arith in
    sym (take_all 176 c.words.words (omega arith)) ∙ (rw done at c.words.invariant.1)

pub returns-clause-begins : goal.returns-clause-begins
returns-clause-begins c = ap (take 16) (returns-clause-words c) ∙ take-key_schedule c.args.key (omega arith)
