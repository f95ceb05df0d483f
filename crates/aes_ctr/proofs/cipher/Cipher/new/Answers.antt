use Rattle.aes_ctr.proofs.cipher.Cipher.new.Goals as goal

pub invariant_of-result : goal.invariant_of-result
invariant_of-result c = c.schedule_words.ensures
