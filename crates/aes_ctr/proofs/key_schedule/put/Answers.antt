use Rattle.std.proofs.Common.{arith, rules}
use Rattle.std.proofs.lemmas.Slice.{overwrites, take-put_mid}
use Rattle.aes_ctr.proofs.key_schedule.put.Goals as goal

pub returns-clause-length : goal.returns-clause-length
returns-clause-length c = search (rules, overwrites)

pub returns-clause-begins : goal.returns-clause-begins
returns-clause-begins c = rw (← c.copy_from_slice.ensures.after) (take-put_mid c.args.at _ c.args.words.now _ _ (omega arith) (omega arith))
