use Rattle.std.proofs.Common.{◌≡◌, ◌*◌, ◌-◌, length, take}
use Rattle.aes_ctr.specs.Aes.{expanded}
use Rattle.aes_ctr.proofs.key_schedule.expand.Given as goal

abbrev pub invariant-words : goal.invariant-words
invariant-words l = (length l.words ≡ 176) × (take (4 * l.i) l.words ≡ expanded l.fn.key (l.i - 4))
