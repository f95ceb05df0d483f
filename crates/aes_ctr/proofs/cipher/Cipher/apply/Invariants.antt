use Rattle.std.proofs.Common.{◌*◌}
use Rattle.aes_ctr.proofs.StreamLemmas.{Applied}
use Rattle.aes_ctr.proofs.cipher.Cipher.apply.Given as goal

abbrev pub invariant-counters : goal.invariant-counters
invariant-counters l = Applied l.self l.iv l.initial.bytes l.bytes (16 * l.index)
