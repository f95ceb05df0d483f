use Rattle.std.proofs.Common.{◌≡◌, ◌-◌}
use Rattle.aes_ctr.specs.Aes.{aes_rounds, key_schedule}
use Rattle.aes_ctr.specs.Columns.{column_bytes}
use Rattle.aes_ctr.proofs.cipher.Cipher.enciphered.Given as goal

abbrev pub invariant-rounds : goal.invariant-rounds
invariant-rounds l = column_bytes l.words ≡ aes_rounds (key_schedule l.self) (column_bytes l.fn.start) (l.round - 1)
