use Rattle.std.proofs.Common.{arith, refl}
use Rattle.aes_ctr.specs.Aes.{key_schedule}
use Rattle.aes_ctr.specs.Columns.{column_bytes}
use Rattle.aes_ctr.proofs.Enciphering.{rounds_first, rounds_more, aes_of_rounds}
use Rattle.aes_ctr.proofs.cipher.Cipher.enciphered.Goals as goal

pub rounds-init : goal.rounds-init
rounds-init c =
    rounds_first (key_schedule c.args.self.now) (column_bytes c.args.start) (column_bytes c.args.start) (column_bytes c.round_key-first.result) (column_bytes c.add_round_key-words.result)
    refl c.round_key-first.ensures c.add_round_key-words.ensures

pub rounds-preserved : goal.rounds-preserved
rounds-preserved c =
    rounds_more (key_schedule c.args.self.now) (column_bytes c.args.start) (column_bytes c.rounds.words) (column_bytes c.mixed-next.result) (column_bytes c.round_key-key.result) (column_bytes c.add_round_key-words-in-rounds.result)
    c.rounds.round c.rounds.auto.round c.rounds.invariant c.mixed-next.ensures c.round_key-key.ensures c.add_round_key-words-in-rounds.ensures

pub returns : goal.returns
returns c =
    aes_of_rounds c.args.self.now (column_bytes c.args.start) (column_bytes c.rounds.words) (column_bytes c.substituted-ended.result) (column_bytes c.round_key-last.result) (column_bytes c.add_round_key.result) _
    c.rounds.round (omega arith) c.rounds.invariant c.substituted-ended.ensures c.round_key-last.ensures c.add_round_key.ensures refl
