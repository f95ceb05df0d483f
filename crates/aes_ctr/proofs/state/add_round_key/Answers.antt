use Rattle.std.proofs.Common.{get_or}
use Rattle.aes_ctr.specs.Aes.{add_round_key}
use Rattle.aes_ctr.proofs.Columns.{same_state, word_bytes-xor}
use Rattle.aes_ctr.proofs.state.add_round_key.Goals as goal

pub returns : goal.returns
unfolding add_round_key
returns c =
    same_state (word_bytes-xor (get_or c.args.s 0 0) (get_or c.args.key 0 0)) (word_bytes-xor (get_or c.args.s 1 0) (get_or c.args.key 1 0))
    (word_bytes-xor (get_or c.args.s 2 0) (get_or c.args.key 2 0)) (word_bytes-xor (get_or c.args.s 3 0) (get_or c.args.key 3 0))
