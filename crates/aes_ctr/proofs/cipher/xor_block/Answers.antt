use Rattle.std.proofs.Common.{length, List, ℕ, ap}
use Rattle.aes_ctr.proofs.StreamLemmas.{put-xored}
use Rattle.aes_ctr.proofs.cipher.xor_block.Goals as goal

pub returns : goal.returns
returns c =
    rw (← c.to_be_bytes.ensures) (put-xored c.args.bytes.now c.to_be_bytes.result c.requires (ap (λ (l : List ℕ). length l) c.to_be_bytes.ensures))
