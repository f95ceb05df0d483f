use Rattle.std.proofs.Common.{arith}
use Rattle.aes_ctr.proofs.StreamLemmas.{xored_by_places}
use Rattle.aes_ctr.proofs.cipher.xor_rest.Goals as goal

pub returns : goal.returns
returns c = xored_by_places c.args.bytes.now c.args.stream.now c.bytes.bytes (omega arith) (omega arith) (λ i h. c.bytes.invariant.done i (omega arith))
