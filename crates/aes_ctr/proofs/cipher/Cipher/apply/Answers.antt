use Rattle.std.proofs.Common.{arith, refl, ◌*◌}
use Rattle.std.specs.Int.{w128, to_be_bytes}
use Rattle.aes_ctr.proofs.StreamLemmas.{applied_none, applied_more, applied_all}
use Rattle.aes_ctr.proofs.cipher.Cipher.apply.Goals as goal

pub counters-init : goal.counters-init
counters-init c = applied_none _ _ _

pub counters-preserved : goal.counters-preserved
counters-preserved c =
    applied_more c.args.self.now c.args.iv c.args.bytes.now c.counters.bytes (to_be_bytes w128 c.keystream_block-stream.result) c.xor_into.new.bytes c.counters.index _ _
    c.counters.auto.bytes (omega arith) refl (omega arith) c.keystream_block-stream.ensures c.xor_into.ensures c.counters.invariant

pub returns : goal.returns
returns c = applied_all c.args.self.now c.args.iv c.args.bytes.now c.counters.bytes (16 * c.counters.index) c.counters.auto.bytes (omega arith) c.counters.invariant
