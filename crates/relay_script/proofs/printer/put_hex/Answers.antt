use Rattle.std.proofs.Common.{◌++◌, sym, ◌∙◌, ap, arith, append-nil}
use Rattle.relay_script.proofs.Payloads.{encode_none, encode_more}
use Rattle.relay_script.proofs.printer.put_hex.Goals as goal

pub loop-byte-init : goal.loop-byte-init
loop-byte-init c = record {
  list = sym (append-nil c.reserve.new.self.list) ∙ ap (λ t. c.reserve.new.self.list ++ t) (sym encode_none);
  room = omega (arith, c.in_ok-reserve.ensures.room, c.in-Some.ensures);
}

pub loop-byte-preserved : goal.loop-byte-preserved
loop-byte-preserved c = record {
  list = encode_more c.reserve.new.self.list c.args.bytes.now c.loop-byte.line.list c.push_pair.new.line.list c.loop-byte.byte-index (omega arith) c.loop-byte.invariant.list c.push_pair.ensures.list;
  room = omega arith;
}
