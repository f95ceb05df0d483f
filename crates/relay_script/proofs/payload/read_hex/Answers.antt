use Rattle.std.proofs.Common.{arith}
use Rattle.std.proofs.lemmas.Result.{err_from_is_err_and}
use Rattle.relay_script.proofs.Payloads.{hex_start, hex_more, hex_left, hex_stuck, hex_longer, some_left}
use Rattle.relay_script.proofs.payload.read_hex.Goals as goal

pub returns-in_err-reserve : goal.returns-in_err-reserve
returns-in_err-reserve c =
    let p = err_from_is_err_and c.from_residual.result c.from_residual.ensures.1 in
    rw (p.1, p.2) tt

pub loop-rest-init : goal.loop-rest-init
loop-rest-init c = record {
  before = rw (c.in_ok-reserve.ensures.list, c.new-bytes.ensures) (hex_start c.args.digits.now);
  left = λ all is. record { all = all; is = is };
  room = omega (arith, c.in_ok-reserve.ensures.room);
}

pub returns-in_default : goal.returns-in_default
returns-in_default c bytes is =
    let left = c.loop-rest.invariant.left bytes is in
    hex_stuck c.loop-rest.rest.now (some_left c.loop-rest.rest.now c.is_empty.result c.is_empty.ensures c.loop-rest-test.true) c.in_default.ensures.digits left.all left.is

pub push-requires : goal.push-requires
push-requires c = omega (arith, hex_longer c.loop-rest.rest.now c.in-Some.more.now c.in-Some.byte c.in-Some.ensures.digits)

pub loop-rest-smaller : goal.loop-rest-smaller
loop-rest-smaller c = omega (arith, hex_longer c.loop-rest.rest.now c.in-Some.more.now c.in-Some.byte c.in-Some.ensures.digits)

pub loop-rest-preserved : goal.loop-rest-preserved
loop-rest-preserved c = record {
  before = rw c.push.ensures.list (hex_more c.args.digits.now c.loop-rest.bytes.list c.loop-rest.rest.now c.in-Some.more.now c.in-Some.byte c.loop-rest.invariant.before c.in-Some.ensures.byte c.in-Some.ensures.digits);
  left = λ all is.
      (let left = c.loop-rest.invariant.left all is in
      hex_left c.loop-rest.rest.now c.in-Some.more.now c.in-Some.byte c.in-Some.ensures.byte c.in-Some.ensures.digits left.all left.is);
  room = omega (arith, hex_longer c.loop-rest.rest.now c.in-Some.more.now c.in-Some.byte c.in-Some.ensures.digits);
}
