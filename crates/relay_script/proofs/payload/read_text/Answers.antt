use Rattle.std.proofs.Common.{arith}
use Rattle.std.proofs.lemmas.Result.{err_from_is_err_and}
use Rattle.relay_script.proofs.Payloads.{text_more, text_left, text_stuck, piece_shorter, some_left}
use Rattle.relay_script.proofs.payload.read_text.Goals as goal

pub returns-in_err-reserve : goal.returns-in_err-reserve
returns-in_err-reserve c =
    let p = err_from_is_err_and c.from_residual.result c.from_residual.ensures.1 in
    rw (p.1, p.2) tt

pub returns-in_default : goal.returns-in_default
returns-in_default c bytes is =
    let left = c.loop-rest.invariant.left bytes is in
    text_stuck c.loop-rest.rest.now (some_left c.loop-rest.rest.now c.is_empty.result c.is_empty.ensures c.loop-rest-test.true) c.in_default.ensures left.all left.is

pub loop-rest-preserved : goal.loop-rest-preserved
loop-rest-preserved c = record {
  before = rw c.push.ensures.list (text_more c.args.text.now c.loop-rest.bytes.list c.loop-rest.rest.now c.in-Some.more.now c.in-Some.byte c.loop-rest.invariant.before c.in-Some.ensures);
  left = λ all is.
      (let left = c.loop-rest.invariant.left all is in
      text_left c.loop-rest.rest.now c.in-Some.more.now c.in-Some.byte c.in-Some.ensures left.all left.is);
  room = omega (arith, piece_shorter c.loop-rest.rest.now c.in-Some.more.now c.in-Some.byte c.in-Some.ensures);
}
