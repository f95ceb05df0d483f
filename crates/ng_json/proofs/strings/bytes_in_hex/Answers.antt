use Rattle.std.proofs.Common.{◌≡◌, Some, None, length, ap, arith}
use Rattle.ng_json.specs.Strings.{byte_of_digits}
use Rattle.ng_json.proofs.Texts.{hex_end, hex_odd, hex_no, hex_more}
use Rattle.ng_json.proofs.strings.bytes_in_hex.Goals as goal

pub returns-in_default : goal.returns-in_default
returns-in_default c = hex_end c.args.digits.now c.digits.rest.now c.digits.bytes.list c.in_default.ensures c.digits.invariant.read

pub returns-in_default-read_head : goal.returns-in_default-read_head
returns-in_default-read_head c =
    hex_odd c.args.digits.now c.digits.rest.now c.digits.bytes.list c.in-Some.more.now c.in-Some.high c.in-Some.ensures c.in_default-read_head.ensures c.digits.invariant.read

pub returns-in_default-byte_of_digits : goal.returns-in_default-byte_of_digits
returns-in_default-byte_of_digits c =
    let a = c.byte_of_digits.ensures in
    let b = c.in_default-byte_of_digits.is in
    let none : byte_of_digits c.in-Some.high c.in-Some-read_head.low ≡ None = cc in
    hex_no c.args.digits.now c.digits.rest.now c.digits.bytes.list c.in-Some.more.now c.in-Some-read_head.more.now c.in-Some.high c.in-Some-read_head.low c.in-Some.ensures c.in-Some-read_head.ensures none c.digits.invariant.read

pub digits-preserved : goal.digits-preserved
digits-preserved c =
    let a = c.byte_of_digits.ensures in
    let b = c.in-Some-byte_of_digits.is in
    let found : byte_of_digits c.in-Some.high c.in-Some-read_head.low ≡ Some c.in-Some-byte_of_digits.byte = cc in
    record {
      read = rw c.push.ensures.list (hex_more c.args.digits.now c.digits.rest.now c.digits.bytes.list c.in-Some.more.now c.in-Some-read_head.more.now c.in-Some.high c.in-Some-read_head.low c.in-Some-byte_of_digits.byte c.in-Some.ensures c.in-Some-read_head.ensures found c.digits.invariant.read);
      room = omega (arith, c.digits.invariant.room, c.push.ensures.room, ap length c.in-Some.ensures, ap length c.in-Some-read_head.ensures);
    }
