use Rattle.std.proofs.Common.{◌≡◌, ◌+◌, ◌*◌, take, get_or, ◌∙◌, sym, arith}
use Rattle.std.proofs.lemmas.Int.Digits.{digits_value_more}
use Rattle.std.specs.Char.{digit_value}
use Rattle.std.specs.Str.Parse.{digits_value}
use Rattle.sdes_lines.proofs.Digits.{digit_number, value_so_far}
use Rattle.sdes_lines.proofs.read.digits_number.Goals as goal

pub overflow_mul-number : goal.overflow_mul-number
overflow_mul-number c =
    let far = value_so_far c.args.digits.now c.loop-digit.digit-index c.requires.digits c.requires.short (omega arith) in
    let number : c.loop-digit.number ≡ digits_value 10 (take c.loop-digit.digit-index c.args.digits.now) = c.loop-digit.invariant in
    omega arith

pub overflow_sub-digit : goal.overflow_sub-digit
overflow_sub-digit c =
    let digit = digit_number c.args.digits.now c.loop-digit.digit-index c.requires.digits (omega arith) in
    omega arith

pub overflow_add-number : goal.overflow_add-number
overflow_add-number c =
    let far = value_so_far c.args.digits.now c.loop-digit.digit-index c.requires.digits c.requires.short (omega arith) in
    let digit = digit_number c.args.digits.now c.loop-digit.digit-index c.requires.digits (omega arith) in
    let number : c.loop-digit.number ≡ digits_value 10 (take c.loop-digit.digit-index c.args.digits.now) = c.loop-digit.invariant in
    omega arith

pub loop-digit-preserved : goal.loop-digit-preserved
loop-digit-preserved c =
    let digit = digit_number c.args.digits.now c.loop-digit.digit-index c.requires.digits (omega arith) in
    let more = digits_value_more 10 c.args.digits.now c.loop-digit.digit-index (omega arith) in
    let number : c.loop-digit.number ≡ digits_value 10 (take c.loop-digit.digit-index c.args.digits.now) = c.loop-digit.invariant in
    let step : c.loop-digit.number * 10 + c.from.result ≡ digits_value 10 (take c.loop-digit.digit-index c.args.digits.now) * 10 + digit_value (get_or c.args.digits.now c.loop-digit.digit-index 0) = omega arith in
    step ∙ sym more
