use Rattle.std.proofs.Common.{◌∙◌, ap, arith, false}
use Rattle.std.proofs.lemmas.Slice.Eq.{slice_eq-Decides}
use Rattle.std.proofs.lemmas.Bool.Decides.{Decides-eqb}
use Rattle.hex.specs.Hex.{encode_lower}
use Rattle.hex.proofs.HexLemmas.{decode_of-ok}
use Rattle.state_lines.proofs.Numbers.{false_true}
use Rattle.state_lines.proofs.DigitTexts.{not_decoded, other_count, other_digits}
use Rattle.state_lines.proofs.digits.read_digit_line.Goals as goal

pub returns-in-Err-clause-digits : goal.returns-in-Err-clause-digits
returns-in-Err-clause-digits c = not_decoded c.args.count c.args.line.now c.in-Err.error c.refusal.result c.refusal.ensures c.in-Err.ensures.err

pub returns-then-len-count-clause-digits : goal.returns-then-len-count-clause-digits
returns-then-len-count-clause-digits c = other_count c.args.count c.args.line.now c.in-Ok.bytes.items c.in-Ok.ensures.ok (λ same. c.if-len-count.true (let log = c.len.ensures in let ok = c.in-Ok.bytes.ok in omega (arith, log, same, ok)))

pub returns-else-eq-clause-digits : goal.returns-else-eq-clause-digits
returns-else-eq-clause-digits c = other_digits c.args.count c.args.line.now c.in-Ok.bytes.items c.in-Ok.ensures.ok (λ same.
    false_true ((slice_eq-Decides Decides-eqb c.as_bytes.result.now c.args.line.now false c.if-eq.ensures).1
    (c.as_bytes.ensures.value ∙ c.in-Ok-encode.ensures ∙ ap encode_lower c.as_slice.ensures.value ∙ same)))

pub returns-then-eq-clause-bytes : goal.returns-then-eq-clause-bytes
returns-then-eq-clause-bytes c = (decode_of-ok c.args.line.now c.in-Ok.bytes.items c.in-Ok.ensures.ok).3
