use Rattle.std.proofs.Common.{sym, subst}
use Rattle.sdes_lines.specs.LineParts.{IsTagNumeral}
use Rattle.sdes_lines.proofs.Tags.{tag_numeral, numeral_tag, tag_value}
use Rattle.sdes_lines.proofs.read.tag_number.Goals as goal

pub returns-then-is_tag_numeral-clause-sound : goal.returns-then-is_tag_numeral-clause-sound
returns-then-is_tag_numeral-clause-sound c =
    rw c.digits_number.ensures (numeral_tag c.args.digits.now c.requires (c.is_tag_numeral.ensures.0 c.if-is_tag_numeral.true))

pub returns-then-is_tag_numeral-clause-complete : goal.returns-then-is_tag_numeral-clause-complete
returns-then-is_tag_numeral-clause-complete c = λ tag is_tag is.
    let value = tag_value c.args.digits.now tag is_tag is in
    cc (value, c.digits_number.ensures)

pub returns-else-is_tag_numeral-clause-complete : goal.returns-else-is_tag_numeral-clause-complete
returns-else-is_tag_numeral-clause-complete c = λ tag is_tag is.
    let numeral : IsTagNumeral c.args.digits.now = subst IsTagNumeral (sym is) (tag_numeral tag is_tag) in
    let yes = c.is_tag_numeral.ensures.1 numeral in
    cc (yes, c.if-is_tag_numeral.false)
