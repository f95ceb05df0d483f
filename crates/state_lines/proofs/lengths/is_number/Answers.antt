use Rattle.std.proofs.Common.{sym, ◌∙◌, ◌==◌, length, refl}
use Rattle.std.proofs.lemmas.Bool.{eqb-true}
use Rattle.state_lines.proofs.Numbers.{some_or_none, no_number_empty, alone_or_none, digits_or_none}
use Rattle.state_lines.proofs.lengths.is_number.Goals as goal

pub returns-then-is_empty : goal.returns-then-is_empty
returns-then-is_empty c = no_number_empty c.args.digits.now (eqb-true (length c.args.digits.now) 0 (sym c.is_empty.ensures ∙ c.if-is_empty.true))

pub returns : goal.returns
returns c = digits_or_none c.args.digits.now c.are_digits.result c.are_digits.ensures

pub returns-then-digits-eq48 : goal.returns-then-digits-eq48
returns-then-digits-eq48 c =
    alone_or_none c.args.digits.now (length c.args.digits.now == 1) refl (some_or_none c.args.digits.now c.is_empty.result c.is_empty.ensures c.if-is_empty.false) c.if-digits-eq48.true
