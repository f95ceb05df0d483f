use Rattle.std.proofs.Common.{sym, ◌∙◌}
use Rattle.std.specs.Fmt.{signed_decimal}
use Rattle.ng_bencode.proofs.Numbers.{same_front, free_signed}
use Rattle.ng_bencode.proofs.scan.read_int.Goals as goal

pub returns-in-None-clause-number : goal.returns-in-None-clause-number
returns-in-None-clause-number c z rest fits e =
    c.in-None.ensures.number z fits ((same_front 101 c.in-Some.digits.now (signed_decimal z) c.in-Some.rest.now rest c.in-Some.ensures.first (free_signed z fits) (sym c.in-Some.ensures.found ∙ e)).0)
