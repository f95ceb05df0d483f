use Rattle.std.proofs.Common.{sym, ◌∙◌, arith, decimal}
use Rattle.ng_bencode.proofs.Numbers.{same_front, free_decimal}
use Rattle.ng_bencode.proofs.scan.read_length.Goals as goal

pub returns-in-None : goal.returns-in-None
returns-in-None c n rest small e =
    c.in-None.ensures n small ((same_front 58 c.in-Some.digits.now (decimal n) c.in-Some.rest.now rest c.in-Some.ensures.first (free_decimal 58 n (omega arith) small) (sym c.in-Some.ensures.found ∙ e)).0)
