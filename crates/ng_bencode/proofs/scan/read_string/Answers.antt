use Rattle.std.proofs.Common.{rules, sym, ◌∙◌, ap, arith, length, ◌++◌}
use Rattle.std.proofs.lemmas.List.{length-append}
use Rattle.ng_bencode.proofs.Numbers.{same_length, open_string}
use Rattle.ng_bencode.proofs.scan.read_string.Goals as goal

pub returns-then-len-rest-clause-string : goal.returns-then-len-rest-clause-string
returns-then-len-rest-clause-string c text rest small e =
    let same = same_length c.in-Some.len (length text) c.in-Some.rest.now (text ++ rest) (search rules) small (sym c.in-Some.ensures ∙ e ∙ open_string text rest) in
    omega (arith, same.0, ap length same.1, length-append text rest)
