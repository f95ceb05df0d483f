use Rattle.std.proofs.Common.{sym, subst}
use Rattle.std.proofs.lemmas.Result.{err_from_is_err_and}
use Rattle.ng_bencode.specs.Row.{list_in}
use Rattle.ng_bencode.specs.Tree.{Dict, pairs_of}
use Rattle.ng_bencode.specs.Spells.{Spells}
use Rattle.ng_command.proofs.Told.{read_so, undecoded}
use Rattle.ng_command.proofs.parser.read.Goals as goal

pub returns-in_err-value : goal.returns-in_err-value
returns-in_err-value c =
    let p = err_from_is_err_and c.from_residual.result c.from_residual.ensures.1 in
    rw (p.1, p.2) (undecoded c.args.body.now c.in_err-value.field-0.0 c.in_err-value.ensures.cause)

pub returns-in-Some : goal.returns-in-Some
returns-in-Some c =
    read_so c.args.body.now (pairs_of (list_in c.in-Some.pairs.now)) c.read_pairs.result
    (subst (λ tree. Spells c.args.body.now tree) c.in-Some.ensures c.in_ok-value.ensures.value) c.read_pairs.ensures

pub returns : goal.returns
returns c pairs spells = c.in-None.ensures pairs (sym (c.in_ok-value.ensures.only (Dict pairs) spells))
