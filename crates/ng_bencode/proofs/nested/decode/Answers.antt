use Rattle.std.proofs.Common.{rules, sym}
use Rattle.std.proofs.lemmas.Result.{err_from_is_err_and}
use Rattle.ng_bencode.specs.Tree.{tree_of}
use Rattle.ng_bencode.proofs.Fitting.{whole_spells, only_spells, none_spells, none_read}
use Rattle.ng_bencode.proofs.nested.decode.Goals as goal

pub returns-then-is_empty-clause-value : goal.returns-then-is_empty-clause-value
returns-then-is_empty-clause-value c =
    whole_spells c.args.bytes.now c.in_ok-value.rest.now (tree_of c.in_ok-value.value) c.in_ok-value.ensures.fits c.in_ok-value.ensures.value (sym c.if-is_empty.ensures)

pub returns-then-is_empty-clause-only : goal.returns-then-is_empty-clause-only
returns-then-is_empty-clause-only c tree spells =
    (only_spells c.args.bytes.now c.in_ok-value.rest.now (tree_of c.in_ok-value.value) tree c.in_ok-value.ensures.fits c.in_ok-value.ensures.value (search rules) spells).0

pub returns-else-is_empty-clause-cause : goal.returns-else-is_empty-clause-cause
returns-else-is_empty-clause-cause c is tree spells =
    none_spells c.args.bytes.now c.in_ok-value.rest.now (tree_of c.in_ok-value.value) tree c.in_ok-value.ensures.fits c.in_ok-value.ensures.value (search rules) (sym c.if-is_empty.ensures) spells

pub returns-in_err-value-clause-cause : goal.returns-in_err-value-clause-cause
returns-in_err-value-clause-cause c =
    let p = err_from_is_err_and c.from_residual.result c.from_residual.ensures.1 in
    rw (p.1, p.2) (λ is tree spells.
    none_read c.args.bytes.now (c.in_err-value.ensures.cause is) (search rules) tree spells)
