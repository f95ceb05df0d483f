use Rattle.std.proofs.Common.{Some, None, arith}
use Rattle.std.proofs.lemmas.Bool.Decides.{Decides-eqb}
use Rattle.std.proofs.lemmas.Slice.Eq.{strip_prefix_is}
use Rattle.check_scripts.proofs.Texts.{left_behind, differs_here}
use Rattle.check_scripts.proofs.playback.first_difference.Goals as goal

pub returns-in-None : goal.returns-in-None
returns-in-None c =
    let other = strip_prefix_is Decides-eqb c.loop-index.rest.now c.line_of.result.now None c.in-None.ensures.cases in
    ((λ h. cc), (λ h. elim (differs_here c.args.calls.now c.loop-index.index c.index-calls-index.result c.line_of.result.now c.loop-index.rest.now (omega arith) c.index-calls-index.is c.line_of.ensures other c.loop-index.invariant h) [ ]))

pub loop-index-preserved : goal.loop-index-preserved
loop-index-preserved c =
    let begins = strip_prefix_is Decides-eqb c.loop-index.rest.now c.line_of.result.now (Some c.in-Some.more) c.in-Some.ensures.cases in
    left_behind c.args.calls.now c.loop-index.index c.index-calls-index.result c.line_of.result.now c.loop-index.rest.now c.in-Some.more.now (omega arith) c.index-calls-index.is c.line_of.ensures begins c.loop-index.invariant
