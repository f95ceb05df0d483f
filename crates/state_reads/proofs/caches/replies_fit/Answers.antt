use Rattle.std.proofs.Common.{All, subst}
use Rattle.std.proofs.lemmas.List.{take_all}
use Rattle.std.proofs.lemmas.List.Elements.{All-more}
use Rattle.state_values.specs.CacheTrees.{FitsSavedReply}
use Rattle.state_reads.proofs.caches.replies_fit.Goals as goal

pub loop-saved-preserved : goal.loop-saved-preserved
loop-saved-preserved c =
    All-more FitsSavedReply c.args.kept.now c.loop-saved.saved-index c.saved-item.result c.loop-saved-test.true c.loop-saved.invariant
    (subst FitsSavedReply c.saved-item.is c.reply_fits.ensures)

pub returns : goal.returns
returns c = subst (All FitsSavedReply) (take_all c.loop-saved.saved-index c.args.kept.now c.loop-saved-test.false) c.loop-saved.invariant
