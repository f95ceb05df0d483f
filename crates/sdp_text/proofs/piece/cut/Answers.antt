use Rattle.sdp_text.proofs.Cuts.{cut_here, cut_nowhere}
use Rattle.sdp_text.proofs.piece.cut.Goals as goal

pub returns-then-at-text-clause-pieces : goal.returns-then-at-text-clause-pieces
returns-then-at-text-clause-pieces c = cut_here c.args.stop c.args.text.now _ c.place_of-at.ensures.place c.if-at-text.true

pub returns-else-at-text-clause-pieces : goal.returns-else-at-text-clause-pieces
returns-else-at-text-clause-pieces c = cut_nowhere c.args.stop c.args.text.now _ c.place_of-at.ensures.place c.if-at-text.false
