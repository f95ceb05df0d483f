use Rattle.call_board.proofs.Shown.{shown_is, lent_for}
use Rattle.call_board.proofs.board.Board.dialog.Goals as goal

pub returns : goal.returns
returns c = λ config v of s e. lent_for c.deref.ensures (shown_is config v c.args.call c.live.result.now of (c.live.ensures.shown config v s) e).dialog_for
