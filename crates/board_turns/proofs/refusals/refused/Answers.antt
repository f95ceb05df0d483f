use Rattle.call_board.specs.Replies.{Fault, reply_datagram}
use Rattle.board_turns.proofs.refusals.refused.Goals as goal

pub returns-clause-tells : goal.returns-clause-tells
returns-clause-tells c config = c.replied.ensures.tells (reply_datagram config c.args.request.now.cookie.now c.args.request.now.body.now (Fault c.args.code)) (c.error_datagram.ensures config)
