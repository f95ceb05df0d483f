use Rattle.std.proofs.Common.{sym, subst, List, [], Option}
use Rattle.sdes_lines.specs.declared.crypto_line.CryptoLine.{CryptoLine}
use Rattle.call_board.specs.Replies.{Fault, reply_datagram}
use Rattle.control_messages.specs.declared.description.DescriptionFault.{DescriptionFault}
use Rattle.board_turns.specs.PlainReplies.{RefusesRequest, Tells, error_in}
use Rattle.board_turns.proofs.faulty.misdescribed.Goals as goal

pub returns-in-Error-clause-refuses : goal.returns-in-Error-clause-refuses
returns-in-Error-clause-refuses c =
    subst (λ (fault : DescriptionFault). RefusesRequest c.args.request.now.cookie.now c.args.request.now.body.now [] (error_in fault) c.refused.result) (sym c.in-Error.is)
    (λ config. subst (λ (chosen : List (Option CryptoLine)). Tells chosen (reply_datagram config c.args.request.now.cookie.now c.args.request.now.body.now (Fault c.in-Error.code)) c.refused.result) c.none.ensures (c.refused.ensures.tells config))
