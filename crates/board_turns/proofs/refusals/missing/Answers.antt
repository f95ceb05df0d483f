use Rattle.std.proofs.Common.{sym, subst, Bool, List, [], Option}
use Rattle.sdes_lines.specs.declared.crypto_line.CryptoLine.{CryptoLine}
use Rattle.call_board.specs.Replies.{Fault, Warned, reply_datagram}
use Rattle.board_turns.specs.PlainReplies.{Tells, missing_reply}
use Rattle.board_turns.proofs.refusals.missing.Goals as goal

pub returns-then-fatal-clause-tells : goal.returns-then-fatal-clause-tells
returns-then-fatal-clause-tells c config =
    subst (λ (fatal : Bool). Tells [] (reply_datagram config c.args.request.now.cookie.now c.args.request.now.body.now (missing_reply fatal c.args.code)) c.refused.result) (sym c.if-fatal.true)
    (subst (λ (lines : List (Option CryptoLine)). Tells lines (reply_datagram config c.args.request.now.cookie.now c.args.request.now.body.now (Fault c.args.code)) c.refused.result) c.none.ensures
    (c.refused.ensures.tells config))

pub returns-else-fatal-clause-tells : goal.returns-else-fatal-clause-tells
returns-else-fatal-clause-tells c config =
    subst (λ (fatal : Bool). Tells [] (reply_datagram config c.args.request.now.cookie.now c.args.request.now.body.now (missing_reply fatal c.args.code)) c.replied.result) (sym c.if-fatal.false)
    (subst (λ (lines : List (Option CryptoLine)). Tells lines (reply_datagram config c.args.request.now.cookie.now c.args.request.now.body.now (Warned c.args.code)) c.replied.result) c.none-else-fatal.ensures
    (c.replied.ensures.tells (reply_datagram config c.args.request.now.cookie.now c.args.request.now.body.now (Warned c.args.code)) (c.warned_datagram.ensures config)))
