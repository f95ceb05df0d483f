use Rattle.std.proofs.Common.{subst, List, Option, map, take}
use Rattle.sdes_lines.specs.declared.crypto_line.CryptoLine.{CryptoLine}
use Rattle.call_board.specs.Replies.{Listed, reply_datagram}
use Rattle.call_board.specs.Views.{CallView}
use Rattle.board_turns.specs.PlainReplies.{Tells}
use Rattle.report_commands.proofs.list_command.list.Goals as goal

pub returns-clause-tells : goal.returns-clause-tells
returns-clause-tells c config v shows =
    subst
    (λ (chosen : List (Option CryptoLine)).
    Tells chosen (reply_datagram config c.args.request.now.cookie.now c.args.request.now.body.now (Listed (take c.args.limit (map (λ (call : CallView). call.of.id) v.calls)))) c.replied.result)
    c.none.ensures
    (c.replied.ensures.tells _ (c.list_datagram.ensures config v shows))
