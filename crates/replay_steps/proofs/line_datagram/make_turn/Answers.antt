use Rattle.replay_steps.proofs.Controls.{controls}
use Rattle.replay_steps.proofs.Turned.{follows_keeps}
use Rattle.replay_steps.proofs.line_datagram.make_turn.Goals as goal

pub returns-clause-receipts : goal.returns-clause-receipts
returns-clause-receipts g c =
    let turned = c.control_turn-turn.ensures.turned in
    follows_keeps c.args.replayer.now.server.config c.args.replayer.now.server.turns c.args.hand.now c.control_turn-turn.new.hand c.args.line.moment c.control_turn-turn.result turned.made
    c.requires.between turned.follows

pub returns-clause-controls : goal.returns-clause-controls
returns-clause-controls g c =
    controls c.args.replayer.now.server.config c.args.hand.now c.control_turn-turn.new.hand c.args.line.moment c.control_turn-turn.result _ _ _ _ _ _ _ _ _ _ c.args.line.source c.args.line.bytes.now c.args.line.read_fails
    c.args.line.reply_fails c.turn_event.result c.control_turn-turn.ensures.turned c.turn_event.ensures
