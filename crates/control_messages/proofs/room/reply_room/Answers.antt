use Rattle.std.proofs.Common.{◌∙◌, arith}
use Rattle.call_board.specs.Dialects.{is_json}
use Rattle.control_messages.proofs.Lengths.{short_room, room_made}
use Rattle.control_messages.proofs.room.reply_room.Goals as goal

pub overflow_add-described-2 : goal.overflow_add-described-2
overflow_add-described-2 c = omega (arith, short_room (is_json c.args.request.now.body.now) c.args.sdp_len c.described_len.result c.requires.small c.described_len.ensures)

pub returns : goal.returns
returns c =
    room_made c.args.request.now.cookie.now c.args.request.now.body.now c.args.sdp_len c.described_len.result c.reserve.new.self c.requires.small c.described_len.ensures
    (c.in-Ok.ensures.list ∙ c.new-room.ensures) (omega (arith, c.max.ensures, c.in-Ok.ensures.room)) (omega (arith, c.max.ensures, c.in-Ok.ensures.room))
