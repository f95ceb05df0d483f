use Rattle.std.proofs.Common.{◌∙◌, sym, true, false, arith}
use Rattle.ng_reply.specs.Replies.{sdp_reply}
use Rattle.control_messages.proofs.Datagrams.{appended_in}
use Rattle.control_messages.proofs.Lengths.{room_by}
use Rattle.control_messages.proofs.room.put_described.Goals as goal

pub sdp_json_into-requires-clause-room : goal.sdp_json_into-requires-clause-room
sdp_json_into-requires-clause-room c =
    omega (arith, c.requires.room, room_by c.args.body.now c.args.sdp.now true (sym c.is_json.ensures ∙ c.if-is_json.true))

pub sdp_reply_into-requires-clause-room : goal.sdp_reply_into-requires-clause-room
sdp_reply_into-requires-clause-room c =
    omega (arith, c.requires.room, room_by c.args.body.now c.args.sdp.now false (sym c.is_json.ensures ∙ c.if-is_json.false))

pub returns-then-is_json : goal.returns-then-is_json
returns-then-is_json c =
    appended_in _ _ c.args.body.now (sdp_reply c.args.sdp.now) true (sym c.is_json.ensures ∙ c.if-is_json.true) c.sdp_json_into.ensures.written

pub returns-else-is_json : goal.returns-else-is_json
returns-else-is_json c =
    appended_in _ _ c.args.body.now (sdp_reply c.args.sdp.now) false (sym c.is_json.ensures ∙ c.if-is_json.false) c.sdp_reply_into.ensures.written
