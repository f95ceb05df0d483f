use Rattle.std.proofs.Common.{length, ap, ◌∙◌, arith}
use Rattle.ng_reply.proofs.Spelled.{sdp_length, sdp_written}
use Rattle.ng_reply.proofs.success.sdp_reply_into.Goals as goal

pub extend-requires : goal.extend-requires
extend-requires c = omega (arith, sdp_length c.args.sdp.now, c.requires.room)

pub extend-requires-2 : goal.extend-requires-2
extend-requires-2 c =
    let digits = ap length (c.as_bytes-digits.ensures.value ∙ c.format.ensures.text) in
    omega (arith, sdp_length c.args.sdp.now, digits, c.requires.room, c.extend.ensures.room)

pub push-requires : goal.push-requires
push-requires c =
    let digits = ap length (c.as_bytes-digits.ensures.value ∙ c.format.ensures.text) in
    omega (arith, sdp_length c.args.sdp.now, digits, c.requires.room, c.extend.ensures.room, c.extend-2.ensures.room)

pub extend-requires-3 : goal.extend-requires-3
extend-requires-3 c =
    let digits = ap length (c.as_bytes-digits.ensures.value ∙ c.format.ensures.text) in
    omega (arith, sdp_length c.args.sdp.now, digits, c.requires.room, c.extend.ensures.room, c.extend-2.ensures.room, c.push.ensures.room)

pub push-requires-2 : goal.push-requires-2
push-requires-2 c =
    let digits = ap length (c.as_bytes-digits.ensures.value ∙ c.format.ensures.text) in
    omega (arith, sdp_length c.args.sdp.now, digits, c.requires.room, c.extend.ensures.room, c.extend-2.ensures.room, c.push.ensures.room, c.extend-3.ensures.room)

pub returns-clause-written : goal.returns-clause-written
returns-clause-written c =
    sdp_written c.args.out.now.list c.extend.new.self.list c.extend-2.new.self.list c.push.new.self.list c.extend-3.new.self.list c.push-2.new.self.list
    c.args.sdp.now c.as_bytes-digits.result.now c.extend.ensures.list c.extend-2.ensures.list c.push.ensures.list c.extend-3.ensures.list c.push-2.ensures.list
    (c.as_bytes-digits.ensures.value ∙ c.format.ensures.text)

pub returns-clause-room : goal.returns-clause-room
returns-clause-room c =
    let digits = ap length (c.as_bytes-digits.ensures.value ∙ c.format.ensures.text) in
    omega (arith, sdp_length c.args.sdp.now, digits, c.extend.ensures.room, c.extend-2.ensures.room, c.push.ensures.room, c.extend-3.ensures.room, c.push-2.ensures.room)
