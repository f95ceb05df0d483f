use Rattle.ng_reply.proofs.Jsons.{sdp_json_written}
use Rattle.ng_reply.proofs.json_replies.sdp_json_into.Goals as goal

pub returns-clause-written : goal.returns-clause-written
returns-clause-written c =
    sdp_json_written c.args.out.now.list c.extend.new.self.list c.put_bytes.new.out.list c.push.new.self.list c.args.sdp.now c.extend.ensures.list c.put_bytes.ensures.list c.push.ensures.list
