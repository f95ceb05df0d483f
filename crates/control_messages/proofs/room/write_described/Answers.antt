use Rattle.control_messages.proofs.Datagrams.{described_written}
use Rattle.control_messages.proofs.room.write_described.Goals as goal

pub returns : goal.returns
returns c config =
    described_written config c.args.request.now.cookie.now c.args.request.now.body.now c.args.sdp.now c.args.out.now.list c.extend.new.self.list c.push.new.self.list c.put_described.new.out.list
    c.requires.empty c.extend.ensures.list c.push.ensures.list c.put_described.ensures
