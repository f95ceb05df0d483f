use Rattle.std.proofs.Common.{◌≡◌, rules, length}
use Rattle.media_lane.proofs.TwoRooms.{front_is}
use Rattle.media_lane.proofs.rooms.Rooms.put.Goals as goal

pub returns-clause-front : goal.returns-clause-front
returns-clause-front c =
    let two : length c.args.self.now.rooms ≡ 2 = search rules in
    front_is c.args.self.now.rooms c.args.self.now.free c.put_front.new.room c.args.self.now.one_of two c.args.bytes.now c.requires c.put_front.ensures
