use Rattle.std.proofs.Common.{arith}
use Rattle.turn_table.proofs.Spans.{surveys_at}
use Rattle.turn_table.proofs.hands.Turns.survey.Goals as goal

pub load-requires : goal.load-requires
load-requires g c =
    let wide = c.args.self.now.wide in let some_place = c.args.self.now.few.0 in let deep = c.args.self.now.deep in let v = c.args.hand.now.seat.me.0 in
    (c.requires.table, omega arith, surveys_at g.M.Machine.relates g.M.Machine.reserved c.args.self.now.table.shared.key.value.items c.args.self.now.table.shared.table_id.slots c.args.hand.now.seat.id 0 c.args.hand.now.seat.me v (λ i. (v, c.args.hand.now.empty i)) c.args.hand.now.live)
