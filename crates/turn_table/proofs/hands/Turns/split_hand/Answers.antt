use Rattle.std.proofs.Common.{arith}
use Rattle.turn_table.proofs.Spans.{splits}
use Rattle.turn_table.proofs.hands.Turns.split_hand.Goals as goal

pub split_seat-seat-requires : goal.split_seat-seat-requires
split_seat-seat-requires g c = let wide = c.args.self.now.wide in let some_place = c.args.self.now.few.0 in
    (c.requires.table, omega arith, splits g.M.Machine.relates g.M.Machine.reserved c.args.self.now.table.shared.key.value.items c.args.hand.now.seat.id c.args.hand.now.seat.me.0 c.requires.parts)
