use Rattle.std.proofs.Common.{◌∙◌, sym}
use Rattle.call_board.proofs.Shown.{live_has_place}
use Rattle.call_board.proofs.Numbered.{in_order}
use Rattle.call_board.proofs.board.Board.place.Goals as goal

pub place_of-requires : goal.place_of-requires
place_of-requires c = in_order 0 c.args.self.now.calls.list c.args.self.now.begun c.args.self.now.numbers

pub unreachable-requires : goal.unreachable-requires
unreachable-requires c =
    live_has_place c.args.self.now.calls.list c.args.call c.requires
    (sym c.place_of.ensures.place ∙ c.in_default.is)
