use Rattle.relay_core.proofs.Beginnings.{parts_begin}
use Rattle.relay_core.proofs.Firsts.{first_parts}
use Rattle.relay_core.proofs.WholeFirst.{board_first, first_whole}
use Rattle.relay_core.proofs.HomesGiven.{first_home}
use Rattle.relay_core.proofs.first_places.parts.Goals as goal

pub returns-clause-begins : goal.returns-clause-begins
returns-clause-begins g c =
    parts_begin c.args.config.now c.in_ok-board.board c.new-parts.result.items c.push.new.self.items c.add_cells.new.parts.items c.add_boxes.new.parts.items c.requires
    c.new-parts.ensures.items c.in_ok-push.ensures.items c.in_ok-add_cells.ensures c.in_ok-add_boxes.ensures c.in_ok-board.ensures.stands

pub returns-clause-left : goal.returns-clause-left
returns-clause-left g c = first_parts c.args.config.now c.add_boxes.new.parts.items (returns-clause-begins g c)

pub returns-clause-whole : goal.returns-clause-whole
returns-clause-whole g c =
    first_whole c.args.config.now c.add_boxes.new.parts.items c.in_ok-board.board (returns-clause-begins g c)
    (board_first c.args.config.now c.in_ok-board.board c.new-parts.result.items c.push.new.self.items c.add_cells.new.parts.items c.add_boxes.new.parts.items
    c.new-parts.ensures.items c.in_ok-push.ensures.items c.in_ok-add_cells.ensures c.in_ok-add_boxes.ensures) c.in_ok-board.ensures.shape

pub returns-clause-homes : goal.returns-clause-homes
returns-clause-homes g c =
    first_home g.I.InEnd.log g.O.OutEnd.log g.O.OutEnd.faults c.args.config.now c.add_boxes.new.parts.items (returns-clause-begins g c)
