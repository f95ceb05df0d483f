use Rattle.std.proofs.Common.{ap, ◌∙◌}
use Rattle.turn_table.specs.Hands.{entries}
use Rattle.relay_core.specs.Records.{list_of}
use Rattle.relay_core.proofs.Recording.{lane_no_boards}
use Rattle.board_turns.specs.Between.{board_of}
use Rattle.media_lane.proofs.Between.{stepped_between, lanes_board}
use Rattle.media_lane.proofs.laws.main_hand_relays.Goals as goal

pub returns-clause-between : goal.returns-clause-between
returns-clause-between g c = λ old rows between same idle rows_are of_lane list.
    stepped_between c.args.config.now c.args.turns.now old c.args.hand.now rows between (record { same = same; idle = idle; list = list; rows_are = rows_are; of_lane = of_lane })

pub returns-clause-history : goal.returns-clause-history
returns-clause-history g c = λ old rows same rows_are of_lane.
    ap (λ xs. board_of (list_of xs)) rows_are ∙ lanes_board (entries old) rows (λ row i. lane_no_boards row.event.event (of_lane row i))
