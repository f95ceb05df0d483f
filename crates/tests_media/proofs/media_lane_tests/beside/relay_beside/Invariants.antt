use Rattle.turn_table.specs.Hands.{taken_of}
use Rattle.call_cell.specs.LegHistories.{receipt_of}
use Rattle.media_lane.specs.Relays.{relay_by}
use Rattle.tests_media.proofs.media_lane_tests.beside.relay_beside.Given as goal

abbrev pub ghosts-put_relay : goal.ghosts-put_relay
ghosts-put_relay g a = record { made = relay_by (taken_of a.turn) (receipt_of a.take a.packet.now a.bytes.now) a.now a.outcome }
