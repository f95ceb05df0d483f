-- Worked rows of places and boxes, for one session and two pairs: place 0 is the board, place 1 the cell, places 2 and 3 are
-- the boxes.
use Rattle.std.proofs.Common.{◌≡◌, refl, false, true, Some, None, arith}
use Rattle.rtp_packet.specs.declared.head.Half.TheVariants.{Rtp}
use Rattle.histories.specs.Words.{Before}
use Rattle.port_pool.specs.Boxes.{Take, Closed, holder}
use Rattle.call_cell.specs.Cells.{Expire}
use Rattle.call_cell.specs.Deeds.{deed}
use Rattle.call_board.specs.KeptReplies.{kept_reply}
use Rattle.call_board.specs.Answers.{answering_unless}
use Rattle.call_board.specs.Fits.{answered_in}
use Rattle.relay_core.specs.Entries.{Cell, Box, board_history, cell_before, box_history}
use Rattle.relay_core.specs.Legal.{StandsAt}
use Rattle.relay_core.proofs.Safety.{legal_safe}
use Rattle.relay_core.proofs.Example.Datagrams.{config, leg_b, next_leg_b}
use Rattle.relay_core.proofs.Example.Board.{repeat_turn}
use Rattle.relay_core.proofs.Example.Cell.{late_receipt, refused_late, relayed, sending}
use Rattle.relay_core.proofs.Example.Members.{at_place}
use Rattle.relay_core.proofs.Example.Entries.{entries, repeated, sent, relayed_late}
use Rattle.relay_core.proofs.Example.Legal.{legal}

-- Places.

take_at_a_box : StandsAt config 2 (Box (Take Rtp Closed))
take_at_a_box = omega arith

take_at_a_cell : StandsAt config 1 (Box (Take Rtp Closed)) → ⊥
take_at_a_cell stands = omega (arith, stands)

tick_at_a_cell : StandsAt config 1 (Cell (Expire false))
tick_at_a_cell = (omega arith, omega arith)

tick_at_a_box : StandsAt config 2 (Cell (Expire false)) → ⊥
tick_at_a_box stands = let below = stands.1 in omega (arith, below)

tick_at_the_board : StandsAt config 0 (Cell (Expire false)) → ⊥
tick_at_the_board stands = let above = stands.0 in omega (arith, above)

-- Boxes: that of side B's pair is shut before each of its openings, and open before each of its closings.

shut_at_first : holder (box_history entries 2 0) ≡ None
shut_at_first = refl

open_before_close : holder (box_history entries 2 2) ≡ Some leg_b
open_before_close = refl

shut_before_next : holder (box_history entries 2 3) ≡ None
shut_before_next = refl

open_before_next_close : holder (box_history entries 2 4) ≡ Some next_leg_b
open_before_next_close = refl

-- What safety says of the worked list: a reply and a deed are those of their histories, and a packet is taken before it is sent.

repeat_is_answered : answered_in repeat_turn ≡ answering_unless config (board_history entries 1) repeat_turn (kept_reply (board_history entries 1) repeat_turn.source repeat_turn.cookie 1100)
repeat_is_answered = (legal_safe config entries legal).board.replies_are repeated repeat_turn (at_place entries 4 refl) refl

late_is_refused : refused_late.deed ≡ deed config (cell_before entries relayed_late) late_receipt true
late_is_refused = (legal_safe config entries legal).deeds_are relayed_late refused_late (at_place entries 22 refl) refl

taken_before_sent : Before ((legal_safe config entries legal).sent_right sent relayed sending (at_place entries 8 refl) refl refl).taking sent entries
taken_before_sent = ((legal_safe config entries legal).sent_right sent relayed sending (at_place entries 8 refl) refl refl).taken
