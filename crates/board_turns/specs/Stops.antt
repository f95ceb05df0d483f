-- A stop: the entry of the board that ends all live calls.
use Rattle.std.specs.Prelude.{ℕ, List, Option}
use Rattle.std.specs.List.{flat_map}
use Rattle.call_board.specs.Acts.{Call, Stop, BoardEntry}
use Rattle.call_board.specs.Calls.{live}
use Rattle.call_board.specs.Futures.{closed_pairs}
use Rattle.call_board.specs.Pairs.{held, closed_of}
use Rattle.call_board.specs.Views.{board_last_moment}
use Rattle.call_board.specs.Shapes.{BoardShape}
use Rattle.relay_core.specs.Entries.{Board}
use Rattle.relay_core.specs.Records.{Made, nothing_left}
use Rattle.board_turns.specs.Closings.{pairs_left}
use Rattle.board_turns.specs.CallEnds.{leg_pairs}

-- the stop after that history, which has the moment of its last entry
abbrev pub stop_entry : List BoardEntry → BoardEntry
stop_entry h = record { moment = board_last_moment h; event = Stop (live h) }

-- the held pairs without those of the legs that the entry closes of these calls
abbrev pub still_held : List BoardEntry → BoardEntry → List Call → List ℕ
still_held h e calls = pairs_left (leg_pairs (flat_map (closed_of h e) calls)) (leg_pairs (held h))

-- as the table records it, where the board keeps this after it
abbrev pub stop_made : List BoardEntry → (kept : Option BoardShape) → Made
stop_made h kept = record {
  handed = board_last_moment h;
  moment = board_last_moment h;
  board = 0;
  returned = closed_pairs h (stop_entry h);
  event = Board (Stop (live h));
  left = nothing_left;
  kept = kept;
}
