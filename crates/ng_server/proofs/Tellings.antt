-- What the table records of the relay's steps has the board's history whole.
use Rattle.std.proofs.Common.{◌≡◌, ◌∙◌, ap, ℕ, List, map}
use Rattle.relay_core.specs.Entries.{Entry, board_history, front}
use Rattle.relay_core.specs.Records.{as_logged}
use Rattle.relay_core.proofs.Refilling.{board_mapped}
use Rattle.relay_core.proofs.Logged.{logged_keeps, logged_front}
use Rattle.board_turns.specs.Between.{board_of}

-- the board's whole history is the same in what is recorded
pub told_board : (l : List Entry) → board_of (map as_logged l) ≡ board_of l
told_board l = board_mapped as_logged logged_keeps l (front (map as_logged l) 0) ∙ ap (λ (n : ℕ). board_history l n) (logged_front l 0)
