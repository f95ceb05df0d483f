-- The board's entry of a control datagram: a function of the board's history, of what is recorded of the datagram and of what the
-- devices returned in its turn.
use Rattle.std.specs.Prelude.{ℕ, Bool, List, [], Option, max}
use Rattle.relay_outside.specs.declared.address.Addr.{Addr}
use Rattle.relay_outside.specs.declared.settings.Config.{Config}
use Rattle.ng_bencode.specs.Tree.{Entries}
use Rattle.sdes_lines.specs.declared.crypto_line.CryptoLine.{CryptoLine}
use Rattle.call_board.specs.Acts.{Given, Told, Control, Turn, BoardEntry}
use Rattle.call_board.specs.Answers.{Answered, answering_unless}
use Rattle.call_board.specs.Futures.{closed_pairs}
use Rattle.call_board.specs.KeptReplies.{kept_reply}
use Rattle.call_board.specs.Pairs.{leased_by_act}
use Rattle.call_board.specs.Views.{board_last_moment}
use Rattle.call_board.specs.Shapes.{BoardShape}
use Rattle.relay_core.specs.Entries.{Board}
use Rattle.relay_core.specs.Records.{Made, nothing_left}

-- what is recorded of a datagram with a frame, and what the devices returned in its turn
pub record RequestRecord : Type 0 where
  pub source : Addr
  pub cookie : List ℕ
  pub body : List ℕ
  pub too_long : Bool
  pub pairs : Option Entries
  pub chosen : List (Option CryptoLine)
  pub given : Given

-- the datagram before its reply
abbrev pub unanswered : RequestRecord → Control
unanswered x = record {
  source = x.source;
  cookie = x.cookie;
  body = x.body;
  too_long = x.too_long;
  pairs = x.pairs;
  chosen = x.chosen;
  given = x.given;
  reply = [];
  act = Told;
}

-- with its reply and what it does
abbrev pub with_answer : RequestRecord → Answered → Control
with_answer x a = record {
  source = x.source;
  cookie = x.cookie;
  body = x.body;
  too_long = x.too_long;
  pairs = x.pairs;
  chosen = x.chosen;
  given = x.given;
  reply = a.bytes;
  act = a.act;
}

-- the datagram as that history demands it at that moment
abbrev pub control_of : Config → List BoardEntry → ℕ → RequestRecord → Control
control_of config h moment x = with_answer x (answering_unless config h (unanswered x) (kept_reply h x.source x.cookie moment))

-- the pairs that it leases, in lease order
abbrev pub entry_pairs : Config → List BoardEntry → ℕ → RequestRecord → List ℕ
entry_pairs config h moment x = leased_by_act (control_of config h moment x).act

-- the moment of a datagram that is handed this one
abbrev pub moment_at : List BoardEntry → ℕ → ℕ
moment_at h now = max now (board_last_moment h)

-- the board's entry of a datagram with this reply and act
abbrev pub entry_with : ℕ → RequestRecord → Answered → BoardEntry
entry_with moment x a = record { moment = moment; event = Turn (with_answer x a) }

abbrev pub entry_at : Config → List BoardEntry → ℕ → RequestRecord → BoardEntry
entry_at config h moment x = entry_with moment x (answering_unless config h (unanswered x) (kept_reply h x.source x.cookie moment))

-- the step that the table records of a datagram that is handed this moment, where the board keeps this after it
abbrev pub control_made : Config → List BoardEntry → ℕ → RequestRecord → (kept : Option BoardShape) → Made
control_made config h now x kept = record {
  handed = now;
  moment = moment_at h now;
  board = 0;
  returned = closed_pairs h (entry_at config h (moment_at h now) x);
  event = Board (Turn (control_of config h (moment_at h now) x));
  left = nothing_left;
  kept = kept;
}
