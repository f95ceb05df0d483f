-- Two histories that one board stands for have one future: what the board keeps decides which entries fit next, and what it keeps
-- of the history with one of them. The order in which a call's legs were leased is the one thing that it doesn't tell.
use Rattle.std.specs.Prelude.{◌≡◌, ℕ, List, ◌∷◌, map}
use Rattle.relay_outside.specs.declared.settings.Config.{Config}
use Rattle.port_pool.specs.declared.holder.Holder.{Holder}
use Rattle.call_board.specs.declared.board.Board.{Board}
use Rattle.call_board.specs.Acts.{Control, BoardEntry}
use Rattle.call_board.specs.Calls.{live}
use Rattle.call_board.specs.Pairs.{closed}
use Rattle.call_board.specs.KeptReplies.{kept_reply}
use Rattle.call_board.specs.Answers.{answering_unless}
use Rattle.call_board.specs.Fits.{FitsBoard, IsFitting, demanded}
use Rattle.call_board.specs.Boards.{BoardFor}
use Rattle.call_board.specs.Whole.{IsTimely}

-- the pairs that an entry gives back by the legs that it closes, call by call in lease order
abbrev pub closed_pairs : List BoardEntry → BoardEntry → List ℕ
closed_pairs h e = map (λ (leg : Holder). leg.pair) (closed h e)

-- they have the same live calls
abbrev pub OneBoardLives : Type 0
OneBoardLives = (config : Config) (board : Board) (g h : List BoardEntry) → BoardFor config board g → BoardFor config board h → live g ≡ live h

-- a datagram gets the same reply after both, and does the same
abbrev pub OneBoardAnswers : Type 0
OneBoardAnswers =
    (config : Config) (board : Board) (g h : List BoardEntry) (now : ℕ) (c : Control) → IsFitting config g → BoardFor config board g → BoardFor config board h →
    answering_unless config g c (kept_reply g c.source c.cookie now) ≡ answering_unless config h c (kept_reply h c.source c.cookie now)

-- and demands the same
abbrev pub OneBoardDemands : Type 0
OneBoardDemands =
    (config : Config) (board : Board) (g h : List BoardEntry) (c : Control) → BoardFor config board g → BoardFor config board h → demanded config g c ≡ demanded config h c

-- an entry that one of them demands is demanded by the other
abbrev pub OneBoardFits : Type 0
OneBoardFits =
    (config : Config) (board : Board) (g h : List BoardEntry) (e : BoardEntry) → IsFitting config g → BoardFor config board g → BoardFor config board h →
    FitsBoard config g e → FitsBoard config h e

-- a board that stands for one of them with such an entry stands for the other with it, where the entry gives back the same pairs in both
abbrev pub OneBoardGoesOn : Type 0
OneBoardGoesOn =
    (config : Config) (old new : Board) (g h : List BoardEntry) (e : BoardEntry) → IsFitting config g → IsFitting config h →
    BoardFor config old g → BoardFor config old h → FitsBoard config g e → IsTimely g e → closed_pairs g e ≡ closed_pairs h e →
    BoardFor config new (e ∷ g) → BoardFor config new (e ∷ h)
