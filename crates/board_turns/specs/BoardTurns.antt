-- The turn of the board that its functions are handed, and what all of them leave as it was.
use Rattle.std.specs.Prelude.{◌≡◌, Bool, ◌≤◌, ℕ, List, [], Option}
use Rattle.relay_outside.specs.declared.ports.PortCall.{PortCall}
use Rattle.turn_table.specs.Hands.{IsSameHand, SameTurns, entries}
use Rattle.ng_bencode.specs.Room.{Room}
use Rattle.port_pool.specs.declared.holder.Holder.{Holder}
use Rattle.port_pool.specs.declared.pairs.Lease.{Lease}
use Rattle.call_board.specs.Acts.{Call, BoardEntry}
use Rattle.call_board.specs.Boards.{BoardFor, KeepsReplies}
use Rattle.call_board.specs.Pairs.{held}
use Rattle.call_board.specs.Shapes.{board_shape}
use Rattle.relay_core.specs.Entries.{Entry, board_history}
use Rattle.relay_core.specs.KeptAfter.{IsWholeWith}
use Rattle.relay_core.specs.Legal.{Orderly}
use Rattle.relay_core.specs.Scripts.{Owed}
use Rattle.relay_core.specs.Turns.{GainsNested, IsAbove, made_by}
use Rattle.board_turns.specs.declared.board_turn.MainHand.{MainHand}
use Rattle.board_turns.specs.declared.board_turn.BoardTurn.{BoardTurn}
use Rattle.board_turns.specs.declared.board_turn.Between.{Between}
use Rattle.board_turns.specs.Between.{IsBetween, board_of}
use Rattle.board_turns.specs.NestedSteps.{MayNest}
use Rattle.board_turns.specs.Acts.{InTurn, DoesAct}
use Rattle.board_turns.specs.Commands.{ExecutesCommand}
use Rattle.board_turns.specs.Controls.{RequestRecord}
use Rattle.board_turns.specs.Ties.{PortsFollowRows}
use Rattle.board_turns.specs.Closings.{CanClose}
use Rattle.board_turns.specs.CallEnds.{CanEnd, HoldsOpen, IsCallOf, leg_pairs}
use Rattle.board_turns.specs.Ticks.{CanAsk, CanExpire}
use Rattle.media_ports.specs.OpenPorts.{LogsHeld}

module _ {I O : Type 0} {g : _} where
  -- the list of the hand
  abbrev pub hand_list : MainHand I O g → List Entry
  hand_list main = made_by main.hand.now

  -- the board's history before the turn
  abbrev pub past_of : MainHand I O g → List BoardEntry
  past_of main = board_history (made_by main.hand.now) main.entry_id.number

  -- it may make nested steps
  abbrev pub CanNest : MainHand I O g → Type 0
  CanNest main = MayNest main.config.now main.turns.now main.hand.now

  -- Nested steps were made in the turn, and more may be: it is the same hand in the same turn of the same table
  pub record Nests (old new : MainHand I O g) : Type 0 where
    pub turns_are : new.turns ≡ old.turns
    pub config_is : new.config ≡ old.config
    pub entry_is : new.entry_id ≡ old.entry_id
    pub hand_is : new.hand.ghost_name ≡ old.hand.ghost_name
    pub same : IsSameHand old.hand.now new.hand.now
    pub same_turns : SameTurns old.hand.now new.hand.now
    pub may : MayNest old.config.now old.turns.now new.hand.now

  -- the hand's list gained just these nested steps
  abbrev pub MakesNested : List Owed → (old new : MainHand I O g) → Type 0
  MakesNested owed old new = GainsNested old.entry_id.number old.entry_id.moment owed old.hand.now new.hand.now

module _ {P I O : Type 0} {g : _} where
  -- by the hand's list, this is the live call of that number, and these are its legs
  abbrev pub IsTurnCall : BoardTurn P I O g → ℕ → Call → List Holder → Type 0
  IsTurnCall turn call of legs = IsCallOf turn.main.config.now (hand_list turn.main) turn.board.now call of legs

  -- what the board, the cells and the boxes keep goes together, whatever their histories
  abbrev pub IsWholeTurn : BoardTurn P I O g → Type 0
  IsWholeTurn turn = IsWholeWith turn.main.config.now turn.main.hand.now (board_shape turn.board.now)

  -- the same board, port maker and list of legs
  pub record IsSameBoard (old new : BoardTurn P I O g) : Type 0 where
    pub board_is : new.board.ghost_name ≡ old.board.ghost_name
    pub ports_are : new.ports.ghost_name ≡ old.ports.ghost_name
    pub gone_is : new.gone.ghost_name ≡ old.gone.ghost_name

module _ {P I O : Type 0} {g : _} (log : P → Option (List PortCall)) where
  -- The main hand has the board's turn and has made no step in it, and no leg has gone
  pub record Begins (turn : BoardTurn P I O g) : Type 0 where
    pub in_turn : InTurn turn.main.config.now turn.main.turns.now turn.main.hand.now turn.main.entry_id turn.board.now (log turn.ports.now)
    pub empty : turn.gone.now ≡ []

  -- these legs may be closed, the call of this number may be ended, and the one at this place may be asked whether it is due
  abbrev pub MayClose : BoardTurn P I O g → List (Lease × O × O) → Type 0
  MayClose turn gone = CanClose turn.main.config.now turn.main.hand.now turn.board.now (log turn.ports.now) gone

  abbrev pub MayEnd : BoardTurn P I O g → ℕ → Type 0
  MayEnd turn call = CanEnd turn.main.config.now turn.main.hand.now turn.board.now (log turn.ports.now) call

  abbrev pub MayAsk : BoardTurn P I O g → ℕ → Type 0
  MayAsk turn index = CanAsk turn.main.config.now turn.main.hand.now turn.board.now (log turn.ports.now) index

  -- the ports of each pair whose box is open are open
  abbrev pub HoldsPorts : BoardTurn P I O g → Type 0
  HoldsPorts turn = HoldsOpen turn.main.config.now turn.main.hand.now (log turn.ports.now)

  abbrev pub MayExpire : BoardTurn P I O g → ℕ → Call → List Holder → (overdue : Bool) → Type 0
  MayExpire turn index of legs overdue =
      CanExpire turn.main.config.now turn.main.hand.now turn.board.now (log turn.ports.now) turn.main.entry_id.moment index of legs overdue

  -- The board's turn has the number of its next entry, and the board stands for the history that the hand's list has of it; where the port maker
  -- tells, just the ports of the held pairs are open
  pub record Continues (turn : BoardTurn P I O g) : Type 0 where
    pub above : IsAbove (hand_list turn.main) 0 turn.main.entry_id.number
    pub orderly : Orderly turn.main.config.now (hand_list turn.main)
    pub board : BoardFor turn.main.config.now turn.board.now (past_of turn.main)
    pub opens : LogsHeld turn.main.config.now (log turn.ports.now) (leg_pairs (held (past_of turn.main)))

  -- the turn did what the entry owes
  abbrev pub Does : (old new : BoardTurn P I O g) → BoardEntry → Type 0
  Does old new e = DoesAct old.main.config.now old.main.hand.now new.main.hand.now old.main.entry_id e new.board.now (log new.ports.now)

  -- a command was carried out, for which no reply is kept
  abbrev pub CarriesOut : (old new : BoardTurn P I O g) → RequestRecord → Option (Room ℕ) → Type 0
  CarriesOut old new x reply = ExecutesCommand old.main.config.now old.main.hand.now new.main.hand.now old.main.entry_id x reply new.board.now (log new.ports.now)

  -- The main hand holds no turn, just the ports of the held pairs are open, and no leg has gone
  pub record Rests (at : Between P I O g) : Type 0 where
    pub between : IsBetween at.config.now at.turns.now at.hand.now
    pub opens : LogsHeld at.config.now (log at.ports.now) (leg_pairs (held (board_of (made_by at.hand.now))))
    pub empty : at.gone.now ≡ []

  module _ (faults : P → ℕ) where
    -- A turn was made, or none: it is the same hand of the same table, with the same port maker and list of legs; it rests, what the
    -- port maker was given is what left boxes and cells, and no count of faults fell
    pub record RestsAgain (old new : Between P I O g) : Type 0 where
      pub turns_are : new.turns ≡ old.turns
      pub config_is : new.config ≡ old.config
      pub hand_is : new.hand.ghost_name ≡ old.hand.ghost_name
      pub ports_are : new.ports.ghost_name ≡ old.ports.ghost_name
      pub gone_is : new.gone.ghost_name ≡ old.gone.ghost_name
      pub same : IsSameHand old.hand.now new.hand.now
      pub rests : Rests new
      pub ties : PortsFollowRows old.config.now (log old.ports.now) (log new.ports.now) (entries old.hand.now) (entries new.hand.now)
      pub later : faults old.ports.now ≤ faults new.ports.now

    -- It is the same turn, with the same board, port maker and list of legs; the kept replies stay, and no count of faults fell
    pub record StaysInTurn (old new : BoardTurn P I O g) : Type 0 where
      pub nests : Nests old.main new.main
      pub devices : IsSameBoard old new
      pub replies : KeepsReplies old.board.now new.board.now
      pub later : faults old.ports.now ≤ faults new.ports.now

    -- The same, what the port maker was given is what left boxes and cells, and no leg is left. Where what the board, the cells and the boxes
    -- keep went together, it does.
    pub record Works (old new : BoardTurn P I O g) : Type 0 where
      pub stays : StaysInTurn old new
      pub ties : PortsFollowRows old.main.config.now (log old.ports.now) (log new.ports.now) (entries old.main.hand.now) (entries new.main.hand.now)
      pub empty : new.gone.now ≡ []
      pub whole : IsWholeTurn old → IsWholeTurn new
