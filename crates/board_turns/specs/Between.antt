-- The main hand between the board's turns, and what a turn adds to its list.
use Rattle.std.specs.Prelude.{◌≡◌, List, [], ◌∷◌, ◌++◌, Some}
use Rattle.relay_outside.specs.declared.settings.Config.{Config}
use Rattle.turn_table.specs.declared.machine.Entry as table
use Rattle.turn_table.specs.declared.hands.Turns.{Turns}
use Rattle.turn_table.specs.declared.hands.Hand.{Hand}
use Rattle.turn_table.specs.Hands.{IsHandOf, IsMain, HasNoTurn, starts, entries}
use Rattle.call_board.specs.Acts.{BoardEntry}
use Rattle.relay_core.specs.declared.part.Part.{Part}
use Rattle.relay_core.specs.Entries.{Entry, board_entry, board_history, front}
use Rattle.relay_core.specs.Legal.{Orderly}
use Rattle.relay_core.specs.Records.{Made, entry_of, list_of}
use Rattle.relay_core.specs.NestedMoments.{IsHanded}
use Rattle.relay_core.specs.ReturnedPairs.{AreReturned}
use Rattle.relay_core.specs.FirstPlaces.{AreParts}
use Rattle.relay_core.specs.WholeParts.{AreWholeParts}
use Rattle.relay_core.specs.KeptAfter.{IsWholeNow}
use Rattle.relay_core.specs.Joins.{TakesOwnPairs}
use Rattle.relay_core.specs.Turns.{Numbered, IsTurn, IsReceiving, made_by}

-- the board's whole history, by the list
abbrev pub board_of : List Entry → List BoardEntry
board_of l = board_history l (front l 0)

module _ {M I O T : Type 0} {g : _} where
  -- The main hand of a relay with this configuration holds no turn, and its list is what the board's turns so far, and perhaps lanes,
  -- have made of it
  pub record IsBetween (config : Config) (turns : Turns M (Part I O) Made T) (hand : Hand M (Part I O) Made T g) : Type 0 where
    pub of_table : IsHandOf turns hand
    pub main : IsMain hand
    pub idle : HasNoTurn hand
    pub parts : AreParts config (starts hand)
    pub whole_parts : AreWholeParts config (starts hand)
    -- what the board, the cells and the boxes keep goes together
    pub whole : IsWholeNow config hand
    pub numbered : Numbered (made_by hand)
    pub orderly : Orderly config (made_by hand)
    pub handed : IsHanded (entries hand)
    pub returned : AreReturned config (entries hand)
    pub receiving : TakesOwnPairs config (made_by hand) → IsReceiving config (made_by hand)

  -- The hand's list gained one whole turn of the board: the nested entries that this entry owes, and then the entry, which fits
  pub record MakesTurn (config : Config) (old new : Hand M (Part I O) Made T g) (e : BoardEntry) : Type 0 where
    pub rows : List (table.Entry Made T)
    pub row : table.Entry Made T
    pub list_is : entries new ≡ (entries old ++ rows) ++ row ∷ []
    pub turn : IsTurn config (made_by old) (list_of rows) (entry_of row)
    pub is : board_entry (entry_of row) ≡ Some e
