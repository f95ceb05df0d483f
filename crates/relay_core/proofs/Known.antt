-- A turn of the board keeps all that is known of the main hand's rows.
use Rattle.std.proofs.Common.{◌≡◌, sym, subst, List, [], ◌∷◌, ◌++◌, Some}
use Rattle.relay_outside.specs.declared.settings.Config.{Config}
use Rattle.turn_table.specs.declared.machine.Entry as table
use Rattle.turn_table.specs.Histories as table_lists
use Rattle.histories.proofs.Lists.{in_left}
use Rattle.call_board.specs.Acts.{BoardEntry}
use Rattle.call_board.specs.Futures.{closed_pairs}
use Rattle.relay_core.specs.Entries.{Entry, board_entry, board_history}
use Rattle.relay_core.specs.Legal.{Orderly}
use Rattle.relay_core.specs.Records.{Made, entry_of, list_of}
use Rattle.relay_core.specs.NestedMoments.{IsHanded}
use Rattle.relay_core.specs.ReturnedPairs.{AreReturned}
use Rattle.relay_core.specs.Turns.{IsTurn, IsReceiving}
use Rattle.relay_core.specs.Joins.{TakesOwnPairs, IsSound}
use Rattle.relay_core.proofs.Turns.{turn_keeps}
use Rattle.relay_core.proofs.Handing.{handed_turn, receiving_turn}
use Rattle.relay_core.proofs.Recording.{turn_list, returned_turn}

owns_less : (config : Config) (l ls : List Entry) → TakesOwnPairs config (l ++ ls) → TakesOwnPairs config l
owns_less config l ls own e half leg source bytes i = own e half leg source bytes (in_left l ls i)

module _ {T : Type 0} where
  -- what is known of the rows of the main hand between the board's turns
  pub record IsKnown (config : Config) (rows : List (table.Entry Made T)) : Type 0 where
    pub orderly : Orderly config (list_of rows)
    pub handed : IsHanded rows
    pub returned : AreReturned config rows
    pub receiving : TakesOwnPairs config (list_of rows) → IsReceiving config (list_of rows)

  -- it is enough for the close
  pub known_sound : (config : Config) (rows : List (table.Entry Made T)) → IsKnown config rows → IsSound config rows
  known_sound config rows known = record {
    orderly = λ numbered. known.orderly;
    handed = λ numbered. known.handed;
    returned = λ numbered. known.returned;
    receiving = λ numbered own. known.receiving own;
  }

  -- a whole turn, whose nested rows were handed the moment of its board entry, which records the pairs of the legs that it closes
  pub known_turn : (config : Config) (rows ns : List (table.Entry Made T)) (b : table.Entry Made T) → IsKnown config rows
      → IsTurn config (list_of rows) (list_of ns) (entry_of b)
      → ((row : table.Entry Made T) → table_lists.IsMemberOf row ns → row.event.handed ≡ b.event.moment)
      → (e : BoardEntry) → board_entry (entry_of b) ≡ Some e → closed_pairs (board_history (list_of rows) b.number) e ≡ b.event.returned
      → IsKnown config ((rows ++ ns) ++ b ∷ [])
  known_turn config rows ns b known turn handed e is gives =
      let l = list_of rows in
      let ms = list_of ns in
      let same = turn_list rows ns b in
      record {
        orderly = subst (λ (k : List Entry). Orderly config k) (sym same) (turn_keeps config l ms (entry_of b) known.orderly turn);
        handed = handed_turn config rows ns b known.orderly turn known.handed handed;
        returned = returned_turn config rows ns b known.orderly turn e is gives known.returned;
        receiving = λ own.
            subst (λ (k : List Entry). IsReceiving config k) (sym same)
            (receiving_turn config l ms (entry_of b) known.orderly turn
            (known.receiving (owns_less config l ms (owns_less config (l ++ ms) (entry_of b ∷ [])
            (subst (λ (k : List Entry). TakesOwnPairs config k) same own)))));
      }
