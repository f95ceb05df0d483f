-- What a turn of the board adds to its whole history.
use Rattle.std.proofs.Common.{◌≡◌, ◌∙◌, refl, sym, ap, subst, suc, ◌<◌, ◌⊎◌, inl, inr, List, [], ◌∷◌, ◌++◌, Some, arith}
use Rattle.relay_outside.specs.declared.settings.Config.{Config}
use Rattle.turn_table.specs.declared.machine.Entry as table
use Rattle.turn_table.specs.declared.hands.Turns.{Turns}
use Rattle.turn_table.specs.declared.hands.Hand.{Hand}
use Rattle.turn_table.specs.Hands.{entries}
use Rattle.histories.specs.Words.{In, here, there}
use Rattle.histories.proofs.Lists.{in_append, in_right}
use Rattle.call_board.specs.Acts.{BoardEntry}
use Rattle.relay_core.specs.declared.part.Part.{Part}
use Rattle.relay_core.specs.Entries.{Entry, board_entry}
use Rattle.relay_core.specs.Legal.{Orderly}
use Rattle.relay_core.specs.Records.{Made, entry_of, list_of}
use Rattle.relay_core.specs.Turns.{IsTurn, IsAbove, made_by, with_turn}
use Rattle.relay_core.proofs.Boards.{moment}
use Rattle.relay_core.proofs.Recording.{turn_list}
use Rattle.relay_core.proofs.Turns.{turn_elsewhere, turn_history}
use Rattle.board_turns.specs.Between.{board_of, IsBetween, MakesTurn}
use Rattle.board_turns.proofs.Betweens.{whole_board}

below_last : (config : Config) (l ns : List Entry) (b : Entry) → Orderly config l → IsTurn config l ns b → IsAbove (with_turn l ns b) 0 (suc b.number)
below_last config l ns b o t e i p = outer (in_append (l ++ ns) (b ∷ []) i)
  where
    inner : In e l ⊎ In e ns → e.number < suc b.number
    inner (inl j) = let low = t.at_front e j p in omega (arith, low)
    inner (inr j) = absurd ((turn_elsewhere config l ns b o t e j).1 p)

    outer : In e (l ++ ns) ⊎ In e (b ∷ []) → e.number < suc b.number
    outer (inl j) = inner (in_append l ns j)
    outer (inr (here q)) = let same = ap (λ (x : Entry). x.number) q in omega (arith, same)
    outer (inr (there j)) = elim j [ ]

-- the entry, before all that the board's history had
turn_grows : (config : Config) (l ns : List Entry) (b : Entry) (e : BoardEntry) → Orderly config l → IsTurn config l ns b → board_entry b ≡ Some e
    → Orderly config (with_turn l ns b) → board_of (with_turn l ns b) ≡ e ∷ board_of l
turn_grows config l ns b e o t is new =
    let grown = with_turn l ns b in
    sym (whole_board grown (suc b.number) (below_last config l ns b o t))
    ∙ moment config grown new b e (in_right (l ++ ns) (b ∷ []) (here refl)) is
    ∙ ap (λ (h : List BoardEntry). e ∷ h) (turn_history config l ns b o t b.number (omega arith) ∙ whole_board l b.number t.at_front)

module _ {M I O T : Type 0} {g : _} where
  -- after a turn of the board with this entry, the board's whole history is the entry, and what there was before
  pub makes_history : (config : Config) (turns : Turns M (Part I O) Made T) (old new : Hand M (Part I O) Made T g) (e : BoardEntry)
      → IsBetween config turns old → IsBetween config turns new → MakesTurn config old new e → board_of (made_by new) ≡ e ∷ board_of (made_by old)
  makes_history config turns old new e before after makes =
      let list : made_by new ≡ with_turn (made_by old) (list_of makes.rows) (entry_of makes.row) =
      ap (λ (rows : List (table.Entry Made T)). list_of rows) makes.list_is ∙ turn_list (entries old) makes.rows makes.row in
      ap (λ (l : List Entry). board_of l) list
      ∙ turn_grows config (made_by old) (list_of makes.rows) (entry_of makes.row) e before.orderly makes.turn makes.is
      (subst (λ (l : List Entry). Orderly config l) list after.orderly)
