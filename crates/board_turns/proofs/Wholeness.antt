-- What the board, the cells and the boxes keep goes together: from where the main hand takes a turn of the board to where it has put it.
use Rattle.std.proofs.Common.{◌≡◌, ◌∙◌, refl, sym, ap, subst, ℕ, ◌<◌, ◌⊎◌, inl, inr, Bool, true, false, cond, ◌==◌, List, [], ◌∷◌, ◌++◌, Option, Some}
use Rattle.relay_outside.specs.declared.ports.InCall.{InCall}
use Rattle.relay_outside.specs.declared.ports.OutCall.{OutCall}
use Rattle.relay_outside.specs.declared.ports.PortCall.{PortCall}
use Rattle.relay_outside.specs.declared.settings.Config.{Config}
use Rattle.relay_outside.specs.DeviceLogs.{EndLog}
use Rattle.turn_table.specs.declared.machine.Entry as table
use Rattle.turn_table.specs.declared.hands.Hand.{Hand}
use Rattle.turn_table.specs.Hands.{IsMain, IsGiven, IsSameHand, view, entries, starts}
use Rattle.histories.specs.Words.{In}
use Rattle.histories.proofs.Lists.{in_append, maps}
use Rattle.call_cell.specs.Cells.{Expire}
use Rattle.call_board.specs.declared.board.Board as board
use Rattle.call_board.specs.Shapes.{BoardShape, board_shape}
use Rattle.call_shapes.specs.Turns.{IsWholeRelay}
use Rattle.relay_core.specs.PartShapes.{board_shape_in}
use Rattle.relay_core.specs.declared.part.Part.{Part}
use Rattle.relay_core.specs.declared.part.Part.TheVariants as part
use Rattle.relay_core.specs.Entries.{Entry, box_of}
use Rattle.relay_core.specs.Records.{Made, list_of}
use Rattle.relay_core.specs.ReturnedPairs.{is_boards}
use Rattle.relay_core.specs.Scripts.{Owed, owed_by}
use Rattle.relay_core.specs.Steps.{Relates, IsReserved}
use Rattle.relay_core.specs.Turns.{IsAbove, GainsNested, made_by}
use Rattle.relay_core.specs.WholeParts.{AreWholeParts}
use Rattle.relay_core.specs.KeptAfter.{cell_shape_after, holder_after, relay_after, board_shape_after, IsWholeWith, IsWholeNow}
use Rattle.relay_core.proofs.Turns.{nothing_more}
use Rattle.relay_core.proofs.KeptGained.{hand_cells, hand_holders}
use Rattle.relay_core.proofs.KeptGiven.{kept_board}
use Rattle.relay_core.proofs.KeptWhole.{whole_alike, turn_whole, lanes_whole}
use Rattle.board_turns.specs.declared.board_turn.BoardTurn.{BoardTurn}
use Rattle.board_turns.specs.BoardTurns.{IsWholeTurn, Works}
use Rattle.board_turns.specs.InCells.{in_cell_of}
use Rattle.board_turns.proofs.Closed.{list_gained}
use Rattle.board_turns.proofs.Staying.{same_config}

module _ {M I O T : Type 0} {g : _} where
  -- a hand with the same list
  pub same_now : (config : Config) (old new : Hand M (Part I O) Made T g) → starts new ≡ starts old → entries new ≡ entries old → IsWholeNow config old → IsWholeNow config new
  same_now config old new same is now =
      lanes_whole config old new same [] (is ∙ sym (nothing_more (entries old))) (λ row i. elim i [ ]) now

  pub same_with : (config : Config) (old new : Hand M (Part I O) Made T g) (shape : BoardShape) → starts new ≡ starts old → entries new ≡ entries old → IsWholeWith config old shape
      → IsWholeWith config new shape
  same_with config old new shape same is whole =
      subst (λ (parts : List (Part I O)). IsWholeRelay config (relay_after config parts (made_by new) shape)) (sym same)
      (subst (λ (rows : List (table.Entry Made T)). IsWholeRelay config (relay_after config (starts old) (list_of rows) shape)) (sym is) whole)

  -- a board that keeps the same
  pub same_shape : (config : Config) (hand : Hand M (Part I O) Made T g) (was now : board.Board) → board_shape now ≡ board_shape was → IsWholeWith config hand (board_shape was)
      → IsWholeWith config hand (board_shape now)
  same_shape config hand was now is whole = subst (λ (shape : BoardShape). IsWholeWith config hand shape) (sym is) whole

-- A turn of the board begins: its board is the one that the last turn left, so what it keeps goes with what the cells and the boxes keep.

module _ {M I O T : Type 0} {g : _} (it : I → EndLog InCall) (ic : I → ℕ) (ot : O → EndLog OutCall) (oc : O → ℕ) where
  pub given_whole : (config : Config) (hand : Hand M (Part I O) Made T g) (n : ℕ) (x : Part I O) (b : board.Board)
      → IsGiven (λ (a : Part I O) (m : Made) (o : T) (y : Part I O). Relates it ic ot oc a m y) IsReserved hand 0 n x → IsMain hand
      → AreWholeParts config (starts hand) → IsWholeNow config hand → x ≡ part.Board b → IsWholeWith config hand (board_shape b)
  given_whole config hand n x b given main parts now is =
      let kept : board_shape_in x ≡ board_shape_after (starts hand) (entries hand) = kept_board it ic ot oc (view hand) n x parts.board parts.board_is given main in
      let both : Some (board_shape b) ≡ Some now.shape = sym (ap (λ (y : Part I O). board_shape_in y) is) ∙ kept ∙ now.kept in
      let same : now.shape ≡ board_shape b = cc in
      subst (λ (shape : BoardShape). IsWholeWith config hand shape) same now.whole

  -- the hand that has taken the turn
  pub begins_with : (config : Config) (old mid : Hand M (Part I O) Made T g) (n : ℕ) (x : Part I O) (b : board.Board) → IsSameHand old mid × (entries mid ≡ entries old)
      → IsGiven (λ (a : Part I O) (m : Made) (o : T) (y : Part I O). Relates it ic ot oc a m y) IsReserved old 0 n x → IsMain old
      → AreWholeParts config (starts old) → IsWholeNow config old → x ≡ part.Board b → IsWholeWith config mid (board_shape b)
  begins_with config old mid n x b same given main parts now is =
      same_with config old mid (board_shape b) same.0.1 same.1 (given_whole config old n x b given main parts now is)

-- It ends: the nested entries stand at other places, and then the board's entry records what the board keeps.

above_case : (events : List Owed) (l ns : List Entry) (number : ℕ) → ((w : Owed) → In w events → w.place ≡ 0 → ⊥) → IsAbove l 0 number
    → ((e : Entry) → In e ns → In (owed_by e) events) → (e : Entry) → e.place ≡ 0 → In e l ⊎ In e ns → e.number < number
above_case events l ns number apart above owes e p (inl i) = above e i p
above_case events l ns number apart above owes e p (inr i) = absurd (apart (owed_by e) (owes e i) p)

module _ {M I O T : Type 0} {g : _} where
  -- the board's number is still above all that the board had
  pub still_above : (number moment : ℕ) (events : List Owed) (mid nested : Hand M (Part I O) Made T g) → GainsNested number moment events mid nested
      → ((w : Owed) → In w events → w.place ≡ 0 → ⊥) → IsAbove (made_by mid) 0 number → IsAbove (made_by nested) 0 number
  still_above number moment events mid nested gains apart above e i p =
      above_case events (made_by mid) (list_of gains.rows) number apart above
      (λ f j. subst (λ (ws : List Owed). In (owed_by f) ws) gains.gained.owes (maps owed_by (list_of gains.rows) j)) e p
      (in_append (made_by mid) (list_of gains.rows) (subst (λ (l : List Entry). In e l) (list_gained number moment events mid nested gains) i))

  pub ends_with : (config : Config) (number moment : ℕ) (events : List Owed) (mid nested new : Hand M (Part I O) Made T g) (row : table.Entry Made T) (shape : BoardShape)
      → GainsNested number moment events mid nested → ((w : Owed) → In w events → w.place ≡ 0 → ⊥) → IsAbove (made_by mid) 0 number
      → starts new ≡ starts nested → entries new ≡ entries nested ++ row ∷ [] → row.place ≡ 0 → row.number ≡ number → is_boards row.event.event ≡ true
      → row.event.kept ≡ Some shape → IsWholeWith config nested shape → IsWholeNow config new
  ends_with config number moment events mid nested new row shape gains apart above same is at number_is boards kept whole =
      turn_whole config nested new same row shape is at boards
      (subst (λ (n : ℕ). IsAbove (made_by nested) 0 n) (sym number_is) (still_above number moment events mid nested gains apart above)) kept whole

-- In it a cell may have been asked whether its call has timed out, which changes nothing that it keeps.

either : {A : Type 0} (t : Bool) (x : A) → cond t x x ≡ x
either true x = refl
either false x = refl

module _ {M I O T : Type 0} {g : _} where
  pub asked_whole : (config : Config) (number moment cell : ℕ) (due : Bool) (old new : Hand M (Part I O) Made T g) (shape : BoardShape) → starts new ≡ starts old
      → GainsNested number moment (in_cell_of cell (Expire due) ∷ []) old new → IsWholeWith config old shape → IsWholeWith config new shape
  asked_whole config number moment cell due old new shape same gains whole =
      let events = in_cell_of cell (Expire due) ∷ [] in
      whole_alike config shape (cell_shape_after config (starts old) (made_by old)) (cell_shape_after config (starts new) (made_by new))
      (holder_after config (starts old) (made_by old)) (holder_after config (starts new) (made_by new))
      (λ k. hand_cells config number moment events old new same gains k ∙ either (cell == k) (cell_shape_after config (starts old) (made_by old) k))
      (λ pair. hand_holders config number moment events old new same gains pair ∙ either (cell == box_of config pair) (holder_after config (starts old) (made_by old) pair))
      whole

-- All of it in turns.

module _ {P I O : Type 0} {g : _} (log : P → Option (List PortCall)) (faults : P → ℕ) where
  -- what a function of a turn leaves, with the hand by itself
  pub works_whole : (old new : BoardTurn P I O g) (nested : _) → Works log faults old new → new.main.hand.now ≡ nested → IsWholeTurn old
      → IsWholeWith old.main.config.now nested (board_shape new.board.now)
  works_whole old new nested works left whole =
      subst (λ (config : Config). IsWholeWith config nested (board_shape new.board.now)) (same_config old.main new.main works.stays.nests)
      (subst (λ hand. IsWholeWith new.main.config.now hand (board_shape new.board.now)) left (works.whole whole))
