-- A turn of the board keeps what is known of the main hand's rows besides their order.
use Rattle.std.proofs.Common.{◌≡◌, ◌∙◌, sym, ap, refl, ℕ, ◌<◌, ◌⊎◌, inl, inr, List, [], ◌∷◌, ◌++◌, true, false, Some, arith}
use Rattle.relay_outside.specs.declared.settings.Config.{Config}
use Rattle.turn_table.specs.declared.machine.Entry as table
use Rattle.turn_table.specs.Histories as table_lists
use Rattle.histories.specs.Words.{In}
use Rattle.call_cell.specs.Cells.{Relay, Relayed}
use Rattle.call_board.specs.Acts.{BoardEntry}
use Rattle.relay_core.specs.Entries.{Event, Board, Cell, Box, Entry, is_nested, board_at}
use Rattle.relay_core.specs.Legal.{IsReceived, is_handed_boards, Orderly}
use Rattle.relay_core.specs.Records.{Made, entry_of, list_of}
use Rattle.relay_core.specs.Turns.{IsTurn, with_turn, IsReceiving}
use Rattle.relay_core.specs.NestedMoments.{IsHanded}
use Rattle.relay_core.proofs.Own.{rows_in}
use Rattle.relay_core.proofs.Turns.{before_left, turn_elsewhere, Part, old, new, last, part_of}
use Rattle.relay_core.proofs.Joins.{row_append, boards_nested}

board_handed : (moment : ℕ) (v : Event) (x : BoardEntry) → board_at moment v ≡ Some x → is_handed_boards v ≡ false
board_handed moment (Board b) x q = refl
board_handed moment (Cell c) x q = absurd (let k = q in cc)
board_handed moment (Box b) x q = absurd (let k = q in cc)

not_relay : (moment : ℕ) (v : Event) (x : BoardEntry) (r : Relayed) → board_at moment v ≡ Some x → v ≡ Cell (Relay r) → ⊥
not_relay moment (Board b) x r q is = let k = is in cc
not_relay moment (Cell c) x r q is = let k = q in cc
not_relay moment (Box b) x r q is = let k = q in cc

module _ {T : Type 0} where
  pub data RowPart (rows ns : List (table.Entry Made T)) (b row : table.Entry Made T) : Type 0 where
    before : table_lists.IsMemberOf row rows → RowPart rows ns b row
    nested : table_lists.IsMemberOf row ns → RowPart rows ns b row
    boards : row ≡ b → RowPart rows ns b row

  row_part : (rows ns : List (table.Entry Made T)) (b row : table.Entry Made T) → table_lists.IsMemberOf row ((rows ++ ns) ++ b ∷ []) → RowPart rows ns b row
  row_part rows ns b row i = outer (row_append (rows ++ ns) (b ∷ []) i)
    where
      inner : table_lists.IsMemberOf row rows ⊎ table_lists.IsMemberOf row ns → RowPart rows ns b row
      inner (inl j) = before j
      inner (inr j) = nested j

      outer : table_lists.IsMemberOf row (rows ++ ns) ⊎ table_lists.IsMemberOf row (b ∷ []) → RowPart rows ns b row
      outer (inl j) = inner (row_append rows ns j)
      outer (inr (table_lists.here q)) = boards q
      outer (inr (table_lists.there j)) = elim j [ ]

  module _ (config : Config) (rows ns : List (table.Entry Made T)) (b : table.Entry Made T) (o : Orderly config (list_of rows))
      (t : IsTurn config (list_of rows) (list_of ns) (entry_of b)) (handed : IsHanded rows)
      (same : (row : table.Entry Made T) → table_lists.IsMemberOf row ns → row.event.handed ≡ b.event.moment) where
    turn_case : (row c : table.Entry Made T) → is_handed_boards row.event.event ≡ true → c.place ≡ 0 → c.number ≡ row.event.board
        → RowPart rows ns b row → RowPart rows ns b c → row.event.handed ≡ c.event.moment
    turn_case row c h p q (before i) (before j) = handed row i h c j p q
    turn_case row c h p q (before i) (boards s) =
        let of = o.nested (entry_of row) (rows_in rows i) (boards_nested row.event.event h) in
        let low : of.0.number < b.number = t.at_front of.0 of.1 of.2 in
        let same_board = of.3 in
        let number = ap (λ (x : table.Entry Made T). x.number) s in
        absurd (omega (arith, low, same_board, number, q))
    turn_case row c h p q (nested i) (before j) =
        let low : c.number < b.number = t.at_front (entry_of c) (rows_in rows j) p in
        let of_b : row.event.board ≡ b.number = t.of_board (entry_of row) (rows_in ns i) in
        absurd (omega (arith, low, of_b, q))
    turn_case row c h p q (nested i) (boards s) = same row i ∙ ap (λ (x : table.Entry Made T). x.event.moment) (sym s)
    turn_case row c h p q r (nested j) =
        absurd ((turn_elsewhere config (list_of rows) (list_of ns) (entry_of b) o t (entry_of c) (rows_in ns j)).1 p)
    turn_case row c h p q (boards s) r =
        absurd (let k = board_handed b.event.moment b.event.event t.entry t.is in
        let z = ap (λ (x : table.Entry Made T). is_handed_boards x.event.event) s in cc)

    -- the nested rows of a turn are handed the moment of its board entry
    pub handed_turn : IsHanded ((rows ++ ns) ++ b ∷ [])
    handed_turn row i h c j p q = turn_case row c h p q (row_part rows ns b row i) (row_part rows ns b c j)

-- A turn of the board relays nothing.

module _ (config : Config) (l ns : List Entry) (b : Entry) (o : Orderly config l) (t : IsTurn config l ns b) where
  old_relay : (e : Entry) (x : Relayed) → e.event ≡ Cell (Relay x) → Part l ns b e → In e l
  old_relay e x q (old i) = i
  old_relay e x q (new i) =
      absurd (let n = (turn_elsewhere config l ns b o t e i).0 in let k = ap is_nested q in cc)
  old_relay e x q (last s) = absurd (not_relay b.moment b.event t.entry x t.is (sym (ap (λ (y : Entry). y.event) s) ∙ q))

  longer_received : (e : Entry) (x : Relayed) → IsReceived config l e x.packet → IsReceived config (with_turn l ns b) e x.packet
  longer_received e x r = record {
    taking = r.taking;
    is_there = before_left (l ++ ns) (b ∷ []) (before_left l ns r.is_there);
    at_box = r.at_box;
    with_number = r.with_number;
    gave = r.gave;
    in_its_cell = r.in_its_cell;
  }

  -- so each relay still is of a take before it
  pub receiving_turn : IsReceiving config l → IsReceiving config (with_turn l ns b)
  receiving_turn r = record {
    received = λ e x i q. longer_received e x (r.received e x (old_relay e x q (part_of l ns b e i)) q);
    once = λ e f x y i j q s pair take. r.once e f x y (old_relay e x q (part_of l ns b e i)) (old_relay f y s (part_of l ns b f j)) q s pair take;
  }
