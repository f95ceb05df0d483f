-- A control turn keeps receipts.
use Rattle.std.proofs.Common.{◌≡◌, ◌∙◌, sym, ap, subst, ℕ, true, false, List, [], ◌∷◌, ◌++◌, Option, Some, None, inl, inr}
use Rattle.std.proofs.lemmas.List.{append_assoc}
use Rattle.relay_outside.specs.declared.settings.Config.{Config}
use Rattle.turn_table.specs.declared.machine.Entry as table
use Rattle.turn_table.specs.declared.hands.Turns.{Turns}
use Rattle.turn_table.specs.declared.hands.Hand.{Hand}
use Rattle.turn_table.specs.Hands.{entries}
use Rattle.histories.specs.Words.{In, here, there}
use Rattle.histories.proofs.Lists.{in_append}
use Rattle.call_cell.specs.Cells.{Relay, Relayed, Receipt}
use Rattle.call_board.specs.Acts.{BoardEntry}
use Rattle.relay_core.specs.declared.part.Part.{Part}
use Rattle.relay_core.specs.Entries.{Event, Cell, Entry, is_nested, board_at}
use Rattle.relay_core.specs.Legal.{Orderly}
use Rattle.relay_core.specs.Records.{Made, entry_of, list_of}
use Rattle.relay_core.specs.Turns.{IsTurn, IsReceiving, with_turn, made_by}
use Rattle.relay_core.proofs.Recording.{turn_list}
use Rattle.relay_core.proofs.Turns.{turn_elsewhere}
use Rattle.relay_core.specs.Joins.{TakesOwnPairs}
use Rattle.media_lane.specs.Receipts.{IsReceiptOf}
use Rattle.board_turns.specs.Between.{board_of, IsBetween, MakesTurn}
use Rattle.board_turns.specs.Controls.{RequestRecord, entry_at, moment_at}
use Rattle.ng_server.specs.declared.control_turn.ControlTurn.{ControlTurn}
use Rattle.ng_server.specs.ControlTurns.{FollowsTake}
use Rattle.media_lane.specs.Steps.{KeepsReceipts}
use Rattle.media_lane.proofs.Receipts.{Spends, receipt_stays}

nested_no_relay : (v : Event) (x : Relayed) → is_nested v ≡ true → v ≡ Cell (Relay x) → ⊥
nested_no_relay v x nested is = absurd (let k : false ≡ true = sym (ap is_nested is) ∙ nested in cc)

board_no_relay : (moment : ℕ) (v : Event) (x : Relayed) (e : BoardEntry) → board_at moment v ≡ Some e → v ≡ Cell (Relay x) → ⊥
board_no_relay moment v x e board is = absurd (let k : None ≡ Some e = sym (ap (board_at moment) is) ∙ board in cc)

module _ (config : Config) (l ns : List Entry) (b : Entry) (o : Orderly config l) (t : IsTurn config l ns b) where
  -- no entry of a turn is a relay
  no_relay : (p : Receipt) (e : Entry) → In e (ns ++ b ∷ []) → Spends config p e → ⊥
  no_relay p e i s = elim (in_append ns (b ∷ []) i) [
    | inl j ↦ nested_no_relay e.event s.relay (turn_elsewhere config l ns b o t e j).0 s.is
    | inr j ↦ last e j s
  ]
    where
      last : (e : Entry) → In e (b ∷ []) → Spends config p e → ⊥
      last e (here q) s = board_no_relay b.moment b.event s.relay t.entry t.is (sym (ap (λ (x : Entry). x.event) q) ∙ s.is)
      last e (there j) s = elim j [ ]

  turn_keeps : (receiving : TakesOwnPairs config l → IsReceiving config l) → KeepsReceipts config l (with_turn l ns b)
  turn_keeps receiving r of =
      subst (λ (k : List Entry). IsReceiptOf config k r.0 r.1) (sym (append_assoc l ns (b ∷ [])))
      (receipt_stays config l (ns ++ b ∷ []) receiving r (λ own e i s. no_relay r.1 e i s) of)

module _ {M I O T : Type 0} {g : _} where
  pub makes_keeps : (config : Config) (turns : Turns M (Part I O) Made T) (old new : Hand M (Part I O) Made T g) (e : BoardEntry)
      → IsBetween config turns old → MakesTurn config old new e → KeepsReceipts config (made_by old) (made_by new)
  makes_keeps config turns old new e b makes =
      let list : made_by new ≡ with_turn (made_by old) (list_of makes.rows) (entry_of makes.row) =
      ap (λ (rows : List (table.Entry Made T)). list_of rows) makes.list_is ∙ turn_list (entries old) makes.rows makes.row in
      subst (λ (k : List Entry). KeepsReceipts config (made_by old) k) (sym list)
      (turn_keeps config (made_by old) (list_of makes.rows) (entry_of makes.row) b.orderly makes.turn b.receiving)

  pub follows_keeps : (config : Config) (turns : Turns M (Part I O) Made T) (old new : Hand M (Part I O) Made T g) (now : ℕ) (answer : ControlTurn) (made : Option RequestRecord)
      → IsBetween config turns old → FollowsTake config old new now answer made → KeepsReceipts config (made_by old) (made_by new)
  follows_keeps config turns old new now answer None b follows =
      subst (λ h. KeepsReceipts config (made_by old) (made_by h)) (sym follows.1) (λ r of. of)
  follows_keeps config turns old new now answer (Some x) b follows =
      makes_keeps config turns old new (entry_at config (board_of (made_by old)) (moment_at (board_of (made_by old)) now) x) b follows.1
