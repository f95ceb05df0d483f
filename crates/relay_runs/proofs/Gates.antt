-- The gate that a run is handed was passed at the cell of each of its relays.
use Rattle.std.proofs.Common.{◌≡◌, ◌∙◌, ap, subst, sym, ℕ, ◌⊎◌, inl, inr, true, false, List, [], ◌∷◌, ◌++◌, Option, None, Some, map}
use Rattle.std.proofs.lemmas.List.{map-append}
use Rattle.relay_outside.specs.declared.settings.Config.{Config}
use Rattle.histories.specs.Words.{In, here, there}
use Rattle.histories.proofs.Lists.{in_append, maps}
use Rattle.turn_table.specs.declared.hands.Hand.{Hand}
use Rattle.turn_table.specs.Hands.{entries}
use Rattle.call_cell.specs.Cells.{Relay, Relayed}
use Rattle.call_board.specs.Acts.{Call, BoardEntry}
use Rattle.relay_core.specs.declared.part.Part.{Part}
use Rattle.relay_core.specs.Entries.{Event, Cell, Entry, is_nested, board_at}
use Rattle.relay_core.specs.Legal.{Orderly}
use Rattle.relay_core.specs.Records.{Made, entry_of, list_of, as_logged, logged_event, logged_relay}
use Rattle.relay_core.specs.Turns.{IsTurn, with_turn, made_by}
use Rattle.relay_core.proofs.Recording.{turn_list}
use Rattle.relay_core.proofs.Turns.{turn_elsewhere}
use Rattle.media_lane.specs.Gates.{AreGated, GainsGated}
use Rattle.media_lane.specs.Visits.{Row}
use Rattle.media_lane.proofs.Gates.{gated_more, gated_both}
use Rattle.board_turns.specs.Between.{MakesTurn}
use Rattle.board_turns.specs.Controls.{RequestRecord}
use Rattle.ng_server.specs.declared.control_turn.ControlTurn.{ControlTurn}
use Rattle.ng_server.specs.ControlTurns.{FollowsTake}
use Rattle.relay_runs.specs.Rounds.{all_of}
use Rattle.relay_runs.specs.RunStates.{DidTick}

-- A turn of the board relays nothing.

pub nested_no_relay : (v : Event) (x : Relayed) → is_nested v ≡ true → v ≡ Cell (Relay x) → ⊥
nested_no_relay v x nested is = absurd (let k : false ≡ true = ap (λ (w : Event). is_nested w) (sym is) ∙ nested in cc)

pub board_no_relay : (moment : ℕ) (v : Event) (b : BoardEntry) (x : Relayed) → board_at moment v ≡ Some b → v ≡ Cell (Relay x) → ⊥
board_no_relay moment v b x at is = absurd (let k : None ≡ Some b = ap (λ (w : Event). board_at moment w) (sym is) ∙ at in cc)

module _ (gate : ℕ → Type 0) (config : Config) (l ns : List Entry) (b : Entry) (o : Orderly config l) (t : IsTurn config l ns b) where
  nested_case : (e : Entry) (x : Relayed) → In e l ⊎ In e ns → e.event ≡ Cell (Relay x) → In e l ⊎ gate e.place
  nested_case e x (inl i) q = inl i
  nested_case e x (inr i) q = absurd (nested_no_relay e.event x (turn_elsewhere config l ns b o t e i).0 q)

  last_case : (e : Entry) (x : Relayed) → In e (b ∷ []) → e.event ≡ Cell (Relay x) → In e l ⊎ gate e.place
  last_case e x (here p) q = absurd (board_no_relay b.moment b.event t.entry x t.is (ap (λ (y : Entry). y.event) (sym p) ∙ q))
  last_case e x (there i) q = elim i [ ]

  turn_case : (e : Entry) (x : Relayed) → In e (l ++ ns) ⊎ In e (b ∷ []) → e.event ≡ Cell (Relay x) → In e l ⊎ gate e.place
  turn_case e x (inl i) q = nested_case e x (in_append l ns i) q
  turn_case e x (inr i) q = last_case e x i q

  turn_gains : GainsGated gate l (with_turn l ns b)
  turn_gains e x i q = turn_case e x (in_append (l ++ ns) (b ∷ []) i) q

module _ {M I O : Type 0} {g : _} (gate : ℕ → Type 0) (config : Config) (old new : Hand M (Part I O) Made (Unit {0}) g) where
  pub makes_gated : (e : BoardEntry) → Orderly config (made_by old) → MakesTurn config old new e → AreGated gate (made_by old) → AreGated gate (made_by new)
  makes_gated e orderly makes gated =
      let list : made_by new ≡ with_turn (made_by old) (list_of makes.rows) (entry_of makes.row) =
      ap (λ (rows : List Row). list_of rows) makes.list_is ∙ turn_list (entries old) makes.rows makes.row in
      subst (λ (l : List Entry). AreGated gate l) (sym list)
      (gated_more gate (made_by old) (with_turn (made_by old) (list_of makes.rows) (entry_of makes.row)) gated
      (turn_gains gate config (made_by old) (list_of makes.rows) (entry_of makes.row) orderly makes.turn))

  still_gated : new ≡ old → AreGated gate (made_by old) → AreGated gate (made_by new)
  still_gated same gated = subst (λ (h : Hand M (Part I O) Made (Unit {0}) g). AreGated gate (made_by h)) (sym same) gated

  -- a control turn
  pub follows_gated : (now : ℕ) (answer : ControlTurn) (made : Option RequestRecord) → Orderly config (made_by old) → FollowsTake config old new now answer made
      → AreGated gate (made_by old) → AreGated gate (made_by new)
  follows_gated now answer None orderly follows gated = still_gated follows.1 gated
  follows_gated now answer (Some x) orderly follows gated = makes_gated _ orderly follows.1 gated

  -- a tick
  pub ticked_gated : (now : ℕ) (ticked : Option (List Call)) → Orderly config (made_by old) → DidTick config old new now ticked → AreGated gate (made_by old)
      → AreGated gate (made_by new)
  ticked_gated now None orderly did gated = still_gated did gated
  ticked_gated now (Some calls) orderly did gated = makes_gated _ orderly did gated

  -- the join of threads: old is the main hand before it, new after it
  pub joined_gated : (beside : List (List Row)) → entries new ≡ entries old ++ all_of beside → AreGated gate (made_by old) → AreGated gate (list_of (all_of beside))
      → AreGated gate (made_by new)
  joined_gated beside joined main threads =
      subst (λ (rows : List Row). AreGated gate (list_of rows)) (sym joined)
      (subst (λ (l : List Entry). AreGated gate l) (sym (map-append entry_of (entries old) (all_of beside)))
      (gated_both gate (made_by old) (list_of (all_of beside)) main threads))

-- of what is recorded of a list it is known, and so of the list
pub told_gated : (gate : ℕ → Type 0) (l : List Entry) → AreGated gate (map as_logged l) → AreGated gate l
told_gated gate l gated e x i q = gated (as_logged e) (logged_relay x.packet x.deed.outcome) (maps as_logged l i) (ap (λ (v : Event). logged_event v) q)
