-- A tick: the entry of the board that ends each live call that is ending and due, asks the others whether they have timed out, and ends
-- those that have.
use Rattle.std.specs.Prelude.{◌≡◌, ℕ, max, Bool, true, false, List, [], ◌∷◌, length, Option, Some, map, slice_get, if◌then◌else◌}
use Rattle.relay_outside.specs.declared.ports.PortCall.{PortCall}
use Rattle.relay_outside.specs.declared.settings.Config.{Config}
use Rattle.turn_table.specs.declared.hands.Hand.{Hand}
use Rattle.turn_table.specs.Hands.{parts}
use Rattle.histories.specs.Words.{In, has}
use Rattle.port_pool.specs.declared.holder.Holder.{Holder}
use Rattle.call_cell.specs.Demands.{is_due}
use Rattle.call_cell.specs.Cells.{CellEntry, Expire, since_end}
use Rattle.call_cell.specs.CellHistories as cells
use Rattle.call_cell.specs.Good.{FittingCell}
use Rattle.call_board.specs.Calls.{live, is_due_by, is_due_at}
use Rattle.call_board.specs.Acts.{Call, Tick, BoardEntry}
use Rattle.call_board.specs.declared.board.Board.{Board}
use Rattle.call_board.specs.Fits.{named_live, AreNamedWhenDue}
use Rattle.call_board.specs.Futures.{closed_pairs}
use Rattle.call_board.specs.Pairs.{held}
use Rattle.call_board.specs.Boards.{BoardMatches}
use Rattle.call_board.specs.Views.{View, CallView, call_numbered, board_last_moment}
use Rattle.call_board.specs.Shapes.{BoardShape, LiveShape, board_shape}
use Rattle.relay_core.specs.declared.part.Part.{Part}
use Rattle.relay_core.specs.Entries as event
use Rattle.relay_core.specs.Entries.{Entry, cell_history}
use Rattle.relay_core.specs.Records.{Made, nothing_left}
use Rattle.relay_core.specs.Scripts.{Owed, in_cell, script}
use Rattle.relay_core.specs.PlaceHistories.{logged_entry}
use Rattle.relay_core.specs.Turns.{GainsNested, IsAbove, made_by}
use Rattle.media_ports.specs.OpenPorts.{LogsHeld}
use Rattle.board_turns.specs.Between.{board_of, MakesTurn}
use Rattle.board_turns.specs.CallEnds.{CanEnd, IsCallOf, ending_of, leg_pairs, with_call_ended}

-- the tick at this moment that ended these calls
abbrev pub tick_at : ℕ → List Call → BoardEntry
tick_at moment calls = record { moment = moment; event = Tick calls }

-- the same after that history, where this moment is handed in: its own is not before that of the last entry
abbrev pub tick_entry : List BoardEntry → ℕ → List Call → BoardEntry
tick_entry h now calls = tick_at (max now (board_last_moment h)) calls

-- as the table records it, where the board keeps this after it
abbrev pub tick_made : List BoardEntry → ℕ → List Call → (kept : Option BoardShape) → Made
tick_made h now calls kept = record {
  handed = now;
  moment = max now (board_last_moment h);
  board = 0;
  returned = closed_pairs h (tick_entry h now calls);
  event = event.Board (Tick calls);
  left = nothing_left;
  kept = kept;
}

-- One call.

-- what a tick owes of a call: one that is ending and due ends; another one is asked, and ends where it has timed out
abbrev pub asking_of : Config → Call → List Holder → (overdue ends : Bool) → List Owed
asking_of config of legs overdue ends =
    if overdue then ending_of config of legs else in_cell of (Expire ends) ∷ (if ends then ending_of config of legs else [])

-- the call ended, or stayed
abbrev pub with_asked : View → ℕ → List Holder → (ends : Bool) → View
with_asked v call legs ends = if ends then with_call_ended v call legs else v

-- By the whole history of this cell its call has timed out at this moment, or hasn't. Of the relays in that history the list records the outcomes,
-- and the rest follows from these
pub record IsDueBy (config : Config) (l : List Entry) (cell moment : ℕ) (due : Bool) : Type 0 where
  pub number : ℕ
  -- the list has no later entry of the cell
  pub at_front : IsAbove l cell number
  pub history : List CellEntry
  pub recorded : map logged_entry history ≡ cell_history l cell number
  pub fitting : FittingCell config history
  pub due_is : due ≡ is_due config (since_end history) (max moment (cells.cell_last_moment history))

-- A tick at this moment ends the call just where it has to: the call is ending and due, or else it has timed out by its cell's history
pub record EndsRightly (config : Config) (h : List BoardEntry) (l : List Entry) (moment : ℕ) (c : Call) (ends : Bool) : Type 0 where
  pub when_due : is_due_at h c.number moment ≡ true → ends ≡ true
  pub when_timed_out : is_due_at h c.number moment ≡ false → IsDueBy config l c.cell moment ends

module _ {M I O T : Type 0} {g : _} where
  -- The call at this place among the live ones, in order of their creation from 0, may be ended, by what the board, the cells and the boxes keep
  pub record CanAsk (config : Config) (hand : Hand M (Part I O) Made T g) (board : Board) (log : Option (List PortCall)) (index : ℕ) : Type 0 where
    pub live : LiveShape
    pub at : slice_get (board_shape board).calls index ≡ Some live
    pub can : CanEnd config hand board log live.number

  -- The call at this place among the live ones may be ended; its legs by the list; and whether it is ending and due at this moment
  pub record CanExpire (config : Config) (hand : Hand M (Part I O) Made T g) (board : Board) (log : Option (List PortCall)) (moment index : ℕ) (of : Call)
      (legs : List Holder) (overdue : Bool) : Type 0 where
    pub can : CanEnd config hand board log of.number
    pub is_call : IsCallOf config (made_by hand) board of.number of legs
    pub view : View
    pub shows : BoardMatches config board view
    pub seen : CallView
    pub of_is : seen.of ≡ of
    pub at : slice_get view.calls index ≡ Some seen
    pub found : call_numbered view of.number ≡ Some seen
    pub overdue_is : overdue ≡ is_due_by moment seen.due

  -- a live call is among these just where a tick at that moment has to end it, by its cell's history, which a hand with all parts knows in
  -- whole
  abbrev pub AreDue : Config → List BoardEntry → ℕ → Hand M (Part I O) Made T g → List Call → Type 0
  AreDue config h moment hand calls =
      parts hand ≡ 1024 → (c : Call) → In c (live h) → EndsRightly config h (made_by hand) moment c (has (map (λ (d : Call). d.number) calls) c.number)

  -- In the board's turn of this number, which has this history before it and this moment, just these of the live calls, `count` of them,
  -- ended, in order, and each that is ending and due is among them: the list gained what a tick owes that ends these, and just the ports
  -- of the pairs that are held then are open
  pub record EndsDue (config : Config) (h : List BoardEntry) (number moment : ℕ) (old new : Hand M (Part I O) Made T g) (count : ℕ) (log : Option (List PortCall)) (calls : List Call) : Type 0 where
    pub named : calls ≡ named_live h calls
    pub none_passed : AreNamedWhenDue h moment (map (λ (d : Call). d.number) calls) (live h)
    pub due : AreDue config h moment old calls
    pub gained : GainsNested number moment (script config h (tick_at moment calls)) old new
    pub count_is : count ≡ length calls
    pub opens : LogsHeld config log (leg_pairs (held (tick_at moment calls ∷ h)))

  -- The hand's list gained a whole turn of the board, that of a tick at the moment that was handed in, or at the board's last one if
  -- that is later, which ended `count` calls
  pub record Ticks (config : Config) (old new : Hand M (Part I O) Made T g) (now count : ℕ) : Type 0 where
    pub calls : List Call
    pub makes : MakesTurn config old new (tick_entry (board_of (made_by old)) now calls)
    pub due : AreDue config (board_of (made_by old)) (max now (board_last_moment (board_of (made_by old)))) old calls
    pub count_is : count ≡ length calls
