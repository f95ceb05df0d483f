-- What a take and a relay by the main hand leave of its list.
use Rattle.std.specs.Prelude.{◌≡◌, ℕ, max, List, [], ◌∷◌, ◌++◌, map}
use Rattle.relay_outside.specs.declared.settings.Config.{Config}
use Rattle.rtp_packet.specs.declared.head.Half.{Half}
use Rattle.port_pool.specs.Boxes as box
use Rattle.port_pool.specs.Boxes.{Taken, FitsTaken, holder}
use Rattle.call_cell.specs.declared.outcome.Outcome.{Outcome}
use Rattle.call_cell.specs.Cells as cells
use Rattle.call_cell.specs.Cells.{Receipt, CellEntry, Deed, since_end}
use Rattle.call_cell.specs.CellHistories.{cell_last_moment}
use Rattle.call_cell.specs.Deeds.{deed}
use Rattle.call_cell.specs.Good.{FittingCell}
use Rattle.call_cell.specs.LegHistories.{sent_ok}
use Rattle.relay_core.specs.Entries.{Entry, Cell, Box, box_of, cell_history, box_history}
use Rattle.relay_core.specs.Records.{logged_relay}
use Rattle.relay_core.specs.PlaceHistories.{logged_entry}
use Rattle.relay_core.specs.Turns.{IsAbove}
use Rattle.media_lane.specs.declared.answers.Received.{Received}
use Rattle.media_lane.specs.declared.answers.Received.TheVariants as answer
use Rattle.media_lane.specs.Lanes.{packet_of, pair_of}
use Rattle.media_lane.specs.Receipts.{IsReceiptOf}
use Rattle.media_lane.specs.Relays.{AreSent}
use Rattle.media_lane.specs.Takes.{TellsOfTake}

-- a take of a half at the box of a pair, as the table records it
abbrev pub take_entry : Config → (pair : ℕ) → Half → (number : ℕ) → Taken → Entry
take_entry config pair half number taken =
    record { place = box_of config pair; number = number; moment = 0; board = 0; event = Box (box.Take half taken) }

-- one take of it was made, with this result: after all that the list has of the box, and Closed exactly where the box has no
-- holder
pub record Took (config : Config) (l : List Entry) (pair : ℕ) (half : Half) (answer : Received) (new : List Entry) : Type 0 where
  pub number : ℕ
  pub at_front : IsAbove l (box_of config pair) number
  pub taken : Taken
  pub fits : FitsTaken (holder (box_history l (box_of config pair) number)) taken
  pub list_is : new ≡ l ++ take_entry config pair half number taken ∷ []
  pub tells : TellsOfTake answer pair number half taken

-- a relay as the table records it: by its packet and its outcome
abbrev pub recorded_relay : Receipt → (number moment : ℕ) → Outcome → Entry
recorded_relay p number moment outcome =
    record { place = p.holder.cell; number = number; moment = moment; board = 0; event = Cell (cells.Relay (logged_relay p outcome)) }

-- the packet was relayed once, with this outcome
pub record RelayedOnce (l : List Entry) (p : Receipt) (outcome : Outcome) (new : List Entry) : Type 0 where
  pub number : ℕ
  pub moment : ℕ
  pub list_is : new ≡ l ++ recorded_relay p number moment outcome ∷ []

-- what a relay of the packet does after this history of its cell, where its send comes to this outcome
abbrev pub deed_after : Config → List CellEntry → Receipt → Outcome → Deed
deed_after config h p outcome = deed config (since_end h) p (sent_ok outcome)

-- The packet was relayed once, handed this moment: with the outcome, and with the bytes that were sent, that the whole history of its
-- cell demands. Of the relays in that history the list records the outcomes, and the rest follows from these.
pub record RelaysBy (config : Config) (l : List Entry) (p : Receipt) (now : ℕ) (outcome : Outcome) (bytes : List ℕ) (new : List Entry) : Type 0 where
  pub number : ℕ
  -- the list has no later entry of the cell
  pub at_front : IsAbove l p.holder.cell number
  pub history : List CellEntry
  pub recorded : map logged_entry history ≡ cell_history l p.holder.cell number
  pub fitting : FittingCell config history
  pub outcome_is : outcome ≡ (deed_after config history p outcome).outcome
  pub bytes_are : AreSent outcome (deed_after config history p outcome).sending bytes
  -- at the moment that was handed in, or at the cell's last one, where that is later
  pub list_is : new ≡ l ++ recorded_relay p number (max now (cell_last_moment history)) outcome ∷ []

-- a receipt with the pair whose box it was taken from is one of the list
abbrev pub IsIn : Config → List Entry → ℕ × Receipt → Type 0
IsIn config l r = IsReceiptOf config l r.0 r.1

-- what is a receipt of the one list is one of the other
abbrev pub KeepsReceipts : Config → List Entry → List Entry → Type 0
KeepsReceipts config l new = (r : ℕ × Receipt) → IsIn config l r → IsIn config new r

-- they are of different takes
abbrev pub AreOfTwoTakes : ℕ × Receipt → ℕ × Receipt → Type 0
AreOfTwoTakes r s = r.0 ≡ s.0 → r.1.take ≡ s.1.take → ⊥

-- but for those of this take
abbrev pub KeepsOthers : Config → List Entry → ℕ × Receipt → List Entry → Type 0
KeepsOthers config l one new = (r : ℕ × Receipt) → AreOfTwoTakes one r → IsIn config l r → IsIn config new r

-- a receipt that is returned is of another take than all receipts of this list
abbrev pub IsNew : Config → List Entry → Received → Type 0
IsNew config l (answer.Got r) = (s : ℕ × Receipt) → IsIn config l s → AreOfTwoTakes (pair_of r, packet_of r) s
IsNew config l _ = Unit {0}
