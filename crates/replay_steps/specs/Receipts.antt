-- The receipts that a replay holds.
use Rattle.std.specs.Prelude.{◌≡◌, ℕ, Bool, ◌==◌, List, [], ◌∷◌, ◌++◌, None, position}
use Rattle.relay_outside.specs.declared.settings.Config.{Config}
use Rattle.call_cell.specs.Cells as cells
use Rattle.relay_core.specs.Entries.{Entry}
use Rattle.media_lane.specs.declared.receipt.Receipt.{Receipt}
use Rattle.media_lane.specs.Lanes.{pair_of, packet_of}
use Rattle.media_lane.specs.Steps.{IsIn, AreOfTwoTakes}

-- a receipt under its number
abbrev pub NumberedReceipt : Type 0
NumberedReceipt = ℕ × Receipt

-- the receipts in the order of their takes, how many were given out, and how many there is room for
pub record ReceiptList : Type 0 where
  pub list : List NumberedReceipt
  pub received : ℕ
  pub room : ℕ

abbrev pub receipt_has_number : ℕ → NumberedReceipt → Bool
receipt_has_number number h = h.0 == number

-- none has this number
abbrev pub LacksNumber : ℕ → List NumberedReceipt → Type 0
LacksNumber number list = position (receipt_has_number number) list ≡ None

-- the receipt of this number is held no more
pub record TakesOut (number : ℕ) (receipt : Receipt) (old new : ReceiptList) : Type 0 where
  pub before : List NumberedReceipt
  pub after : List NumberedReceipt
  pub old_is : old.list ≡ before ++ (number, receipt) ∷ after
  pub new_is : new.list ≡ before ++ after
  pub received_is : new.received ≡ old.received
  pub room_is : new.room ≡ old.room

-- a receipt with the pair whose box it was taken from
abbrev pub taken_with_pair : Receipt → ℕ × cells.Receipt
taken_with_pair r = (pair_of r, packet_of r)

-- it is of another take than each of these
abbrev pub IsApart : Receipt → List NumberedReceipt → Type 0
IsApart r [] = Unit {0}
IsApart r (h ∷ list) = AreOfTwoTakes (taken_with_pair r) (taken_with_pair h.1) × IsApart r list

-- all are receipts of the list, of different takes
abbrev pub AreReceipts : Config → List Entry → List NumberedReceipt → Type 0
AreReceipts config l [] = Unit {0}
AreReceipts config l (h ∷ list) = IsIn config l (taken_with_pair h.1) × IsApart h.1 list × AreReceipts config l list
