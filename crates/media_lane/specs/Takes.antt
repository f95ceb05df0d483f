-- What a take by a lane adds to the list of its hand.
use Rattle.std.specs.Prelude.{◌≡◌, ◌⊎◌, ◌≤◌, ℕ, List, [], ◌∷◌, ◌++◌, length, None}
use Rattle.relay_outside.specs.declared.address.Addr.{Addr}
use Rattle.relay_outside.specs.declared.settings.Config.{Config}
use Rattle.relay_outside.specs.declared.ports.InCall.{InCall}
use Rattle.relay_outside.specs.declared.ports.OutCall.{OutCall}
use Rattle.relay_outside.specs.DeviceLogs.{EndLog}
use Rattle.rtp_packet.specs.declared.head.Half.{Half}
use Rattle.turn_table.specs.declared.hands.Hand.{Hand}
use Rattle.turn_table.specs.Hands.{entries, TriedOnce, TriedUntilFree}
use Rattle.turn_table.specs.Steps.{entry}
use Rattle.port_pool.specs.declared.boxes.BoxTake.{BoxTake}
use Rattle.port_pool.specs.declared.boxes.PairBox.{PairBox}
use Rattle.port_pool.specs.Boxes as box
use Rattle.port_pool.specs.Boxes.{Taken, FitsTaken}
use Rattle.port_pool.specs.PairBoxes.{holder_in}
use Rattle.port_pool.specs.Takes as taking
use Rattle.relay_core.specs.declared.part.Part.{Part}
use Rattle.relay_core.specs.declared.part.Part.TheVariants as part
use Rattle.relay_core.specs.Entries.{Box, Entry, box_of}
use Rattle.relay_core.specs.Records.{Made, nothing_left}
use Rattle.relay_core.specs.Steps.{BoxStep}
use Rattle.media_lane.specs.declared.receipt.Receipt.{Receipt}
use Rattle.media_lane.specs.declared.answers.Received.{Received}
use Rattle.media_lane.specs.declared.answers.Received.TheVariants as answer
use Rattle.media_lane.specs.Lanes.{packet_of, pair_of}
use Rattle.media_lane.specs.Busy.{Gives, FindsBusy}
use Rattle.media_lane.specs.Receipts.{IsReceiptOf}

-- a take as the table records it
abbrev pub take_made : Half → Taken → Made
take_made half taken = record { handed = 0; moment = 0; board = 0; returned = []; event = Box (box.Take half taken); left = nothing_left; kept = None }

-- the same by the result of a take of a box and the bytes of the buffer after it
abbrev pub box_take_made : Half → BoxTake → List ℕ → Made
box_take_made half given buf = take_made half (taking.taken_within given buf)

-- the receipt is of the take with this number, of this half, at the box of this pair
pub record IsOfTake (r : Receipt) (pair number : ℕ) (half : Half) (taken : Taken) : Type 0 where
  pub pair_is : pair_of r ≡ pair
  pub number_is : (packet_of r).take ≡ number
  pub half_is : (packet_of r).half ≡ half
  pub gave : taken ≡ box.Datagram (packet_of r).holder (packet_of r).source (packet_of r).bytes

-- what the answer says of the take that was made
abbrev pub TellsOfTake : Received → ℕ → ℕ → Half → Taken → Type 0
TellsOfTake (answer.Got r) pair number half taken = IsOfTake r pair number half taken
TellsOfTake answer.Nothing pair number half taken = (taken ≡ box.Closed) ⊎ (taken ≡ box.Nothing)
TellsOfTake (answer.Busy front) pair number half taken = ⊥
TellsOfTake answer.TooLong pair number half taken = (source : Addr) × (bytes : List ℕ) × (taken ≡ box.TooLong source bytes)
TellsOfTake answer.TakeFault pair number half taken = taken ≡ box.Fault

-- a datagram that was taken has at most 2,000 bytes
abbrev pub IsShort : Taken → Type 0
IsShort (box.Datagram holder source bytes) = length bytes ≤ 2000
IsShort _ = Unit {0}

-- a receipt that was returned is one of the list
abbrev pub HasReceipt : Config → List Entry → Received → Type 0
HasReceipt config l (answer.Got r) = IsReceiptOf config l (pair_of r) (packet_of r)
HasReceipt config l _ = Unit {0}

module _ {I O : Type 0} (in_told : I → EndLog InCall) (in_faults : I → ℕ) (out_told : O → EndLog OutCall) (out_faults : O → ℕ) {M : Type 0} {g : _} where
  -- The hand made one take of this half at the box of this pair, and nothing else: a step from the state that its turn gave. It tried
  -- the marks of places in this way.
  pub record MakesTake (Tried : Type 0) (config : Config) (pair : ℕ) (half : Half) (answer : Received) (old new : Hand M (Part I O) Made (Unit {0}) g) : Type 0 where
    pub number : ℕ
    pub taken : Taken
    pub list_is : entries new ≡ entries old ++ entry (box_of config pair) number (take_made half taken) tt ∷ []
    pub tells : TellsOfTake answer pair number half taken
    pub found : Tried
    pub before : PairBox I
    pub after : PairBox I
    pub given : Gives in_told in_faults out_told out_faults old (box_of config pair) number (part.Pair before)
    -- Closed exactly where the box has no holder
    pub fits : FitsTaken (holder_in before) taken
    -- one take of the end, which gave this; a fault only where its count rose
    pub step : BoxStep in_told in_faults before (take_made half taken) (box.Take half taken) after

  -- it took so, and the one compare-exchange of the box's mark found it free
  abbrev pub TakesAtBox : Config → ℕ → Half → Received → Hand M (Part I O) Made (Unit {0}) g → Hand M (Part I O) Made (Unit {0}) g → Type 0
  TakesAtBox config pair half answer old new = MakesTake (TriedOnce (box_of config pair) 0 old new) config pair half answer old new

  -- it took so, and tried the box's mark until it was free
  abbrev pub TakesAtLast : Config → ℕ → Half → Received → Hand M (Part I O) Made (Unit {0}) g → Hand M (Part I O) Made (Unit {0}) g → Type 0
  TakesAtLast config pair half answer old new = MakesTake (TriedUntilFree (box_of config pair) old new) config pair half answer old new

  -- the place was busy, or one take was made
  abbrev pub Receives : Config → ℕ → Half → Received → Hand M (Part I O) Made (Unit {0}) g → Hand M (Part I O) Made (Unit {0}) g → Type 0
  Receives config pair half (answer.Busy front) old new = FindsBusy in_told in_faults out_told out_faults (box_of config pair) front old new
  Receives config pair half (answer.Got r) old new = TakesAtBox config pair half (answer.Got r) old new
  Receives config pair half answer.Nothing old new = TakesAtBox config pair half answer.Nothing old new
  Receives config pair half answer.TooLong old new = TakesAtBox config pair half answer.TooLong old new
  Receives config pair half answer.TakeFault old new = TakesAtBox config pair half answer.TakeFault old new
