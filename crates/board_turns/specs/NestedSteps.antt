-- Who may make nested steps, and what such a step tells.
use Rattle.std.specs.Prelude.{◌≡◌, ◌++◌, ℕ, List, [], ◌∷◌, Option, Some, None, IsSome}
use Rattle.relay_outside.specs.declared.settings.Config.{Config}
use Rattle.relay_outside.specs.declared.ports.InCall.{InCall}
use Rattle.relay_outside.specs.declared.ports.OutCall.{OutCall}
use Rattle.relay_outside.specs.DeviceLogs.{EndLog}
use Rattle.turn_table.specs.declared.hands.Turns.{Turns}
use Rattle.turn_table.specs.declared.hands.Hand.{Hand}
use Rattle.turn_table.specs.declared.machine.Entry as table
use Rattle.turn_table.specs.Hands.{IsHandOf, IsMain, HasPlace, IsGiven, starts, entries}
use Rattle.port_pool.specs.declared.pairs.Lease.{Lease}
use Rattle.port_pool.specs.declared.boxes.PairBox.{PairBox}
use Rattle.port_pool.specs.declared.holder.Holder.{Holder}
use Rattle.port_pool.specs.Boxes.{Close}
use Rattle.port_pool.specs.PairBoxes.{ends_in}
use Rattle.relay_core.specs.declared.part.Part.{Part}
use Rattle.relay_core.specs.declared.part.Part.TheVariants as part
use Rattle.relay_core.specs.Entries.{Event, Box, box_of}
use Rattle.relay_core.specs.Scripts.{Owed}
use Rattle.relay_core.specs.Records.{Left, Made, nothing_left}
use Rattle.relay_core.specs.Steps.{Relates, IsReserved, legs_left}
use Rattle.relay_core.specs.FirstPlaces.{AreParts}
use Rattle.relay_core.specs.WholeParts.{AreWholeParts}
use Rattle.relay_core.specs.KeptAfter.{holder_after}
use Rattle.relay_core.specs.Turns.{Numbered, made_by}

-- The hand is the main hand of this table, which began with the parts of the configuration; it has no turn but the board's, if
-- any, and its list has each entry once
pub record MayNest {M I O T : Type 0} {g : _} (config : Config) (turns : Turns M (Part I O) Made T) (hand : Hand M (Part I O) Made T g) : Type 0 where
  pub of_table : IsHandOf turns hand
  pub main : IsMain hand
  pub alone : (k : ℕ) → HasPlace hand k → k ≡ 0
  pub parts : AreParts config (starts hand)
  pub whole_parts : AreWholeParts config (starts hand)
  pub numbered : Numbered (made_by hand)

-- a step that was handed this moment, as the table records it, and by which this leaves its place
abbrev pub leaving : (number handed moment : ℕ) → Event → Left → Made
leaving number handed moment event left = record { handed = handed; moment = moment; board = number; returned = []; event = event; left = left; kept = None }

-- the same of one by which nothing leaves
abbrev pub nested : (number handed moment : ℕ) → Event → Made
nested number handed moment event = leaving number handed moment event nothing_left

-- the in ends of a box leave
abbrev pub ends_left : {I : Type 0} → (I → EndLog InCall) → I × I → Left
ends_left log ends = record { rtp = (log ends.0).calls; rtcp = (log ends.1).calls; legs = [] }

-- legs of a cell go
abbrev pub gone_left : {O : Type 0} → (O → EndLog OutCall) → List (Lease × O × O) → Left
gone_left log gone = record { rtp = Some []; rtcp = Some []; legs = legs_left log gone }

-- the hand's list gained one row of that place, with this event, and by which this left
pub record AddsRow {M S T : Type 0} {g : _} (place : ℕ) (event : Event) (left : Left) (old new : Hand M S Made T g) : Type 0 where
  pub row : table.Entry Made T
  pub list_is : entries new ≡ entries old ++ row ∷ []
  pub place_is : row.place ≡ place
  pub event_is : row.event.event ≡ event
  pub left_is : row.event.left ≡ left

-- Boxes.

module _ {M I O T : Type 0} {g : _} where
  -- the leg that the box of a pair is open for: that of the start, after what the hand's list has of the box
  abbrev pub holder_now : Config → Hand M (Part I O) Made T g → (pair : ℕ) → Option Holder
  holder_now config hand pair = holder_after config (starts hand) (made_by hand) pair

  -- by that, the box of the pair is shut, or open
  abbrev pub IsShut : Config → Hand M (Part I O) Made T g → (pair : ℕ) → Type 0
  IsShut config hand pair = holder_now config hand pair ≡ None

  abbrev pub IsTurnOpen : Config → Hand M (Part I O) Made T g → (pair : ℕ) → Type 0
  IsTurnOpen config hand pair = IsSome (holder_now config hand pair)

-- the closing of a pair's box
abbrev pub closing_of : Config → ℕ → Owed
closing_of config pair = record { place = box_of config pair; event = Box Close }

module _ {I O : Type 0} (in_told : I → EndLog InCall) (in_faults : I → ℕ) (out_told : O → EndLog OutCall) (out_faults : O → ℕ) where
  -- at the place, the step was made from this state, which is what the entries there before it leave, to that one
  pub record IsStep {M T : Type 0} {g : _} (hand : Hand M (Part I O) Made T g) (place : ℕ) (old : Part I O) (made : Made) (new : Part I O) : Type 0 where
    pub number : ℕ
    pub given : IsGiven (λ (a : Part I O) (m : Made) (o : T) (b : Part I O). Relates in_told in_faults out_told out_faults a m b) IsReserved hand place number old
    pub relates : Relates in_told in_faults out_told out_faults old made new

  -- the box of the place was opened, and these are its ends
  pub record OpensBox {M T : Type 0} {g : _} (hand : Hand M (Part I O) Made T g) (place : ℕ) (made : Made) (ends : I × I) : Type 0 where
    pub old : PairBox I
    pub new : PairBox I
    pub step : IsStep hand place (part.Pair old) made (part.Pair new)
    pub ends_are : ends_in new ≡ Some ends

  -- the box of the place was shut, and these were its ends
  pub record Shuts {M T : Type 0} {g : _} (hand : Hand M (Part I O) Made T g) (place : ℕ) (made : Made) (ends : I × I) : Type 0 where
    pub old : PairBox I
    pub new : PairBox I
    pub step : IsStep hand place (part.Pair old) made (part.Pair new)
    pub ends_are : ends_in old ≡ Some ends
