-- What is known of the lanes of all threads of media: before their work, of their work, and after it.
use Rattle.std.specs.Prelude.{◌≡◌, ◌+◌, ◌-◌, ◌/◌, ◌<◌, ◌≤◌, ◌==◌, nat_lt, count_by, ℕ, false, zero, suc, List, [], ◌∷◌, ◌++◌, Option, All, length, map, slice_index_or, slice_set, vec_capacity, Vec}
use Rattle.std.specs.List.{flat_map}
use Rattle.std.specs.List.Sorted.{IsPermutation}
use Rattle.relay_outside.specs.declared.settings.Config.{Config}
use Rattle.turn_table.specs.declared.hands.Turns.{Turns}
use Rattle.turn_table.specs.declared.hands.Hand.{Hand}
use Rattle.turn_table.specs.Hands.{IsHandOf, view, entries, parts}
use Rattle.histories.specs.Words.{In}
use Rattle.relay_core.specs.declared.part.Part.{Part}
use Rattle.relay_core.specs.declared.machine.Relay.{Relay}
use Rattle.relay_core.specs.Entries.{Entry}
use Rattle.relay_core.specs.Records.{Made}
use Rattle.relay_core.specs.Turns.{made_by}
use Rattle.media_lane.specs.declared.answers.Totals.{Totals}
use Rattle.media_lane.specs.Lanes.{hand_in, config_in, index_in, lanes_in, lane_list, IsSameHandOf}
use Rattle.media_lane.specs.SweepLoops.{AddsTotals, AreSweeps, visits_of}
use Rattle.media_lane.specs.Receipts.{KeepsList}
use Rattle.media_lane.specs.Gates.{AreGated, GainsGated}
use Rattle.media_lane.specs.Totals.{HasTotals}
use Rattle.media_lane.specs.Visits.{Row, Visit, all_rows, AreTotals, one_where}
use Rattle.relay_runs.specs.declared.lanes.OwnLane.{OwnLane}
use Rattle.relay_runs.specs.declared.lane_shares.LaneRoom.{LaneRoom}
use Rattle.relay_runs.specs.declared.media_thread.MediaThread.{MediaThread}
use Rattle.relay_runs.specs.declared.media_thread.Until.{Until}
use Rattle.relay_runs.specs.declared.media_thread.Until.TheVariants as until
use Rattle.relay_runs.specs.Rounds.{IsLane, AreLanes, all_of}

-- each number below this one is among them once, and no other is
abbrev pub AreNumbers : ℕ → List ℕ → Type 0
AreNumbers lanes numbers = (i : ℕ) → count_by (λ j. j == i) numbers ≡ one_where (nat_lt i lanes)

-- for how many datagrams a thread waits
abbrev pub due_of : Until → ℕ
due_of until.Halted = 0
due_of (until.Taken due) = due

-- A thread that relays until then goes on after it took so many datagrams: always, where it does so until the halt word is set
abbrev pub GoesOn : Until → (taken : ℕ) → Type 0
GoesOn until.Halted taken = Unit {0}
GoesOn (until.Taken due) taken = taken < due

-- how many of so many pairs are those of the lane with this index, of so many lanes: their numbers are the index modulo the number of lanes
abbrev pub pairs_of_lane : (pairs lanes index : ℕ) → ℕ
pairs_of_lane pairs lanes index = (pairs + (lanes - 1 - index)) / lanes

-- how many are those of the first lanes
abbrev pub pairs_before : (pairs lanes index : ℕ) → ℕ
pairs_before pairs lanes zero = 0
pairs_before pairs lanes (suc index) = pairs_before pairs lanes index + pairs_of_lane pairs lanes index

module _ {I O : Type 0} {gi : _} {go : _} {gm : _} where
  -- how many datagrams these lanes took
  abbrev pub lanes_took : List (OwnLane I O gi go gm) → ℕ
  lanes_took [] = 0
  lanes_took (own ∷ more) = own.totals.taken + lanes_took more

  -- for how many datagrams these threads wait
  abbrev pub due_in : List (MediaThread I O gi go gm) → ℕ
  due_in [] = 0
  due_in (thread ∷ more) = due_of thread.until + due_in more

  abbrev pub lane_rows : OwnLane I O gi go gm → List Row
  lane_rows own = entries (hand_in own.lane)

  -- the lanes of all threads, thread by thread
  abbrev pub all_lanes : List (MediaThread I O gi go gm) → List (OwnLane I O gi go gm)
  all_lanes threads = flat_map (λ (thread : MediaThread I O gi go gm). thread.lanes.items) threads

  -- their numbers
  abbrev pub numbers_of : List (OwnLane I O gi go gm) → List ℕ
  numbers_of lanes = map (λ (own : OwnLane I O gi go gm). index_in own.lane) lanes

  -- their rows, lane by lane
  abbrev pub rows_each : List (OwnLane I O gi go gm) → List (List Row)
  rows_each lanes = map (λ (own : OwnLane I O gi go gm). lane_rows own) lanes

  -- the number of each is its place in the list
  abbrev pub AreInOrder : List (OwnLane I O gi go gm) → Type 0
  AreInOrder lanes = (i : ℕ) (d : OwnLane I O gi go gm) → i < length lanes → index_in (slice_index_or lanes i d).lane ≡ i

  -- an empty list has room for so many lanes
  abbrev pub HasLaneRoom : {A : Type 0} → ℕ → Vec (OwnLane I O gi go gm) A → Type 0
  HasLaneRoom lanes room = (room.items ≡ []) × (lanes ≤ vec_capacity room)

  -- it has no lane yet, and room for so many
  pub record HasRoomForLanes (lanes : ℕ) (thread : MediaThread I O gi go gm) : Type 0 where
    pub empty : thread.lanes.items ≡ []
    pub room : lanes ≤ vec_capacity thread.lanes

  -- there are so many threads, none of which has a lane yet, each with room for so many, and an empty list has room for as many
  pub record IsRoomFor (threads lanes : ℕ) (room : LaneRoom I O gi go gm) : Type 0 where
    pub as_many : length room.threads.items ≡ threads
    pub each : All (λ thread. HasRoomForLanes lanes thread) room.threads.items
    pub in_all : HasLaneRoom lanes room.lanes

  -- the thread at this place has this lane more, and nothing else is new
  pub record AddsLane (at : ℕ) (own : OwnLane I O gi go gm) (old new : List (MediaThread I O gi go gm)) : Type 0 where
    pub grown : MediaThread I O gi go gm
    pub new_is : new ≡ slice_set old at grown
    pub lanes_are : (d : MediaThread I O gi go gm) → grown.lanes.items ≡ (slice_index_or old at d).lanes.items ++ own ∷ []
    pub room : (d : MediaThread I O gi go gm) → vec_capacity grown.lanes ≡ vec_capacity (slice_index_or old at d).lanes
    pub until : (d : MediaThread I O gi go gm) → grown.until ≡ (slice_index_or old at d).until

  -- each has a hand of this table
  abbrev pub AreOfTable : Turns (Relay I O) (Part I O) Made (Unit {0}) → List (OwnLane I O gi go gm) → Type 0
  AreOfTable turns lanes = All (λ own. IsHandOf turns (hand_in own.lane)) lanes

  -- its hand has one part of the table's, and isn't the main one
  pub record MayJoin (turns : Turns (Relay I O) (Part I O) Made (Unit {0})) (own : OwnLane I O gi go gm) : Type 0 where
    pub of_table : IsHandOf turns (hand_in own.lane)
    pub one_part : parts (hand_in own.lane) ≡ 1
    pub not_main : (view (hand_in own.lane)).main ≡ false

  -- what came of their packets is added, of one after the other
  abbrev pub AddsEach : List (OwnLane I O gi go gm) → Totals → Totals → Type 0
  AddsEach [] old new = new ≡ old
  AddsEach (own ∷ more) old new = (mid : Totals) × AddsTotals old own.totals mid × AddsEach more mid new

  -- The main hand took in the hands of all lanes of these threads, in the order of the lanes' numbers, and what came of their packets was added
  pub record JoinsInOrder (threads : List (MediaThread I O gi go gm)) (old new : Hand (Relay I O) (Part I O) Made (Unit {0}) gm) (was is : Totals) : Type 0 where
    pub lanes : List (OwnLane I O gi go gm)
    pub are : IsPermutation (all_lanes threads) lanes
    pub in_order : AreInOrder lanes
    pub list_is : entries new ≡ entries old ++ all_of (rows_each lanes)
    pub adds : AddsEach lanes was is

  -- one of so many lanes, which has a part of the table's hands and did nothing yet
  pub record IsFreshLane (config : Config) (turns : Turns (Relay I O) (Part I O) Made (Unit {0})) (lanes : ℕ) (own : OwnLane I O gi go gm) : Type 0 where
    pub of_table : IsHandOf turns (hand_in own.lane)
    pub one_part : parts (hand_in own.lane) ≡ 1
    pub not_main : (view (hand_in own.lane)).main ≡ false
    pub nothing : lane_rows own ≡ []
    pub config_is : config_in own.lane ≡ config
    pub lanes_are : lanes_in own.lane ≡ lanes
    pub no_totals : AreTotals [] own.totals

  -- The same lane made this many sweeps or more, and nothing else, each relay with the gate passed at its cell. What came of their datagrams was
  -- added to its totals
  pub record Swept (least : ℕ) (range : Option (ℕ × ℕ)) (gate : ℕ → Type 0) (old new : OwnLane I O gi go gm) : Type 0 where
    pub same : IsSameHandOf old.lane new.lane
    pub sweeps : List (List Visit)
    pub enough : least ≤ length sweeps
    pub are_sweeps : AreSweeps (config_in old.lane) (index_in old.lane) (lanes_in old.lane) range sweeps
    pub list_is : lane_rows new ≡ lane_rows old ++ all_rows (config_in old.lane) (visits_of sweeps)
    pub totals_are : (before : List Visit) → AreTotals before old.totals → AreTotals (before ++ visits_of sweeps) new.totals
    pub keeps : KeepsList (config_in old.lane) (lane_list old.lane) (lane_list new.lane)
    pub gated : GainsGated gate (lane_list old.lane) (lane_list new.lane)
    pub taken : old.totals.taken ≤ new.totals.taken

  -- so all that a lane did are sweeps of its own pairs
  pub record IsDone (config : Config) (turns : Turns (Relay I O) (Part I O) Made (Unit {0})) (lanes : ℕ) (range : Option (ℕ × ℕ)) (gate : ℕ → Type 0) (own : OwnLane I O gi go gm) : Type 0 where
    pub of_table : IsHandOf turns (hand_in own.lane)
    pub one_part : parts (hand_in own.lane) ≡ 1
    pub not_main : (view (hand_in own.lane)).main ≡ false
    pub is_lane : IsLane config lanes range (index_in own.lane) (lane_rows own)
    pub totals_are : AreTotals (visits_of is_lane.sweeps) own.totals
    pub keeps : KeepsList config [] (lane_list own.lane)
    pub gated : AreGated gate (lane_list own.lane)

-- both lists are of one length, and at each place the relation holds of the old and the new element
pub record Each {X : Type 0} (R : X → X → Type 0) (old new : List X) : Type 0 where
  pub as_many : length new ≡ length old
  pub at : (i : ℕ) (d : X) → i < length old → R (slice_index_or old i d) (slice_index_or new i d)

-- at each place of the list its numbers run from 0
abbrev pub CountsUp : List Entry → Type 0
CountsUp l = (e : Entry) (n : ℕ) → In e l → n ≤ e.number → (f : Entry) × In f l × (f.place ≡ e.place) × (f.number ≡ n)

module _ {M I O : Type 0} {g : _} where
  -- Lanes of media made these rows, and nothing else was done; before them the main hand's list had all entries of each place
  pub record RelaysDue (config : Config) (lanes : ℕ) (range : Option (ℕ × ℕ)) (gate : ℕ → Type 0) (old new : Hand M (Part I O) Made (Unit {0}) g) (was is : Totals) : Type 0 where
    pub beside : List (List Row)
    pub list_is : entries new ≡ entries old ++ all_of beside
    pub are_lanes : AreLanes config lanes range beside
    pub counted : CountsUp (made_by old)
    pub gated : AreGated gate (made_by old) → AreGated gate (made_by new)
    pub totals : HasTotals (made_by old) was → HasTotals (made_by new) is
