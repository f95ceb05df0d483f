-- What the loop of a lane adds to the list of its hand: sweeps, one after the other.
use Rattle.std.specs.Prelude.{◌≡◌, ◌+◌, ◌-◌, ◌^◌, ℕ, min, List, [], ◌∷◌, ◌++◌, Option}
use Rattle.relay_outside.specs.declared.settings.Config.{Config}
use Rattle.rtp_packet.specs.declared.head.Half.{Half}
use Rattle.turn_table.specs.declared.hands.Hand.{Hand}
use Rattle.turn_table.specs.Hands.{entries}
use Rattle.relay_core.specs.Records.{Made}
use Rattle.media_lane.specs.declared.answers.Totals.{Totals}
use Rattle.media_lane.specs.Visits.{Visit, all_rows, ArePassed, visit_times, is_own, one_where, AreTotals}

-- the sum of two counts, up to the end of their type
abbrev pub sum_of : ℕ → ℕ → ℕ
sum_of a b = min (a + b) (2 ^ 64 - 1)

-- the counts of both
pub record AddsTotals (old more new : Totals) : Type 0 where
  pub taken : new.taken ≡ sum_of old.taken more.taken
  pub sent : new.sent ≡ sum_of old.sent more.sent
  pub refused : new.refused ≡ sum_of old.refused more.refused
  pub lost : new.lost ≡ sum_of old.lost more.lost

-- One sweep of a lane, by its visits: each half of each of the lane's own pairs was visited once, in any order, and no other. Each datagram
-- was relayed right after its take, handed a moment of the clock's range
pub record IsSweep (config : Config) (index lanes : ℕ) (range : Option (ℕ × ℕ)) (visits : List Visit) : Type 0 where
  pub passed : ArePassed range visits
  pub own_once : (pair : ℕ) (half : Half) → visit_times pair half visits ≡ one_where (is_own config index lanes pair)

-- sweeps of a lane, of which the latest comes first
abbrev pub AreSweeps : Config → (index lanes : ℕ) → Option (ℕ × ℕ) → List (List Visit) → Type 0
AreSweeps config index lanes range [] = Unit {0}
AreSweeps config index lanes range (visits ∷ before) = AreSweeps config index lanes range before × IsSweep config index lanes range visits

-- their visits, in the order in which they were made
abbrev pub visits_of : List (List Visit) → List Visit
visits_of [] = []
visits_of (visits ∷ before) = visits_of before ++ visits

module _ {M S : Type 0} {g : _} where
  -- These sweeps were made, one after the other, and nothing else was done. The totals are the counts over all that was added
  pub record MakesSweeps (config : Config) (index lanes : ℕ) (range : Option (ℕ × ℕ)) (old new : Hand M S Made (Unit {0}) g) (totals : Totals) : Type 0 where
    pub sweeps : List (List Visit)
    pub are_sweeps : AreSweeps config index lanes range sweeps
    pub list_is : entries new ≡ entries old ++ all_rows config (visits_of sweeps)
    pub totals_are : AreTotals (visits_of sweeps) totals
